-- What "within n halves" means, and that it adds up.
use Rattle.std.specs.Prelude.{ℕ, ◌+◌, ◌*◌, List, ℤ, pos, ◌+ℤ◌, ◌-ℤ◌, ◌*ℤ◌, ◌≤ℤ◌}
use Rattle.rounding.specs.Frac.{Frac, over, plus, minus}
use Rattle.rounding.specs.Rounding.{rounded}
use Rattle.rounding.specs.Sums.{sum_n, sum_z, sum_q}

-- the fraction x is at most n halves away from the whole number y
pub record Near (x : Frac) (y : ℤ) (n : ℕ) : Type 0 where
  pub above : (pos 2 *ℤ x.num) ≤ℤ ((pos (2 * x.den) *ℤ y) +ℤ pos (n * x.den))
  pub below : (pos (2 * x.den) *ℤ y) ≤ℤ ((pos 2 *ℤ x.num) +ℤ pos (n * x.den))

-- one half for a rounded figure; the halves of a sum, of a difference and of a sum over numbered figures add up
pub record NearLaws : Type 0 where
  pub round : (n d : ℕ) → Near (over n d) (pos (rounded (over n d))) 1
  pub add : (x y : Frac) (a b : ℤ) (m n : ℕ) → Near x a m → Near y b n → Near (plus x y) (a +ℤ b) (m + n)
  pub sub : (x y : Frac) (a b : ℤ) (m n : ℕ) → Near x a m → Near y b n → Near (plus x (minus y)) (a -ℤ b) (m + n)
  pub sum : (f : ℕ → Frac) (g : ℕ → ℤ) (k : ℕ → ℕ) → ((i : ℕ) → Near (f i) (g i) (k i)) → (xs : List ℕ) → Near (sum_q f xs) (sum_z g xs) (sum_n k xs)
