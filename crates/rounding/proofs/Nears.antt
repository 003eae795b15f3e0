-- Nearness adds up: over sums, differences and lists.
use Rattle.std.proofs.Common.{ℕ, ◌+◌, ◌*◌, ◌≤◌, Bool, true, false, cond, List, [], ◌∷◌, ℤ, pos, ◌+ℤ◌, ◌-ℤ◌, ◌*ℤ◌, neg_ℤ, ap, subst, mul-le-mul_right, arith}
use native.Mathlib.Nat.{le_of_mul-le-mul_left}
use borrow.Author.Differences.{ints, up, down, sum_is_lem, product_is, neg_is}
use Rattle.rounding.specs.Frac.{Frac, whole, plus, minus, Same}
use Rattle.rounding.specs.Nearness.{Near}
use Rattle.rounding.specs.Sums.{sum_n, sum_z, sum_q, sum_if, count_if, exact_sum_if}
use Rattle.rounding.proofs.SumLaws.{sum_z_pos, sum_n_times}

pub near_whole : (z : ℤ) → Near (whole z) z 0
near_whole z = record { above = omega (arith, ints); below = omega (arith, ints) }

-- The same on natural numbers: a signed number is its upper part less its lower part.
abbrev Flat : (U D d u w n : ℕ) → Type 0
Flat U D d u w n = (2 * U + 2 * (d * w) ≤ 2 * D + 2 * (d * u) + n * d) × (2 * D + 2 * (d * u) ≤ 2 * U + 2 * (d * w) + n * d)

near_out : (x : Frac) (y : ℤ) (n : ℕ) → Near x y n → Flat (up x.num) (down x.num) x.den (up y) (down y) n
near_out x y n p = (omega (arith, ints), omega (arith, ints))

near_in : (x : Frac) (y : ℤ) (n : ℕ) → Flat (up x.num) (down x.num) x.den (up y) (down y) n → Near x y n
near_in x y n p = record { above = omega (arith, ints); below = omega (arith, ints) }

pub near_add : (x y : Frac) (a b : ℤ) (m n : ℕ) → Near x a m → Near y b n → Near (plus x y) (a +ℤ b) (m + n)
near_add x y a b m n p q =
    let f = near_out x a m p in
    let g = near_out y b n q in
    let e = sum_is_lem (x.num *ℤ pos y.den) (y.num *ℤ pos x.den) in
    let e1 = product_is x.num (pos y.den) in
    let e2 = product_is y.num (pos x.den) in
    let e3 = ap (λ (t : ℕ). (x.den * y.den) * t) (sum_is_lem a b) in
    near_in (plus x y) (a +ℤ b) (m + n) (
      omega (arith, e, e1, e2, e3, mul-le-mul_right y.den f.0, mul-le-mul_right x.den g.0),
      omega (arith, e, e1, e2, e3, mul-le-mul_right y.den f.1, mul-le-mul_right x.den g.1),
    )

pub near_neg : (x : Frac) (a : ℤ) (n : ℕ) → Near x a n → Near (minus x) (neg_ℤ a) n
near_neg x a n p =
    let f = near_out x a n p in
    let e = neg_is a in
    let k = neg_is x.num in
    let e0 = ap (λ (t : ℕ). x.den * t) e.0 in
    let e1 = ap (λ (t : ℕ). x.den * t) e.1 in
    near_in (minus x) (neg_ℤ a) n (omega arith, omega arith)

pub near_sub : (x y : Frac) (a b : ℤ) (m n : ℕ) → Near x a m → Near y b n → Near (plus x (minus y)) (a -ℤ b) (m + n)
near_sub x y a b m n p q = near_add x (minus y) a (neg_ℤ b) m n p (near_neg y b n q)

pub near_more : (x : Frac) (a : ℤ) (m n : ℕ) → m ≤ n → Near x a m → Near x a n
near_more x a m n l p =
    let f = near_out x a m p in
    near_in x a n (omega (arith, mul-le-mul_right x.den l), omega (arith, mul-le-mul_right x.den l))

-- figures of a list, with a count of roundings for each element
pub near_sum : {X : Type 0} (f : X → Frac) (g : X → ℤ) (k : X → ℕ) → ((x : X) → Near (f x) (g x) (k x)) → (xs : List X) → Near (sum_q f xs) (sum_z g xs) (sum_n k xs)
near_sum f g k h [] = near_whole (pos 0)
near_sum f g k h (x ∷ xs) = near_add (f x) (sum_q f xs) (g x) (sum_z g xs) (k x) (sum_n k xs) (h x) (near_sum f g k h xs)

-- figures of those elements that pass a test, k roundings each
near_if : (own : Bool) (x : Frac) (n k : ℕ) → Near x (pos n) k → Near (cond own x (whole (pos 0))) (pos (cond own n 0)) (k * cond own 1 0)
near_if true x n k p = near_more x (pos n) k (k * 1) (omega arith) p
near_if false x n k p = near_more (whole (pos 0)) (pos 0) 0 (k * 0) (omega arith) (near_whole (pos 0))

pub near_sum_if : {X : Type 0} (own : X → Bool) (f : X → Frac) (g : X → ℕ) (k : ℕ) → ((x : X) → Near (f x) (pos (g x)) k) → (xs : List X) → Near (exact_sum_if own f xs) (pos (sum_if own g xs)) (k * count_if own xs)
near_sum_if {X} own f g k h xs =
    let all = near_sum (λ x. cond (own x) (f x) (whole (pos 0))) (λ x. pos (cond (own x) (g x) 0)) (λ x. k * cond (own x) 1 0) (λ x. near_if (own x) (f x) (g x) k (h x)) xs in
    let amounts = sum_z_pos (λ x. cond (own x) (g x) 0) xs in
    let counts = sum_n_times k (λ x. cond (own x) 1 0) xs in
    subst (λ (n : ℕ). Near (exact_sum_if own f xs) (pos (sum_if own g xs)) n) counts
    (subst (λ (z : ℤ). Near (exact_sum_if own f xs) z (sum_n (λ x. k * cond (own x) 1 0) xs)) amounts all)

-- the same value in another fraction is as near
pub near_same : (x y : Frac) (a : ℤ) (n : ℕ) → Same x y → Near x a n → Near y a n
near_same x y a n e p =
    let f = near_out x a n p in
    let e0 = product_is x.num (pos y.den) in
    let e1 = product_is y.num (pos x.den) in
    let u = ap up e in
    let w = ap down e in
    let s = x.some in
    near_in y a n (
      le_of_mul-le-mul_left {k = x.den} (omega (arith, mul-le-mul_right y.den f.0)) s,
      le_of_mul-le-mul_left {k = x.den} (omega (arith, mul-le-mul_right y.den f.1)) s,
    )
