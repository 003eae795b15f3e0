-- Exact values: fractions, a signed numerator over a denominator from 1 up.
use Rattle.std.specs.Prelude.{◌≡◌, ℕ, zero, suc, ◌*◌, ◌≤◌, ℤ, pos, ◌+ℤ◌, ◌*ℤ◌, neg_ℤ, ◌≤ℤ◌}
use Rattle.std.proofs.Common.{zero-le, suc-le-suc, mul-le-mul}

pub record Frac : Type 0 where
  pub num : ℤ
  pub den : ℕ
  pub some : 1 ≤ den

-- n / d; over 0 it is 0
abbrev pub over : ℕ → ℕ → Frac
over n zero = record { num = pos 0; den = 1; some = suc-le-suc zero-le }
over n (suc k) = record { num = pos n; den = suc k; some = suc-le-suc zero-le }

abbrev pub whole : ℤ → Frac
whole z = record { num = z; den = 1; some = suc-le-suc zero-le }

abbrev pub plus : Frac → Frac → Frac
plus x y =
    record {
      num = (x.num *ℤ pos y.den) +ℤ (y.num *ℤ pos x.den);
      den = x.den * y.den;
      some = mul-le-mul x.some y.some;
    }

abbrev pub minus : Frac → Frac
minus x = record { num = neg_ℤ x.num; den = x.den; some = x.some }

-- x and y are two ways to write one value: their cross products agree
abbrev pub Same : Frac → Frac → Type 0
Same x y = (x.num *ℤ pos y.den) ≡ (y.num *ℤ pos x.den)
