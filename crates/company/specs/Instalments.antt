-- What the instalments of a yearly advance are.
use Rattle.std.specs.Prelude.{◌≡◌, ℕ, zero, suc, ◌-◌, ◌/◌, ◌≤◌, ℤ, pos, negsuc, ◌+ℤ◌, ◌-ℤ◌, ◌*ℤ◌}

-- the greatest whole number that is at most z / n
abbrev pub floor : ℤ → ℕ → ℤ
floor (pos a) n = pos (a / n)
floor (negsuc a) n = negsuc (a / n)

-- the first j of n instalments of an advance together
unfoldable pub paid_up_to : (advance : ℤ) (n j : ℕ) → ℤ
paid_up_to advance n j = floor (pos j *ℤ advance) n

-- instalment j, from 1
abbrev pub instalment : (advance : ℤ) (n j : ℕ) → ℤ
instalment advance n j = paid_up_to advance n j -ℤ paid_up_to advance n (j - 1)

-- instalments 1 to k, added up
abbrev pub instalments_to : (advance : ℤ) (n k : ℕ) → ℤ
instalments_to advance n zero = pos 0
instalments_to advance n (suc k) = instalments_to advance n k +ℤ instalment advance n (suc k)

-- all n of them make up the advance
abbrev pub AddUp : Type 0
AddUp = (advance : ℤ) (n : ℕ) → 1 ≤ n → instalments_to advance n n ≡ advance
