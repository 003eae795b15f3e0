-- Terms are the same whatever proof they carry.
use Rattle.std.proofs.Common.{◌≡◌, ℕ, false, Some, None, Ok, is_some, Option, refl, ap, arith}
use Rattle.std.proofs.Math.Bool.{Bool-set}
use Rattle.company.specs.declared.figures.TermsFigures.{TermsFigures}
use Rattle.company.specs.Terms.{first_bad_term}
use Rattle.company.specs.Made.{terms_if, terms_of}

made : (f : TermsFigures) (bad : Option ℕ) (e : first_bad_term f ≡ bad) (l : is_some (first_bad_term f) ≡ false) → is_some bad ≡ false → Ok (record { figures = f; lawful = l }) ≡ terms_if f bad e
made f None e l fine = ap (λ p. Ok (record { figures = f; lawful = p })) (Bool-set _ _ l (ap is_some e))
made f (Some n) e l fine = grind arith

-- lawful figures make terms
pub are_made : (f : TermsFigures) (l : is_some (first_bad_term f) ≡ false) → Ok (record { figures = f; lawful = l }) ≡ terms_of f
are_made f l = made f (first_bad_term f) refl l l
