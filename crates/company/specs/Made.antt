-- What terms figures make.
use Rattle.std.specs.Prelude.{◌≡◌, ℕ, Some, None, Ok, Err, is_some, Option, Result, refl}
use Rattle.std.proofs.Common.{ap}
use Rattle.units.specs.declared.refusal.Refusal.{Refusal}
use Rattle.units.specs.declared.refusal.Reason.TheVariants.{FigureLimit}
use Rattle.units.specs.Refusals.{refusal}
use Rattle.company.specs.declared.figures.TermsFigures.{TermsFigures}
use Rattle.company.specs.declared.terms.Terms.{Terms}
use Rattle.company.specs.Terms.{first_bad_term}

abbrev pub terms_if : (f : TermsFigures) (bad : Option ℕ) → first_bad_term f ≡ bad → Result Terms Refusal
terms_if f (Some n) e = Err (refusal FigureLimit n)
terms_if f None e = Ok (record { figures = f; lawful = ap is_some e })

-- the terms with these very figures, or refusal 7 with the first bad one
abbrev pub terms_of : TermsFigures → Result Terms Refusal
terms_of f = terms_if f (first_bad_term f) refl
