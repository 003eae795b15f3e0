-- What a company may register, and which of its figures is the first beyond its limit.
use Rattle.std.specs.Prelude.{ℕ, ◌≤◌, Bool, List, [], ◌∷◌, ℤ, Option, Result, nat_le, unsigned_abs}
use Rattle.units.specs.declared.refusal.Refusal.{Refusal}
use Rattle.units.specs.declared.refusal.Reason.TheVariants.{FigureLimit}
use Rattle.limits.specs.First.{among, unless, first_of}
use Rattle.limits.specs.Checked.{unless_bad}
use Rattle.company.specs.declared.figures.TermsFigures.{TermsFigures}

-- a yearly cost is at most 10^12 cents
abbrev pub cost_fits : ℕ → Bool
cost_fits cents = nat_le cents 1000000000000

-- an advance lies from -10^12 to 10^12 cents
abbrev pub advance_fits : ℤ → Bool
advance_fits a = cost_fits (unsigned_abs a)

-- the tests of what is paid in the year: advance 1, instalments 2, verification 3, central cost 4
unfoldable pub payment_tests : TermsFigures → List (Option ℕ)
payment_tests f =
    unless (advance_fits f.advance) 1
    ∷ unless (among 12 f.instalments) 2
    ∷ unless (cost_fits f.verification) 3
    ∷ unless (cost_fits f.central) 4
    ∷ []

-- then those of the three traits: points for class 5, density 6, award year 7
unfoldable pub trait_tests : TermsFigures → List (Option ℕ)
trait_tests f =
    unless (nat_le f.points 100000000) 5 ∷ unless (among 3 f.density) 6 ∷ unless (among 12 f.year) 7 ∷ []

-- the first bad figure, in that order
unfoldable pub first_bad_term : TermsFigures → Option ℕ
first_bad_term f = first_of (first_of (payment_tests f) ∷ first_of (trait_tests f) ∷ [])

-- these very figures, or refusal 7 with the first bad one
abbrev pub checked : TermsFigures → Result TermsFigures Refusal
checked f = unless_bad FigureLimit f (first_bad_term f)

-- The same limits, one by one.
pub record Within (f : TermsFigures) : Type 0 where
  pub advance : unsigned_abs f.advance ≤ 1000000000000
  pub instalments : (1 ≤ f.instalments) × (f.instalments ≤ 12)
  pub verification : f.verification ≤ 1000000000000
  pub central : f.central ≤ 1000000000000
  pub points : f.points ≤ 100000000
  pub density : (1 ≤ f.density) × (f.density ≤ 3)
  pub year : (1 ≤ f.year) × (f.year ≤ 12)
