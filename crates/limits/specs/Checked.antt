-- What making something from figures answers: it is made, or the first bad figure is refused.
use Rattle.std.specs.Prelude.{ℕ, Some, None, Ok, Err, Option, Result}
use Rattle.units.specs.declared.refusal.Reason.{Reason}
use Rattle.units.specs.declared.refusal.Refusal.{Refusal}
use Rattle.units.specs.Refusals.{refusal}

-- these figures, or the refusal of the bad one that was found
abbrev pub unless_bad : {X : Type 0} → Reason → X → Option ℕ → Result X Refusal
unless_bad reason x None = Ok x
unless_bad reason x (Some n) = Err (refusal reason n)

-- what was made, by its figures
abbrev pub made_of : {X Y : Type 0} → (Y → X) → Result Y Refusal → Result X Refusal
made_of figures (Ok y) = Ok (figures y)
made_of figures (Err e) = Err e

-- a fault that was found, or what is granted without one
abbrev pub faultless : {X : Type 0} → Option Refusal → X → Result X Refusal
faultless (Some fault) x = Err fault
faultless None x = Ok x
