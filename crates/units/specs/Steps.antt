-- How a decision goes on: the first refusal ends it.
use Rattle.std.specs.Prelude.{ℕ, Bool, cond, Some, None, Ok, Err, Option, Result}
use Rattle.units.specs.declared.refusal.Reason.{Reason}
use Rattle.units.specs.declared.refusal.Reason.TheVariants.{NothingThere}
use Rattle.units.specs.declared.refusal.Refusal.{Refusal}
use Rattle.units.specs.Refusals.{refusal}

-- a test: where it fails the call is refused, else the rest decides
abbrev pub when : {X : Type 0} → Bool → Reason → ℕ → Result X Refusal → Result X Refusal
when holds reason place rest = cond holds rest (Err (refusal reason place))

-- what stands at a place: where nothing does the call is refused by 5, else the rest decides by it
abbrev pub found : {A X : Type 0} → Option A → ℕ → (A → Result X Refusal) → Result X Refusal
found None place rest = Err (refusal NothingThere place)
found (Some a) place rest = rest a

-- what the first part is granted: the rest decides by it
abbrev pub next : {A X : Type 0} → Result A Refusal → (A → Result X Refusal) → Result X Refusal
next (Ok a) rest = rest a
next (Err refused) rest = Err refused
