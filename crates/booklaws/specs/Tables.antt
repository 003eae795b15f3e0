-- What a table is after a call.
use Rattle.std.specs.Prelude.{ℕ, List, Ok, Err, Result, slice_set}
use Rattle.units.specs.declared.refusal.Refusal.{Refusal}

-- what is granted is written at its place, and a refusal leaves every row
abbrev pub written : {X Y : Type 0} → (X → Y) → List Y → ℕ → Result X Refusal → List Y
written as_row rows place (Ok x) = slice_set rows place (as_row x)
written as_row rows place (Err refused) = rows
