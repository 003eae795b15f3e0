-- What appending answers and does to a list that may hold so many entries.
use Rattle.std.specs.Prelude.{ℕ, cond, List, [], ◌∷◌, ◌++◌, length, Ok, Err, Result, nat_lt}
use Rattle.units.specs.declared.refusal.Reason.TheVariants.{JournalFull}
use Rattle.units.specs.declared.refusal.Refusal.{Refusal}
use Rattle.units.specs.Refusals.{refusal}
use Rattle.journal.specs.declared.entry.Entry.{Entry}

-- 16 with the length where no room is left, and there alone
abbrev pub append_answer : (capacity : ℕ) → List Entry → Result Unit Refusal
append_answer capacity es = cond (nat_lt (length es) capacity) (Ok tt) (Err (refusal JournalFull (length es)))

-- the list with the entry at its end; a full list stays
abbrev pub appended : (capacity : ℕ) → List Entry → Entry → List Entry
appended capacity es e = cond (nat_lt (length es) capacity) (es ++ e ∷ []) es
