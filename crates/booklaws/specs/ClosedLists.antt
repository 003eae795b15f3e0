-- The list of closed companies, asked of a book.
use Rattle.std.specs.Prelude.{◌≡◌, ℕ, List, Some, None, Err, Option, Result}
use Rattle.units.specs.declared.refusal.Reason.TheVariants.{BookNotOpen}
use Rattle.units.specs.declared.refusal.Refusal.{Refusal}
use Rattle.units.specs.Refusals.{refusal}
use Rattle.orders.specs.ClosedLists as register
use Rattle.opened.specs.declared.record.Opened.{Opened}
use Rattle.booklaws.specs.States.{BookState}

-- 2 while the book is not open, which writes nothing; then what its register lists
abbrev pub ListedIn : Option Opened → (old new : List ℕ) → Result ℕ Refusal → Type 0
ListedIn None old new answer = (answer ≡ Err (refusal BookNotOpen 0)) × (new ≡ old)
ListedIn (Some o) old new answer = register.Listed o.register.companies old new answer

abbrev pub Listed : BookState → (old new : List ℕ) → Result ℕ Refusal → Type 0
Listed b old new answer = ListedIn b.opened old new answer
