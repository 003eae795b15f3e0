-- Which orders a bookkeeper's book takes back.
use Rattle.std.specs.Prelude.{IsOk}
use Rattle.journal.specs.declared.own_journal.OwnJournal.{OwnJournal}
use Rattle.journal.specs.contracts.own_journal.OwnJournalJournal.TheImpl.{ghosts as own_journal}
use Rattle.management.specs.declared.municipal.Municipal.{Municipal}
use Rattle.management.specs.contracts.municipal.MunicipalManagement.TheImpl.{ghosts as municipal}
use Rattle.orders.specs.declared.order.Order.{Order}
use Rattle.book.specs.declared.book.Book.{Book}
use Rattle.booklaws.specs.States.{BookState}
use Rattle.book.specs.States.{state}
use Rattle.booklaws.specs.Companies.{cancel_decision, bounce_decision}

abbrev pub state_of : Book OwnJournal Municipal → BookState
state_of b = state own_journal municipal b

-- a drawn one that it cancels
abbrev pub CanCancel : Book OwnJournal Municipal → Order → Type 0
CanCancel b o = IsOk (cancel_decision (state_of b) o)

-- a sent one that it takes back unpaid
abbrev pub CanBounce : Book OwnJournal Municipal → Order → Type 0
CanBounce b o = IsOk (bounce_decision (state_of b) o)
