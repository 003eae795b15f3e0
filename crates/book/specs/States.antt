-- What stands for a book in its contracts.
use Rattle.journal.specs.declared.journal.Journal.{Ghosts as Journal}
use Rattle.management.specs.declared.rule.Management.{Ghosts as Management}
use Rattle.booklaws.specs.States.{BookState}
use Rattle.book.specs.declared.book.Book.{Book}

-- the state of a book, over its journal and its management rule
abbrev pub state : {J M : Type 0} → Journal J → Management M → Book J M → BookState
state journal management b =
    record { opened = b.opened; entries = journal.entries b.journal; capacity = journal.capacity b.journal; price = management.price b.rule }
