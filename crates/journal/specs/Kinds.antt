-- What number each kind of entry has.
use Rattle.std.specs.Prelude.{ℕ}
use Rattle.journal.specs.declared.entry.Kind.{Kind}
use Rattle.journal.specs.declared.entry.Kind.TheVariants.{Bill, Advance, Balance}

abbrev pub kind_number : Kind → ℕ
kind_number Bill = 1
kind_number Advance = 2
kind_number Balance = 3
