use Rattle.std.proofs.Common.{◌≡◌, Some}
use Rattle.bookfile.specs.Slots.{placed_all}
use Rattle.bookfile.proofs.slots.put_all.Given as goal

abbrev pub invariant-loop-k : goal.invariant-loop-k
invariant-loop-k l = placed_all l.initial.slots l.span.slot l.line.figures l.span.first l.k ≡ Some l.slots
