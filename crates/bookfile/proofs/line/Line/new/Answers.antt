use Rattle.bookfile.proofs.Figuring.{nothing_good}
use Rattle.bookfile.proofs.line.Line.new.Goals as goal

pub invariant_of-result : goal.invariant_of-result
invariant_of-result c = record { good = nothing_good }
