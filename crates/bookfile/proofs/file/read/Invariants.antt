use Rattle.std.proofs.Common.{vec_items}
use Rattle.std.specs.Str.Iter.{lines_rest}
use Rattle.bookfile.proofs.SoFar.{SoFar}
use Rattle.bookfile.proofs.file.read.Given as goal

abbrev pub invariant-loop-i : goal.invariant-loop-i
invariant-loop-i l =
    SoFar l.text l.i-iterator.count (lines_rest l.i-iterator.iter) l.table (vec_items l.filings) (vec_items l.calls)
