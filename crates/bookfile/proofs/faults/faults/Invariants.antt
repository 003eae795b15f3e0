use Rattle.std.proofs.Common.{◌≡◌, length, None, get_or}
use Rattle.std.specs.Str.Iter.{lines_rest}
use Rattle.bookfile.proofs.Told.{ToldTo}
use Rattle.bookfile.proofs.faults.faults.Given as goal

abbrev pub invariant-loop-i : goal.invariant-loop-i
invariant-loop-i l =
    ToldTo l.text l.i-iterator.count (lines_rest l.i-iterator.iter) l.table l.count (get_or l.found 0 None)
    × (length l.found ≡ 10)
