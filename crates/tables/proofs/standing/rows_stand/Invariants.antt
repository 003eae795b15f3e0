use Rattle.std.proofs.Common.{◌≡◌, drop}
use Rattle.tables.specs.Standing.{rows_stand}
use Rattle.tables.proofs.standing.rows_stand.Given as goal

abbrev pub invariant-loop-a : goal.invariant-loop-a
invariant-loop-a l = rows_stand (drop l.a-index l.rows) ≡ rows_stand l.rows
