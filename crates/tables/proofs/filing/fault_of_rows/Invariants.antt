use Rattle.std.proofs.Common.{◌≡◌, ◌+◌, ◌*◌, drop}
use Rattle.tables.specs.Filings.{rows_fault}
use Rattle.tables.proofs.filing.fault_of_rows.Given as goal

abbrev pub invariant-loop-i : goal.invariant-loop-i
invariant-loop-i g l = rows_fault g.test (5 + 5 * l.i) (drop l.i l.rows) ≡ rows_fault g.test 5 l.rows
