use Rattle.book.specs.States.{state}
use Rattle.booklaws.specs.Calls.{with_tables}
use Rattle.yearly.proofs.Calling.{Called}
use Rattle.yearly.proofs.run.run.Given as goal

abbrev pub invariant-loop-i : goal.invariant-loop-i
invariant-loop-i g l =
    Called l.fn.filings (with_tables (state g.J.Journal g.M.Management l.fn.book) l.fn.localities l.fn.points) l.fn.calls l.fn.answers (with_tables (state g.J.Journal g.M.Management l.book) l.localities l.points) l.answers l.i
