use Rattle.std.proofs.Common.{◌≡◌, take, replicate}
use Rattle.tables.proofs.blank.blank.Given as goal

abbrev pub invariant-loop-row : goal.invariant-loop-row
invariant-loop-row g l = take l.row-index l.rows ≡ replicate l.row-index g.R.Row.blank
