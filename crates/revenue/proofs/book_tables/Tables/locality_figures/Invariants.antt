use Rattle.std.proofs.Common.{◌≡◌, ◌*◌, ◌≤◌, take}
use Rattle.revenue.specs.Recognised.{locality_figures}
use Rattle.revenue.proofs.book_tables.Tables.locality_figures.Given as goal

abbrev pub invariant-loop-row : goal.invariant-loop-row
invariant-loop-row l =
    (l.sum ≡ locality_figures l.tariff.figures (take l.row-index l.row-items) l.company) × (l.sum ≤ 5000000000000 * l.row-index)
