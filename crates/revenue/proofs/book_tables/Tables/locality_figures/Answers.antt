use Rattle.std.proofs.Common.{refl, arith}
use Rattle.tables.specs.Blank.{past_table}
use Rattle.revenue.specs.Recognised.{locality_figures}
use Rattle.revenue.proofs.Turns.{localities_more}
use Rattle.revenue.proofs.book_tables.Tables.locality_figures.Goals as goal

pub loop-row-init : goal.loop-row-init
unfolding locality_figures
loop-row-init c = (refl, omega arith)

pub loop-row-preserved : goal.loop-row-preserved
loop-row-preserved c =
    let more = localities_more c.args.tariff.now.figures c.args.self.localities.now c.args.company c.loop-row.row-index past_table c.loop-row-test.true in
    (omega (arith, c.of_locality-sum.ensures.value), omega (arith, c.of_locality-sum.ensures.small))
