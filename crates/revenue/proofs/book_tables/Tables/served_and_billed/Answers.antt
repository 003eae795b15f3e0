use Rattle.std.proofs.Common.{◌∙◌}
use Rattle.std.proofs.lemmas.Bool.{and_from}
use Rattle.tariff.proofs.Lawful.{within}
use Rattle.tables.specs.declared.state.State.TheVariants.{Regime, StartUp}
use Rattle.revenue.proofs.Shares.{served_fits}
use Rattle.revenue.proofs.book_tables.Tables.served_and_billed.Goals as goal

pub unwrap-served-requires : goal.unwrap-served-requires
unwrap-served-requires c =
    let t = c.args.tariff.now.figures in
    let all = served_fits t (within t c.args.tariff.now.lawful) c.args.self.localities.now c.args.self.points.now c.args.company in
    let sums = c.sums-sums.ensures in
    c.of.ensures.test
    ∙ and_from _ _
    (all Regime c.args.self.many c.sums-sums.result.regime sums.regime sums.small.1)
    (all StartUp c.args.self.many c.sums-sums.result.startup sums.startup sums.small.2)
