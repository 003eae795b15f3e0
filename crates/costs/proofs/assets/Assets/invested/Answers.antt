use Rattle.std.proofs.Common.{arith}
use Rattle.rounding.proofs.SumLaws.{sum_n_more}
use Rattle.tables.specs.Filings.{no_asset}
use Rattle.costs.specs.Costs.{invested}
use Rattle.costs.proofs.assets.Assets.invested.Goals as goal

pub loop-a-preserved : goal.loop-a-preserved
loop-a-preserved c =
    let s = sum_n_more invested c.args.self.rows.now c.loop-a.a-index no_asset (omega arith) in
    (omega (arith, s, c.invested-sum.ensures.value, c.loop-a.invariant.0), omega (arith, c.invested-sum.ensures.small, c.loop-a.invariant.1))
