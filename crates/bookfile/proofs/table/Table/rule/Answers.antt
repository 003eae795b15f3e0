use Rattle.std.proofs.Common.{rules}
use Rattle.bookfile.specs.Filed.{price}
use Rattle.bookfile.proofs.Filling.{filled}
use Rattle.bookfile.proofs.table.Table.rule.Goals as goal

pub returns : goal.returns
returns c =
    let prices = filled (price c.args.self.now 92) (λ i y q called. search rules) _ 9 c.from_fn.ensures.items in
    cc
