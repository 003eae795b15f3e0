use Rattle.std.proofs.Common.{arith}
use Rattle.rounding.proofs.HalfLaw.{rounded_product_at_most}
use Rattle.costs.proofs.regime.for_points.Goals as goal

pub returns-clause-small : goal.returns-clause-small
returns-clause-small c =
    let s = rounded_product_at_most c.args.price.0 c.args.points 2000000000 10000000 10000 2000000000000 c.requires.cheap c.requires.few (omega arith) in
    omega (arith, c.round_half_up.ensures, s)
