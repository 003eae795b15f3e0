use Rattle.std.proofs.Common.{arith}
use Rattle.rounding.proofs.HalfLaw.{rounded_product_at_most}
use Rattle.revenue.proofs.served.revenue.for_points.Goals as goal

pub returns-clause-small : goal.returns-clause-small
returns-clause-small c =
    let s = rounded_product_at_most c.args.price.0 c.args.points.0 2000000000 262930432 10000000 100000000000 c.requires.price c.requires.points (omega arith) in
    omega (arith, c.round_half_up.ensures, s)
