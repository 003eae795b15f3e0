use Rattle.std.proofs.Common.{◌*◌, mul-le-mul, arith}
use Rattle.rounding.proofs.HalfLaw.{rounded_at_most}
use Rattle.costs.proofs.assets.Assets.return_at.Goals as goal

pub returns-clause-small : goal.returns-clause-small
returns-clause-small c =
    let b = mul-le-mul c.invested.ensures.small c.requires in
    let s = rounded_at_most (c.invested.result * c.args.rate.0) 10000000 32256000000 (omega (arith, b)) in
    omega (arith, c.round_half_up.ensures, s)
