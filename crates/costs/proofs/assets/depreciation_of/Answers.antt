use Rattle.std.proofs.Common.{◌-◌, arith}
use Rattle.rounding.proofs.HalfLaw.{rounded_at_most_whole}
use Rattle.costs.proofs.assets.depreciation_of.Goals as goal

pub returns-clause-small : goal.returns-clause-small
returns-clause-small c =
    let s = rounded_at_most_whole (c.args.a.now.gross - c.args.a.now.contributions) c.args.life.0 in
    omega (arith, c.round_half_up.ensures, s, c.requires.gross)
