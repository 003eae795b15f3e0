use Rattle.std.proofs.Common.{arith}
use Rattle.costs.proofs.regime.remote_reading.Goals as goal

pub for_points-requires-clause-cheap : goal.for_points-requires-clause-cheap
for_points-requires-clause-cheap c = omega (arith, c.figures-t.ensures.within.costs 2)
