use Rattle.std.proofs.Common.{arith}
use Rattle.costs.proofs.regime.fees.Goals as goal

pub overflow_add-t : goal.overflow_add-t
overflow_add-t c = omega (arith, c.figures-t.ensures.within.costs 0, c.figures-t.ensures.within.costs 1)

pub for_points-requires-clause-cheap : goal.for_points-requires-clause-cheap
for_points-requires-clause-cheap c = omega (arith, c.figures-t.ensures.within.costs 0, c.figures-t.ensures.within.costs 1)
