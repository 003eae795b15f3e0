use Rattle.std.proofs.Common.{arith}
use Rattle.revenue.proofs.served.Served.revenue.Goals as goal

pub for_points-requires-2-clause-price : goal.for_points-requires-2-clause-price
for_points-requires-2-clause-price c = omega (arith, c.figures-t.ensures.within.costs 3)

pub overflow_add-t : goal.overflow_add-t
overflow_add-t c = omega (arith, c.figures-t.ensures.within.costs 4, c.figures-t.ensures.within.costs 5)

pub for_points-requires-3-clause-price : goal.for_points-requires-3-clause-price
for_points-requires-3-clause-price c = omega (arith, c.figures-t.ensures.within.costs 4, c.figures-t.ensures.within.costs 5)
