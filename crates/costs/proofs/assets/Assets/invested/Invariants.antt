use Rattle.std.proofs.Common.{◌≡◌, ◌*◌, ◌≤◌, take}
use Rattle.rounding.specs.Sums.{sum_n}
use Rattle.costs.specs.Costs.{invested}
use Rattle.costs.proofs.assets.Assets.invested.Given as goal

abbrev pub invariant-loop-a : goal.invariant-loop-a
invariant-loop-a l = (l.sum ≡ sum_n invested (take l.a-index l.self.rows.now)) × (l.sum ≤ 20160000000000 * l.a-index)
