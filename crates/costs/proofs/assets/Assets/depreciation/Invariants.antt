use Rattle.std.proofs.Common.{◌≡◌, ◌+◌, ◌*◌, ◌≤◌, length, drop}
use Rattle.costs.specs.Costs.{depreciation}
use Rattle.costs.proofs.assets.Assets.depreciation.Given as goal

abbrev pub invariant-loop-a : goal.invariant-loop-a
invariant-loop-a l = record {
  can_next : (goal.iterator-loop-a).can_next l.a-iterator;
  is_finite : (goal.iterator-loop-a).is_finite l.a-iterator;
  sum_so_far : l.sum + depreciation (drop (length l.yielded) l.self.rows.now) (drop (length l.yielded) l.lives) ≡ depreciation l.self.rows.now l.lives;
  small : l.sum ≤ 10000000000 * length l.yielded;
  within : length l.yielded ≤ length l.self.rows.now;
}
