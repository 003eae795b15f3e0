use Rattle.std.proofs.Common.{◌≡◌, pos, neg_ℤ, ◌≤ℤ◌, ◌*◌, take}
use Rattle.rounding.specs.Sums.{sum_z}
use Rattle.opened.specs.Figures.{paid_out}
use Rattle.opened.proofs.account.all_paid_out.Given as goal

abbrev pub invariant-loop-slot : goal.invariant-loop-slot
invariant-loop-slot l =
    (l.sum ≡ sum_z paid_out (take l.slot-index l.companies)) × (l.sum ≤ℤ pos (18446744073709551616 * l.slot-index)) × (neg_ℤ (pos (18446744073709551616 * l.slot-index)) ≤ℤ l.sum)
