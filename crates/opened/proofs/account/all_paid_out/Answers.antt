use Rattle.std.proofs.Common.{◌≡◌, ◌<◌, length, get_or, sym, ap, arith, rules}
use borrow.Author.Differences.{ints}
use Rattle.rounding.proofs.SumLaws.{sum_z_more}
use Rattle.opened.specs.Figures.{paid_out}
use Rattle.opened.proofs.account.all_paid_out.Goals as goal

pub loop-slot-preserved : goal.loop-slot-preserved
loop-slot-preserved c =
    let within : c.loop-slot.slot-index < length c.args.companies.now = search rules in
    let more = sum_z_more paid_out c.args.companies.now c.loop-slot.slot-index c.slot-item.result within in
    let here : paid_out (get_or c.args.companies.now c.loop-slot.slot-index c.slot-item.result) ≡ paid_out c.slot-item.result = ap paid_out (sym c.slot-item.is) in
    (omega (arith, ints, more, here, c.paid_out-sum.ensures.value, c.loop-slot.invariant.0), omega (arith, ints, c.paid_out-sum.ensures.small), omega (arith, ints, c.paid_out-sum.ensures.small))
