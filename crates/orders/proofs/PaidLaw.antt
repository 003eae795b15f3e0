-- What a granted confirming leaves in the register and in the journal.
use Rattle.std.proofs.Common.{◌≡◌, ℕ, ◌+◌, ◌-◌, ◌+ℤ◌, Ok, refl, ap, arith}
use borrow.Author.Differences.{ints}
use Rattle.units.proofs.Granted.{both_granted}
use Rattle.journal.specs.Appending.{append_answer}
use Rattle.company.specs.declared.record.Company.{Company}
use Rattle.company.specs.declared.record.Event.TheVariants.{Confirm}
use Rattle.orders.specs.Orders.{order_decision}
use Rattle.orders.specs.Payments.{amount_paid}
use Rattle.orders.specs.Laws.{PaidLaw}
use Rattle.orders.proofs.Events.{event_granted, company_put, others_put}
use Rattle.orders.proofs.OrderLaws.{order_laws}
use Rattle.company.specs.Events.{company_after, advances}
use Rattle.company.specs.Instalments.{paid_up_to, instalment}

-- a company's advances after an instalment was paid, where it is the one after those that were
pub gains : (was is : Company) (j k : ℕ) → is ≡ company_after was (Confirm j) (Ok k) → k ≡ was.paid + 1 → advances is ≡ advances was +ℤ (amount_paid (is, k)).0
gains was is j k after next =
    let new = ap advances after in
    let amount = ap (λ (c : Company). instalment c.terms.figures.advance c.terms.figures.instalments k) after in
    let before : k - 1 ≡ was.paid = omega arith in
    let old = ap (paid_up_to was.terms.figures.advance was.terms.figures.instalments) before in
    omega (arith, ints)

pub paid_law : PaidLaw
paid_law r capacity es o d granted =
    let g = event_granted r.companies r.number o.book o.company (Confirm o.instalment) d (both_granted (order_decision r Confirm o) (append_answer capacity es) d granted) in
    record {
      entries = refl;
      was = g.c;
      stood = g.stood;
      sent = (order_laws.confirmed g.c o.instalment d.1 g.answer).1;
      stands = company_put r o.company g.c d.0 g.stood;
      free = ap (λ (c : Company). c.phase) g.after;
      paid = ap (λ (c : Company). c.paid) g.after;
      advances = gains g.c d.0 o.instalment d.1 g.after;
      terms = ap (λ (c : Company). c.terms) g.after;
      balances = ap (λ (c : Company). c.balances) g.after;
      others = others_put r o.company d.0;
      number = refl;
    }
