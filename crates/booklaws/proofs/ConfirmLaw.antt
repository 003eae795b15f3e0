-- What a granted confirming leaves.
use Rattle.std.proofs.Common.{◌≡◌, ℕ, ◌+◌, List, ◌-ℤ◌, Some, Option, sym, ap, ◌∙◌, arith}
use borrow.Author.Differences.{ints}
use Rattle.tables.specs.declared.rows.PointRow.{PointRow}
use Rattle.journal.specs.Appending.{append_answer}
use Rattle.company.specs.declared.record.Company.{Company}
use Rattle.company.specs.declared.record.Event.TheVariants.{Confirm}
use Rattle.opened.specs.declared.record.Opened.{Opened}
use Rattle.booklaws.specs.States.{put}
use Rattle.orders.specs.Payments.{amount_paid}
use Rattle.booklaws.specs.Companies.{decided}
use Rattle.booklaws.specs.Laws.{company_in, account_in, ConfirmLaw}
use Rattle.units.proofs.Granted.{both_granted}
use Rattle.orders.proofs.PaidLaw.{gains}
use Rattle.orders.proofs.Events.{GrantedEvent}
use Rattle.booklaws.proofs.Events.{event_granted, account_put, company_put}
use Rattle.booklaws.proofs.Noting.{no_change, its_advance, others_advances, its_payment}

module _ (opened : Option Opened) (place j : ℕ) (d : Company × ℕ) (g : GrantedEvent (company_in opened place) (Confirm j) d) where
  account_loses : (c : Company) → company_in opened place ≡ Some c → d.1 ≡ c.paid + 1 → (points : List PointRow) → account_in (put opened place d.0) points ≡ account_in opened points -ℤ (amount_paid d).0
  account_loses c stood next points =
      let same : g.c ≡ c = cc in
      let more = gains g.c d.0 j d.1 g.after (next ∙ ap (λ (x : Company). x.paid + 1) (sym same)) in
      let balances = ap (λ (x : Company). x.balances) g.after in
      let account = account_put opened place g.c d.0 points g.stood in
      omega (arith, ints, more, balances, account)

pub confirm_law : ConfirmLaw
confirm_law b o d granted =
    let g = event_granted b.opened o.book o.company (Confirm o.instalment) d (both_granted (decided b o.book o.company (Confirm o.instalment)) (append_answer b.capacity b.entries) d granted) in
    record {
      volume = no_change b.entries o.company d.1 (amount_paid d) (λ e. e.volume);
      days = no_change b.entries o.company d.1 (amount_paid d) (λ e. e.days);
      advances = its_advance b.entries o.company d.1 (amount_paid d);
      other_advances = others_advances b.entries o.company d.1 (amount_paid d);
      payment = its_payment b.entries o.company d.1 (amount_paid d);
      company = company_put b.opened o.company g.c d.0 g.stood;
      paid = ap (λ (c : Company). c.paid) g.after;
      account = account_loses b.opened o.company o.instalment d g;
    }
