-- What a granted closing leaves.
use Rattle.std.proofs.Common.{◌≡◌, ℕ, Bool, true, ltb, List, ℤ, ◌+ℤ◌, Some, Ok, Option, refl, sym, ap, subst, ◌∙◌, arith}
use borrow.Author.Differences.{ints}
use Rattle.units.specs.declared.amounts.Cents.{Cents}
use Rattle.units.specs.declared.refusal.Reason.TheVariants.{PastTable}
use Rattle.tables.specs.declared.rows.LocalityRow.{LocalityRow}
use Rattle.tables.specs.declared.rows.PointRow.{PointRow}
use Rattle.journal.specs.Appending.{append_answer}
use Rattle.company.specs.declared.record.Company.{Company}
use Rattle.company.specs.declared.record.Event.TheVariants.{Close}
use Rattle.company.specs.declared.record.Phase.{Phase}
use Rattle.company.specs.declared.record.Phase.TheVariants.{Free, Drawn, Sent, Closed}
use Rattle.company.specs.Events.{close_answer, advances}
use Rattle.orders.specs.Registers.{company_at, deciding}
use Rattle.tables.specs.Lengths.{tables_fit}
use Rattle.units.specs.Steps.{when, found, next}
use Rattle.opened.specs.declared.record.Opened.{Opened}
use Rattle.orders.specs.Registers.{with_company}
use Rattle.booklaws.specs.States.{BookState, with_opened, with_register}
use Rattle.orders.specs.Orders.{settled}
use Rattle.booklaws.specs.Closings.{close_decision, balance_entry, closed_by}
use Rattle.opened.specs.Figures.{asked, settling, price_for, settlement, due, paid_out}
use Rattle.booklaws.specs.Laws.{YearClosed, CloseLaw}
use Rattle.units.proofs.Granted.{when_granted, next_granted, both_granted, same}
use Rattle.booklaws.proofs.Events.{event_granted, account_put, company_put, others_put, on_record}
use Rattle.booklaws.proofs.Noting.{balance_no_change, balance_no_advances, balance_payment}

-- an order that is out refuses a closing
pub close_free : (p : Phase) (k : ℕ) → close_answer p ≡ Ok k → p ≡ Free
close_free Free k granted = refl
close_free (Drawn j) k granted = cc
close_free (Sent j) k granted = cc
close_free Closed k granted = cc

-- a figure that is asked of a company which stands, with tables that fit
answer_at : (fit in_table : Bool) (there : Option Company) (place : ℕ) (figure : Company → Cents) (c : Company) → fit ≡ true → in_table ≡ true → there ≡ Some c → when fit PastTable 0 (next (when in_table PastTable place (found there place (λ c. Ok c))) (λ c. Ok (figure c))) ≡ Ok (figure c)
answer_at fit in_table there place figure c fits within stands = rw fits (rw within (rw stands refl))

module _ (o : Opened) (price : ℕ → ℕ → ℕ → ℕ) (localities : List LocalityRow) (points : List PointRow) (place : ℕ) where
  -- the settlement of a company, and what is due to it
  abbrev settles : Company → ℤ
  settles c = settlement o.tariff.figures (price_for price c) localities points place c

  abbrev owed : Company → Cents
  owed c = due o.tariff.figures (price_for price c) localities points place c

  -- the company c stood at the place, open and with no order out; d.1 was due to it, and d.0 is what it is after its closing
  record Granted (d : Company × Cents) : Type 0 where
    pub c : Company
    pub stood : company_at o.register.companies place ≡ Some c
    pub free : c.phase ≡ Free
    pub was_due : asked o localities points place owed ≡ Ok d.1
    pub amount : d.1 ≡ owed c
    pub after : d.0 ≡ record { terms = c.terms; paid = c.paid; phase = Closed; balances = settles c }

  closing_granted : (d : Company × Cents) → when (tables_fit localities points) PastTable 0 (next (deciding o.register.companies o.register.number o.register.number place Close) (λ q. Ok (settling o.tariff.figures (price_for price q.0) localities points place q.0))) ≡ Ok d → Granted d
  closing_granted d granted =
      let fit = when_granted (tables_fit localities points) _ _ _ d granted in
      let q = next_granted (deciding o.register.companies o.register.number o.register.number place Close) _ d fit.1 in
      let in_table = when_granted (ltb place 16) _ _ _ q.0 q.1 in
      let g = event_granted (Some o) o.register.number place Close q.0 q.1 in
      let is : d ≡ settling o.tariff.figures (price_for price q.0.0) localities points place q.0.0 = sym (same _ d q.2) in
      let amount : d.1 ≡ owed g.c = ap (λ (x : Company × Cents). x.1) is ∙ ap owed g.after in
      record {
        c = g.c;
        stood = g.stood;
        free = close_free g.c.phase q.0.1 g.answer;
        was_due = answer_at (tables_fit localities points) (ltb place 16) (company_at o.register.companies place) place owed g.c fit.0 in_table.0 g.stood ∙ ap Ok (sym amount);
        amount = amount;
        after = ap (λ (x : Company × Cents). x.0) is ∙ ap (λ (c : Company). settled c (settles c)) g.after;
      }

-- the closing of a book with o on record
close_of_open : (o : Opened) (b : BookState) (localities : List LocalityRow) (points : List PointRow) (company : ℕ) (d : Company × Cents) → close_decision (with_opened b (Some o)) localities points company ≡ Ok d → YearClosed localities points o (with_opened b (Some o)) (closed_by (with_opened b (Some o)) company (Ok d)) company d.1
close_of_open o b localities points company d granted =
    let g = closing_granted o b.price localities points company d (both_granted _ (append_answer b.capacity b.entries) d granted) in
    let balances : d.0.balances ≡ g.c.balances +ℤ d.1.0 =
    let new = ap (λ (c : Company). c.balances) g.after in let amount = ap (λ (z : Cents). z.0) g.amount in omega (arith, ints) in
    let out : paid_out (Some d.0) ≡ paid_out (Some g.c) +ℤ d.1.0 =
    let new = ap (λ (c : Company). advances c) g.after in omega (arith, ints) in
    record {
      was_due = g.was_due;
      entry = balance_entry company d.1;
      entries = refl;
      booked = record { kind = refl; company = refl; amount = refl; place = refl; volume = refl; days = refl; ug1 = refl; other = refl };
      was = g.c;
      stood = g.stood;
      is = d.0;
      stands = company_put (Some o) company g.c d.0 g.stood;
      company = record { free = g.free; closed = ap (λ (c : Company). c.phase) g.after; terms = ap (λ (c : Company). c.terms) g.after; paid = ap (λ (c : Company). c.paid) g.after; balances = balances };
      others = others_put (Some o) company d.0;
      now = with_register o (with_company o.register company d.0);
      opened = refl;
      tariff = refl;
      number = refl;
      sum = refl;
      payment = balance_payment b.entries company d.1;
      account = λ points. let account = account_put (Some o) company g.c d.0 points g.stood in omega (arith, ints, account, out);
      volume = balance_no_change b.entries company d.1 (λ e. e.volume);
      days = balance_no_change b.entries company d.1 (λ e. e.days);
      advances = balance_no_advances b.entries company d.1;
    }

pub close_law : CloseLaw
close_law b o localities points company d opened =
    subst (λ (b : BookState). close_decision b localities points company ≡ Ok d → YearClosed localities points o b (closed_by b company (Ok d)) company d.1)
    (sym (on_record b o opened)) (close_of_open o b localities points company d)
