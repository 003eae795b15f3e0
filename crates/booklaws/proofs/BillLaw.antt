-- What a granted bill leaves.
use Rattle.std.proofs.Common.{◌≡◌, ℕ, ◌≤◌, true, List, get_or, set, get_or-set_same, get_or-set_other, ℤ, pos, ◌+ℤ◌, Some, Ok, ⊎_elim, refl, sym, ap, subst, ◌∙◌, arith}
use Rattle.std.proofs.lemmas.Bool.{cond-true, and_from, le-leb}
use borrow.Author.Differences.{ints}
use Rattle.journal.specs.Appending.{append_answer}
use Rattle.tariff.specs.declared.bill.Bill.{Bill}
use Rattle.tariff.specs.declared.table.Tariff.{Tariff}
use Rattle.tariff.proofs.Lawful.{held}
use Rattle.tables.specs.declared.rows.LocalityRow.{LocalityRow}
use Rattle.tables.specs.declared.rows.PointRow.{PointRow}
use Rattle.tables.specs.Blank.{no_point}
use Rattle.tables.specs.PointRows.{point_stands, billed_row}
use Rattle.tables.proofs.Holding.{point_held}
use Rattle.revenue.specs.Owners.{point_locality}
use Rattle.revenue.specs.Ug1.{point_ug1, ug1_due}
use Rattle.revenue.proofs.Replacing.{ug1_set}
use Rattle.calls.specs.declared.billing.Charged.{Charged}
use Rattle.calls.specs.Decisions.{billing as billing_in}
use Rattle.opened.specs.declared.record.Opened.{Opened}
use Rattle.booklaws.specs.States.{BookState, with_opened}
use Rattle.booklaws.specs.Rows.{billing, bill_entry, billed_by}
use Rattle.booklaws.specs.Laws.{account_in, row_of, BillEntry, Billed, points_billed, BillLaw}
use Rattle.units.proofs.Granted.{both_granted}
use Rattle.booklaws.proofs.Events.{on_record}
use Rattle.booklaws.proofs.Noting.{its_change, others_change, no_advances, no_payment}
use Rattle.booklaws.proofs.Bills.{GrantedBill, bill_granted}

-- a row that is billed within its limits stands as it did
pub still_stands : (p : PointRow) (b : Bill) → point_stands p ≡ true → b.volume ≤ 1000000000 → b.days ≤ 366 → point_stands (billed_row p b) ≡ true
unfolding point_stands
still_stands p b stood volume days =
    let h = point_held p stood in
    and_from _ _
    (and_from _ _
    (and_from _ _ (and_from _ _ (and_from _ _ (le-leb _ _ h.locality) (le-leb _ _ h.class.0)) (le-leb _ _ h.class.1)) (le-leb _ _ h.domestic))
    (le-leb _ _ volume))
    (le-leb _ _ days)

pub year_days : (t : Tariff) → t.figures.days ≤ 366
year_days t = ⊎_elim (λ short. omega arith) (λ long. omega arith) (held t).year

module _ (o : Opened) (localities : List LocalityRow) (points : List PointRow) (point : ℕ) (dv dd : ℤ) (c : Charged) (g : GrantedBill o.tariff.figures localities points point dv dd c) where
  abbrev b : Bill
  b = c.bill

  pub ug1_gains : pos (ug1_due o.tariff.figures (set points point (billed_row (get_or points point no_point) b))) ≡ pos (ug1_due o.tariff.figures points) +ℤ b.charge.ug1.0
  ug1_gains =
      let t = o.tariff.figures in
      let old = get_or points point no_point in
      let new = billed_row old b in
      let year = year_days o.tariff in
      let replaced = ug1_set t points point new no_point g.within in
      let before = cond-true (point_stands old) (point_ug1 t old) 0 g.stands in
      let after = cond-true (point_stands new) (point_ug1 t new) 0 (still_stands old b g.stands g.charges.volume_fits (omega (arith, g.charges.days_fit, year))) in
      omega (arith, ints, replaced, before, after, g.charges.ug1)

  account_gains : account_in (Some o) (set points point (billed_row (get_or points point no_point) b)) ≡ account_in (Some o) points +ℤ b.charge.ug1.0
  account_gains = let gains = ug1_gains in omega (arith, ints)

-- the bill of a book with o on record
bill_of_open : (o : Opened) (b : BookState) (localities : List LocalityRow) (points : List PointRow) (point : ℕ) (dv dd : ℤ) (c : Charged) → billing (with_opened b (Some o)) localities points point dv dd ≡ Ok c → Billed o localities (with_opened b (Some o)) (billed_by (with_opened b (Some o)) point dv dd (Ok c)) points (points_billed points point c) point dv dd c
bill_of_open o b localities points point dv dd c granted =
    let answer = billing_in o.tariff.figures o.register.companies localities points point dv dd in
    let g = bill_granted o.tariff.figures o.register.companies localities points point dv dd c (both_granted answer (append_answer b.capacity b.entries) c granted) in
    let t = o.tariff.figures in
    let old = row_of points point in
    let new = billed_row old c.bill in
    let row : row_of (set points point new) point ≡ new = get_or-set_same points point new no_point g.within in
    let entry = bill_entry c point dv dd in
    let booked : BillEntry t (point_locality localities old) old new point dv dd entry =
    record { kind = refl; place = refl; volume = refl; days = refl; company = g.company; amount = g.charges.tariff; ug1 = g.charges.ug1; other = g.charges.gs } in
    record {
      entry = entry;
      entries = refl;
      booked = subst (λ (p : PointRow). BillEntry t (point_locality localities old) old p point dv dd entry) (sym row) booked;
      amount = refl;
      ug1 = refl;
      other = refl;
      volume = its_change b.entries c point dv dd (λ e. e.volume);
      days = its_change b.entries c point dv dd (λ e. e.days);
      row_volume = ap (λ (p : PointRow). pos p.volume) row ∙ g.charges.volume;
      row_days = ap (λ (p : PointRow). pos p.days) row ∙ g.charges.days;
      other_volume = others_change b.entries c point dv dd (λ e. e.volume);
      other_days = others_change b.entries c point dv dd (λ e. e.days);
      other_row = λ other not. get_or-set_other points point other new no_point not;
      advances = no_advances b.entries c point dv dd;
      payment = no_payment b.entries c point dv dd;
      opened = refl;
      account = account_gains o localities points point dv dd c g;
    }

pub bill_law : BillLaw
bill_law b o localities points point dv dd c opened =
    subst (λ (b : BookState). billing b localities points point dv dd ≡ Ok c → Billed o localities b (billed_by b point dv dd (Ok c)) points (points_billed points point c) point dv dd c)
    (sym (on_record b o opened)) (bill_of_open o b localities points point dv dd c)
