-- Each call keeps the tie between the entries, the history and the tables.
use Rattle.std.proofs.Common.{◌≡◌, ℕ, ◌<◌, Bool, true, false, cond, ◌&&◌, eqb, ◌+◌, [], ◌∷◌, ◌++◌, length, get_or, set, ℤ, pos, ◌+ℤ◌, ◌-ℤ◌, is_some, Some, None, Ok, Err, Option, Result, refl, sym, ap, subst, ◌∙◌, ◌⊎◌, inl, inr, ⊎_elim, get_or-set_same, get_or-set_other, arith}
use Rattle.std.proofs.lemmas.Bool.{cond-true, cond-false, eq-eqb, eqb-true, cases_eq, false≢true}
use Rattle.std.proofs.lemmas.List.{get_or_default}
use borrow.Author.Differences.{ints}
use Rattle.units.specs.declared.amounts.Cents.{Cents}
use Rattle.units.specs.declared.refusal.Refusal.{Refusal}
use Rattle.rounding.proofs.SumLaws.{sum_z_push}
use Rattle.journal.specs.declared.entry.Entry.{Entry}
use Rattle.journal.specs.declared.entry.Kind.TheVariants as kind
use Rattle.journal.specs.Appending.{append_answer}
use Rattle.tariff.specs.declared.figures.TariffFigures.{TariffFigures}
use Rattle.tariff.specs.declared.supply.Change.{Change}
use Rattle.tables.specs.declared.rows.LocalityRow.{LocalityRow}
use Rattle.tables.specs.declared.rows.PointRow.{PointRow}
use Rattle.tables.specs.Blank.{no_locality, no_point, no_point_blank, past_table}
use Rattle.tables.specs.Filings.{limit_fault, locality_stands}
use Rattle.tables.specs.PointRows.{point_stands, billed_row}
use Rattle.revenue.specs.Owners.{owns, point_locality, serves}
use Rattle.revenue.specs.Billed.{point_tariff, billed}
use Rattle.revenue.specs.Gs.{point_gs}
use Rattle.revenue.specs.Ug1.{point_ug1}
use Rattle.revenue.proofs.Replacing.{billed_set, ug1_set}
use Rattle.company.specs.declared.figures.TermsFigures.{TermsFigures}
use Rattle.company.specs.declared.record.Company.{Company}
use Rattle.company.specs.declared.record.Event.TheVariants as event
use Rattle.company.specs.declared.terms.Terms.{Terms}
use Rattle.calls.specs.declared.billing.Charged.{Charged}
use Rattle.calls.specs.declared.call.Call.{Call}
use Rattle.calls.specs.declared.call.Call.TheVariants as call
use Rattle.orders.specs.declared.order.Order.{Order}
use Rattle.calls.specs.declared.enrolling.Enrolment.{Enrolment}
use Rattle.orders.specs.Registers.{deciding}
use Rattle.tables.specs.Lengths.{tables_fit}
use Rattle.calls.specs.Decisions.{billing as billing_in}
use Rattle.booklaws.specs.declared.answer.Granted.{Granted}
use Rattle.booklaws.specs.declared.answer.Granted.TheVariants as granted
use Rattle.booklaws.specs.States.{BookState}
use Rattle.booklaws.specs.Tables.{written}
use Rattle.orders.specs.Payments.{amount_paid, advance_entry}
use Rattle.booklaws.specs.Companies.{register_answer, book_with_terms, decided, confirm_decision, confirmed_by, book_after_event, draw_decision, cancel_decision, send_decision, bounce_decision}
use Rattle.booklaws.specs.Closings.{close_decision, balance_of, closed_by, balance_entry, reopen_decision}
use Rattle.booklaws.specs.Rows.{filing, enrolling, billing, bill_of, billed_by, bill_entry}
use Rattle.booklaws.specs.Calls.{State, grants, filed_row, drawn_answer, answer_to, after_call}
use Rattle.booklaws.specs.JournalSums.{is_bill, charge_to, charged_to}
use Rattle.units.proofs.Granted.{when_granted, next_granted, both_granted}
use Rattle.booklaws.proofs.Events.{event_granted}
use Rattle.booklaws.proofs.Bills.{GrantedBill, bill_granted}
use Rattle.booklaws.proofs.QuietLaws.{nothing_billed, cond_nothing}
use Rattle.booklaws.proofs.BillLaw.{still_stands, year_days}
use Rattle.orders.proofs.OrderLaws.{order_laws}
use Rattle.yearly.specs.Histories.{Told, History, or_else, terms_of, filing_of, enrolment_of}
use Rattle.yearly.specs.Entries.{locality_in, locality_enrolled, company_of, entry_booked, booked_payment, booked_bill}
use Rattle.yearly.proofs.Stories.{Held}
use Rattle.yearly.proofs.Ties.{Fixed, Moving, book_at, state_at, story, PointTied, Tied}
use Rattle.yearly.proofs.Grants.{Filed as GrantedFiling, filing_granted, unbilled, Enrolled as GrantedEnrolling, enrolling_granted}
use Rattle.yearly.proofs.Sums.{refiled_billed, none_due, none_gs, gs_set}
use Rattle.yearly.proofs.Booked.{Enrolled, Filed, Standing, Adds, Tells, Booked, BookedIn, there, none_before, Later, Same, standing_later, tells_later, tells_more, adds_payment, Silent, unaltered, refused, spoken}

-- ---- What is told last

-- of one that may be told now, and one that was told earlier
told_last : {X : Type 0} (now : Bool) (x found : X) (earlier : Option X) → or_else (cond now (Some x) None) earlier ≡ Some found → ((now ≡ true) × (x ≡ found)) ⊎ ((now ≡ false) × (earlier ≡ Some found))
told_last true x found earlier is = inl (refl, cc)
told_last false x found earlier is = inr (refl, is)

told_still : {X : Type 0} (now : Bool) (x : X) (earlier : Option X) → is_some earlier ≡ true → is_some (or_else (cond now (Some x) None) earlier) ≡ true
told_still true x earlier some = refl
told_still false x earlier some = some

no_locality_blank : locality_stands no_locality ≡ false
unfolding locality_stands limit_fault
no_locality_blank = refl

-- a row that stands was filed
is_filed : (filing : Option LocalityRow) → locality_stands (locality_in filing) ≡ true → is_some filing ≡ true
is_filed None stands = absurd (false≢true (sym no_locality_blank ∙ stands))
is_filed (Some row) stands = refl

-- ---- A point that stands is enrolled, in a locality that is filed, of a company that is registered
record Place (y : Fixed) (h : History) (m : Moving) (point : ℕ) : Type 0 where
  e : Enrolment
  enrolled : enrolment_of h point ≡ Some e
  row : LocalityRow
  filed : filing_of y.filings h e.locality ≡ Some row
  point_locality : point_locality m.localities (get_or m.points point no_point) ≡ row
  stands : locality_stands row ≡ true
  owned : is_some (terms_of h row.company) ≡ true

enrolment_at : (row : PointRow) (e : Option Enrolment) (v d : ℤ) → PointTied row e v d → point_stands row ≡ true → (x : Enrolment) × (e ≡ Some x) × (row.locality ≡ x.locality)
enrolment_at row None v d tied stands = absurd (false≢true (sym no_point_blank ∙ ap point_stands (sym tied.is) ∙ stands))
enrolment_at row (Some e) v d tied stands = (e, refl, ap (λ (p : PointRow). p.locality) tied.is)

-- what a bill adds to the sum of its company, and to no other
gained : (its : Bool) (sum sum' counted counts old new : ℕ) (booked booked' charge amount : ℤ) → sum' + counted ≡ sum + counts → counted ≡ cond its old 0 → counts ≡ cond its new 0 → booked' ≡ booked +ℤ charge → charge ≡ cond its amount (pos 0) → amount ≡ pos new -ℤ pos old → booked ≡ pos sum → booked' ≡ pos sum'
gained true sum sum' counted counts old new booked booked' charge amount replaced before now more of_bill is adds = omega (arith, ints)
gained false sum sum' counted counts old new booked booked' charge amount replaced before now more of_bill is adds = omega (arith, ints)

module _ (y : Fixed) (h : History) (m : Moving) (T : Tied y h m) (B : Booked y h m.entries m.localities m.points) where
  abbrev book : BookState
  book = book_at y m.companies m.entries

  abbrev with_book : BookState → State
  with_book b = record { book = b; localities = m.localities; points = m.points }

  slot_registered : (company : ℕ) (c : Company) (slot : Option Company) → Held slot (story h m.entries company) → slot ≡ Some c → is_some (terms_of h company) ≡ true
  slot_registered company c None held stood = cc
  slot_registered company c (Some d) held stood = ap is_some held.terms

  -- a company that is on record is registered
  on_record : (company : ℕ) (c : Company) → get_or m.companies company None ≡ Some c → is_some (terms_of h company) ≡ true
  on_record company c stood = slot_registered company c (get_or m.companies company None) (T.companies company) stood

  -- the row at a place of the locality table, whatever is read past it
  row_at : (place : ℕ) → place < y.locality_places → get_or m.localities place past_table ≡ locality_in (filing_of y.filings h place)
  row_at place within =
      let in_table : place < length m.localities = omega (arith, T.locality_places) in
      get_or_default m.localities place past_table no_locality in_table ∙ T.localities place

  place_of : (point : ℕ) → point_stands (get_or m.points point no_point) ≡ true → Place y h m point
  place_of point stands =
      let found = enrolment_at (get_or m.points point no_point) (enrolment_of h point) _ _ (T.points point) stands in
      let e = found.0 in
      let row = there (filing_of y.filings h e.locality) (B.standing.points point e found.1).filed in
      let of_row = B.standing.localities e.locality row.0 row.1 in
      record {
        e = e;
        enrolled = found.1;
        row = row.0;
        filed = row.1;
        point_locality = ap (λ (n : ℕ). get_or m.localities n past_table) found.2 ∙ row_at e.locality of_row.within ∙ ap locality_in row.1;
        stands = of_row.stands;
        owned = of_row.owned;
      }

  -- ---- Calls that book nothing and leave the tables

  event_booked : (c : Call) (place : ℕ) (answer : Company × ℕ → Granted) → Silent y h c → (r : Result (Company × ℕ) Refusal) → BookedIn y ((c, grants r answer) ∷ h) (with_book (book_after_event book place r))
  event_booked c place answer silent (Ok d) = spoken y h m.entries m.localities m.points B c (Ok (answer d)) silent
  event_booked c place answer silent (Err refusal) = refused y h m.entries m.localities m.points B c refusal

  register_booked : (company : ℕ) (f : TermsFigures) (r : Result Terms Refusal) → BookedIn y ((call.Register company f, grants r (λ t. granted.Registered)) ∷ h) (with_book (book_with_terms book company r))
  register_booked company f (Err refusal) = refused y h m.entries m.localities m.points B (call.Register company f) refusal
  register_booked company f (Ok terms) =
      unaltered y h m.entries m.localities m.points B (call.Register company f, Ok granted.Registered)
      (record { registered = λ i. none_before (cond (eqb company i) (Some f) None) (terms_of h i); enrolled = λ point none. none })
      (record { filed = λ place. refl; enrolled = λ point. refl }) refl

  -- ---- Payments

  payment_booked : (x : Told) (e : Entry) → Later h (x ∷ h) → Same y h (x ∷ h) → entry_booked y.filings h x.0 x.1 ≡ e ∷ [] → is_some (terms_of h e.company) ≡ true → is_bill e.kind ≡ false → e.ug1.0 ≡ pos 0 → e.other.0 ≡ pos 0 → Booked y (x ∷ h) (m.entries ++ e ∷ []) m.localities m.points
  payment_booked x e later same one owner no_bill no_ug1 no_gs =
      record {
        standing = standing_later y h (x ∷ h) m.points later same B.standing;
        adds = adds_payment y.tariff.figures m.entries m.localities m.points e
            (λ company. ap (λ (b : Bool). cond (b && eqb e.company company) e.amount.0 (pos 0)) no_bill) no_ug1 no_gs B.adds;
        tells = tells_more y h x m.entries later B.tells e one owner (λ bill. absurd (false≢true (sym no_bill ∙ bill)));
      }

  confirm_booked : (o : Order) (r : Result (Company × ℕ) Refusal) → confirm_decision book o ≡ r → BookedIn y ((call.Confirm o, grants r (λ d. granted.Paid (amount_paid d))) ∷ h) (with_book (confirmed_by book o.company r))
  confirm_booked o (Err refusal) answer = refused y h m.entries m.localities m.points B (call.Confirm o) refusal
  confirm_booked o (Ok d) answer =
      let decision = both_granted (decided book o.book o.company (event.Confirm o.instalment)) (append_answer y.capacity m.entries) d answer in
      let g = event_granted book.opened o.book o.company (event.Confirm o.instalment) d decision in
      let its = (order_laws.confirmed g.c o.instalment d.1 g.answer).0 in
      payment_booked (call.Confirm o, Ok (granted.Paid (amount_paid d))) (advance_entry o.company d.1 (amount_paid d))
      (record { registered = λ company none. none; enrolled = λ point none. none }) (record { filed = λ place. refl; enrolled = λ point. refl })
      (λ z. booked_payment kind.Advance o.company (its z) (amount_paid d) ∷ []) (on_record o.company g.c g.stood) refl refl refl

  close_booked : (company : ℕ) (r : Result (Company × Cents) Refusal) → close_decision book m.localities m.points company ≡ r → BookedIn y ((call.Close company, grants (balance_of r) granted.Closed) ∷ h) (with_book (closed_by book company r))
  close_booked company (Err refusal) answer = refused y h m.entries m.localities m.points B (call.Close company) refusal
  close_booked company (Ok d) answer =
      let decision = both_granted _ (append_answer y.capacity m.entries) d answer in
      let fit = when_granted (tables_fit m.localities m.points) _ _ _ d decision in
      let q = next_granted (deciding m.companies y.number y.number company event.Close) _ d fit.1 in
      let g = event_granted book.opened y.number company event.Close q.0 q.1 in
      payment_booked (call.Close company, Ok (granted.Closed d.1)) (balance_entry company d.1)
      (record { registered = λ company none. none; enrolled = λ point none. none }) (record { filed = λ place. refl; enrolled = λ point. refl })
      refl (on_record company g.c g.stood) refl refl refl

  -- ---- Filing

  filed_booked : (place n : ℕ) (filed : LocalityRow) → GrantedFiling m.companies m.localities place (filed_row y.filings n) filed → Booked y ((call.File place n, Ok granted.Filed) ∷ h) m.entries (set m.localities place (filed_row y.filings n)) m.points
  filed_booked place n filed g =
      let row = filed_row y.filings n in
      let x : Told = (call.File place n, Ok granted.Filed) in
      record {
        standing =
            record {
              points = λ point e is.
                  let old = B.standing.points point e is in
                  record { within = old.within; stands = old.stands; filed = told_still (eqb place e.locality) row (filing_of y.filings h e.locality) old.filed };
              localities = λ i found is.
                  ⊎_elim
                  (λ (now : (eqb place i ≡ true) × (row ≡ found)).
                  let here = eqb-true place i now.0 in
                  let new : Filed y h place row = record { within = omega (arith, g.within, T.locality_places); stands = g.stands; owned = on_record row.company g.active.company g.active.stood } in
                  filed_later (subst (λ (k : ℕ). Filed y h k found) here (subst (Filed y h place) now.1 new)))
                  (λ (before : (eqb place i ≡ false) × (filing_of y.filings h i ≡ Some found)). filed_later (B.standing.localities i found before.1))
                  (told_last (eqb place i) row found (filing_of y.filings h i) is);
            };
        adds =
            record {
              lines = λ company.
                  B.adds.lines company
                  ∙ ap pos (sym (refiled_billed y.tariff.figures company m.localities place row g.within g.stands g.keeps m.points point_locality_stands));
              ug1 = B.adds.ug1;
              gs = B.adds.gs;
            };
        tells = tells_later y h x m.entries (record { registered = λ company none. none; enrolled = λ point none. none }) B.tells refl;
      }
    where
      filed_later : {i : ℕ} {found : LocalityRow} → Filed y h i found → Filed y ((call.File place n, Ok granted.Filed) ∷ h) i found
      filed_later {i} {found} f = record { within = f.within; stands = f.stands; owned = f.owned }

      point_locality_stands : (i : ℕ) → point_stands (get_or m.points i no_point) ≡ true → locality_stands (point_locality m.localities (get_or m.points i no_point)) ≡ true
      point_locality_stands i stands = let p = place_of i stands in ap locality_stands p.point_locality ∙ p.stands

  file_booked : (place n : ℕ) (r : Result LocalityRow Refusal) → filing book m.localities place (filed_row y.filings n) ≡ r → BookedIn y ((call.File place n, grants r (λ l. granted.Filed)) ∷ h) (record { book = book; localities = written (λ l. l) m.localities place r; points = m.points })
  file_booked place n (Err refusal) answer = refused y h m.entries m.localities m.points B (call.File place n) refusal
  file_booked place n (Ok filed) answer =
      let g = filing_granted m.companies m.localities place (filed_row y.filings n) filed answer in
      subst (λ (l : LocalityRow). Booked y ((call.File place n, Ok granted.Filed) ∷ h) m.entries (set m.localities place l) m.points) (sym g.is) (filed_booked place n filed g)

  -- ---- Enrolling

  enrolled_booked : (point : ℕ) (e : Enrolment) (row : PointRow) → GrantedEnrolling m.companies m.localities m.points point e row → Booked y ((call.Enrol point e, Ok granted.Enrolled) ∷ h) m.entries m.localities (set m.points point (unbilled e))
  enrolled_booked point e row g =
      let t = y.tariff.figures in
      let new = unbilled e in
      let old = get_or m.points point no_point in
      let x : Told = (call.Enrol point e, Ok granted.Enrolled) in
      record {
        standing =
            record {
              points = λ i found is.
                  ⊎_elim
                  (λ (now : (eqb point i ≡ true) × (e ≡ found)).
                  let here = eqb-true point i now.0 in
                  subst (λ (k : ℕ). Enrolled y (x ∷ h) (set m.points point new) k found) here (subst (Enrolled y (x ∷ h) (set m.points point new) point) now.1 (enrols_here)))
                  (λ (before : (eqb point i ≡ false) × (enrolment_of h i ≡ Some found)).
                  let was = B.standing.points i found before.1 in
                  let elsewhere : i ≡ point → ⊥ = λ here. false≢true (sym before.0 ∙ eq-eqb point i (sym here)) in
                  record {
                    within = was.within;
                    stands = ap point_stands (get_or-set_other m.points point i new no_point elsewhere) ∙ was.stands;
                    filed = was.filed;
                  })
                  (told_last (eqb point i) e found (enrolment_of h i) is);
              localities = λ place found is.
                  let was = B.standing.localities place found is in
                  record { within = was.within; stands = was.stands; owned = was.owned };
            };
        adds =
            record {
              lines = λ company.
                  let replaced = billed_set t m.localities m.points company point new no_point g.within in
                  let before = cond-false (serves m.localities company old) (point_tariff t (point_locality m.localities old) old) 0 (ap (λ (b : Bool). b && owns company (point_locality m.localities old)) g.blank) in
                  let after = cond_nothing (serves m.localities company new) (point_tariff t (point_locality m.localities new) new) (none_due t (point_locality m.localities new) new refl refl) in
                  let lines = B.adds.lines company in
                  omega (arith, ints, replaced, before, after, lines);
              ug1 =
                  let replaced = ug1_set t m.points point new no_point g.within in
                  let before = cond-false (point_stands old) (point_ug1 t old) 0 g.blank in
                  let after = cond_nothing (point_stands new) (point_ug1 t new) (nothing_billed t new refl) in
                  omega (arith, ints, replaced, before, after, B.adds.ug1);
              gs =
                  let replaced = gs_set t m.points point new no_point g.within in
                  let before = cond-false (point_stands old) (point_gs t old) 0 g.blank in
                  let after = cond_nothing (point_stands new) (point_gs t new) (none_gs t new refl) in
                  omega (arith, ints, replaced, before, after, B.adds.gs);
            };
        tells =
            tells_later y h x m.entries
            (record { registered = λ company none. none; enrolled = λ i. none_before (cond (eqb point i) (Some e) None) (enrolment_of h i) }) B.tells refl;
      }
    where
      enrols_here : Enrolled y ((call.Enrol point e, Ok granted.Enrolled) ∷ h) (set m.points point (unbilled e)) point e
      enrols_here =
          record {
            within = omega (arith, g.within, T.point_places);
            stands = ap point_stands (get_or-set_same m.points point (unbilled e) no_point g.within) ∙ g.stands;
            filed = is_filed (filing_of y.filings h e.locality) (ap locality_stands (sym (row_at e.locality (omega (arith, g.in_table, T.locality_places)))) ∙ g.point_locality_stands);
          }

  enrol_booked : (point : ℕ) (e : Enrolment) (r : Result PointRow Refusal) → enrolling book m.localities m.points point e ≡ r → BookedIn y ((call.Enrol point e, grants r (λ p. granted.Enrolled)) ∷ h) (record { book = book; localities = m.localities; points = written (λ p. p) m.points point r })
  enrol_booked point e (Err refusal) answer = refused y h m.entries m.localities m.points B (call.Enrol point e) refusal
  enrol_booked point e (Ok row) answer =
      let g = enrolling_granted m.companies m.localities m.points point e row answer in
      subst (λ (p : PointRow). Booked y ((call.Enrol point e, Ok granted.Enrolled) ∷ h) m.entries m.localities (set m.points point p)) (sym g.is) (enrolled_booked point e row g)

  -- ---- Billing

  module _ (point : ℕ) (change : Change) (c : Charged) (g : GrantedBill y.tariff.figures m.localities m.points point change.volume change.days c) where
    abbrev t : TariffFigures
    t = y.tariff.figures

    abbrev row : PointRow
    row = get_or m.points point no_point

    abbrev after : PointRow
    after = billed_row row c.bill

    abbrev entry : Entry
    entry = bill_entry c point change.volume change.days

    abbrev x : Told
    x = (call.Bill point change, Ok (granted.Billed c.bill))

    stands_after : point_stands after ≡ true
    stands_after =
        let year = year_days y.tariff in
        still_stands row c.bill g.stands g.charges.volume_fits (omega (arith, g.charges.days_fit, year))

    bill_standing : Standing y (x ∷ h) (set m.points point after)
    bill_standing =
        record {
          points = λ i e is.
              let was = B.standing.points i e is in
              record {
                within = was.within;
                stands =
                    ⊎_elim
                    (λ (here : i ≡ point). ap (λ (k : ℕ). point_stands (get_or (set m.points point after) k no_point)) here ∙ ap point_stands (get_or-set_same m.points point after no_point g.within) ∙ stands_after)
                    (λ (elsewhere : i ≡ point → ⊥). ap point_stands (get_or-set_other m.points point i after no_point elsewhere) ∙ was.stands)
                    (cases_eq i point);
                filed = was.filed;
              };
          localities = λ place found is.
              let was = B.standing.localities place found is in
              record { within = was.within; stands = was.stands; owned = was.owned };
        }

    -- what a bill charges its point's company, and nobody else
    lines_more : (company : ℕ) (its : Bool) → eqb (point_locality m.localities row).company company ≡ its → charged_to m.entries company ≡ pos (billed t m.localities m.points company) → charged_to (m.entries ++ entry ∷ []) company ≡ pos (billed t m.localities (set m.points point after) company)
    lines_more company its is lines =
        let replaced = billed_set t m.localities m.points company point after no_point g.within in
        let of_company : owns company (point_locality m.localities row) ≡ its = ap (λ (b : Bool). b && eqb (point_locality m.localities row).company company) g.point_locality_stands ∙ is in
        let before = ap (λ (b : Bool). cond b (point_tariff t (point_locality m.localities row) row) 0) (ap (λ (b : Bool). b && owns company (point_locality m.localities row)) g.stands ∙ of_company) in
        let now = ap (λ (b : Bool). cond b (point_tariff t (point_locality m.localities after) after) 0) (ap (λ (b : Bool). b && owns company (point_locality m.localities after)) stands_after ∙ of_company) in
        let more = sum_z_push (charge_to company) m.entries entry in
        let charge = ap (λ (b : Bool). cond b c.bill.charge.tariff.0 (pos 0)) (ap (λ (n : ℕ). eqb n company) g.company ∙ is) in
        gained its (billed t m.localities m.points company) (billed t m.localities (set m.points point after) company)
        (cond (serves m.localities company row) (point_tariff t (point_locality m.localities row) row) 0) (cond (serves m.localities company after) (point_tariff t (point_locality m.localities after) after) 0)
        (point_tariff t (point_locality m.localities row) row) (point_tariff t (point_locality m.localities after) after)
        (charged_to m.entries company) (charged_to (m.entries ++ entry ∷ []) company) (charge_to company entry) c.bill.charge.tariff.0
        replaced before now more charge g.charges.tariff lines

    bill_adds : Adds t (m.entries ++ entry ∷ []) m.localities (set m.points point after)
    bill_adds =
        record {
          lines = λ company. lines_more company (eqb (point_locality m.localities row).company company) refl (B.adds.lines company);
          ug1 =
              let more = sum_z_push (λ (a : Entry). a.ug1.0) m.entries entry in
              let replaced = ug1_set t m.points point after no_point g.within in
              let before = cond-true (point_stands row) (point_ug1 t row) 0 g.stands in
              let now = cond-true (point_stands after) (point_ug1 t after) 0 stands_after in
              omega (arith, ints, more, replaced, before, now, g.charges.ug1, B.adds.ug1);
          gs =
              let more = sum_z_push (λ (a : Entry). a.other.0) m.entries entry in
              let replaced = gs_set t m.points point after no_point g.within in
              let before = cond-true (point_stands row) (point_gs t row) 0 g.stands in
              let now = cond-true (point_stands after) (point_gs t after) 0 stands_after in
              omega (arith, ints, more, replaced, before, now, g.charges.gs, B.adds.gs);
        }

    bill_tells : Tells y (x ∷ h) (m.entries ++ entry ∷ [])
    bill_tells =
        let place = place_of point g.stands in
        let owner : company_of y.filings h point ≡ place.row.company = ap (λ (e : Option Enrolment). (locality_enrolled y.filings h e).company) place.enrolled ∙ ap (λ (filing : Option LocalityRow). (locality_in filing).company) place.filed in
        let of_point_locality : c.company ≡ place.row.company = g.company ∙ ap (λ (l : LocalityRow). l.company) place.point_locality in
        tells_more y h x m.entries (record { registered = λ company none. none; enrolled = λ i none. none }) B.tells entry
        (ap (λ (company : ℕ). booked_bill company point change c.bill ∷ []) (owner ∙ sym of_point_locality))
        (ap (λ (company : ℕ). is_some (terms_of h company)) of_point_locality ∙ place.owned)
        (λ bill. ap is_some place.enrolled)

  bill_booked : (point : ℕ) (change : Change) (r : Result Charged Refusal) → billing book m.localities m.points point change.volume change.days ≡ r → BookedIn y ((call.Bill point change, grants (bill_of r) granted.Billed) ∷ h) (record { book = billed_by book point change.volume change.days r; localities = m.localities; points = written (billed_row (get_or m.points point no_point)) m.points point (bill_of r) })
  bill_booked point change (Err refusal) answer = refused y h m.entries m.localities m.points B (call.Bill point change) refusal
  bill_booked point change (Ok c) answer =
      let granted = both_granted (billing_in y.tariff.figures m.companies m.localities m.points point change.volume change.days) (append_answer y.capacity m.entries) c answer in
      let g = bill_granted y.tariff.figures m.companies m.localities m.points point change.volume change.days c granted in
      record { standing = bill_standing point change c g; adds = bill_adds point change c g; tells = bill_tells point change c g }

  -- ---- Any call

  pub booked_step : (c : Call) → BookedIn y ((c, answer_to y.filings (state_at y m) c) ∷ h) (after_call y.filings (state_at y m) c)
  booked_step (call.Register company f) = register_booked company f (register_answer book company f)
  booked_step (call.File place n) = file_booked place n (filing book m.localities place (filed_row y.filings n)) refl
  booked_step (call.Enrol point e) = enrol_booked point e (enrolling book m.localities m.points point e) refl
  booked_step (call.Bill point change) = bill_booked point change (billing book m.localities m.points point change.volume change.days) refl
  booked_step (call.Draw company) =
      event_booked (call.Draw company) company (λ d. drawn_answer y.number company d.1) (record { entry = λ a. refl; files = λ i. refl; enrols = λ i. refl; registers = λ i. refl }) (draw_decision book company)
  booked_step (call.Cancel o) =
      event_booked (call.Cancel o) o.company (λ d. granted.Cancelled) (record { entry = λ a. refl; files = λ i. refl; enrols = λ i. refl; registers = λ i. refl }) (cancel_decision book o)
  booked_step (call.Send o) =
      event_booked (call.Send o) o.company (λ d. granted.Sent) (record { entry = λ a. refl; files = λ i. refl; enrols = λ i. refl; registers = λ i. refl }) (send_decision book o)
  booked_step (call.Confirm o) = confirm_booked o (confirm_decision book o) refl
  booked_step (call.Bounce o) =
      event_booked (call.Bounce o) o.company (λ d. granted.Bounced) (record { entry = λ a. refl; files = λ i. refl; enrols = λ i. refl; registers = λ i. refl }) (bounce_decision book o)
  booked_step (call.Close company) = close_booked company (close_decision book m.localities m.points company) refl
  booked_step (call.Reopen company) =
      event_booked (call.Reopen company) company (λ d. granted.Reopened) (record { entry = λ a. refl; files = λ i. refl; enrols = λ i. refl; registers = λ i. refl }) (reopen_decision book company)
  booked_step (call.Ask q) =
      spoken y h m.entries m.localities m.points B (call.Ask q) (answer_to y.filings (state_at y m) (call.Ask q)) (record { entry = λ a. refl; files = λ i. refl; enrols = λ i. refl; registers = λ i. refl })
