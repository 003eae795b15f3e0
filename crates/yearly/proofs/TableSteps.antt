-- The calls that write a row of a lent table keep the tie: filing, enrolling and billing.
use Rattle.std.proofs.Common.{◌≡◌, ℕ, Bool, true, false, cond, eqb, List, [], ◌∷◌, ◌++◌, get_or, set, ℤ, pos, ◌+ℤ◌, unsigned_abs, Some, None, Ok, Err, Option, Result, refl, sym, ap, ap₂, subst, ◌∙◌, length-set, arith}
use Rattle.std.proofs.lemmas.Bool.{eq-eqb, ne_eqb, and_left, false≢true}
use borrow.Author.Differences.{ints}
use Rattle.units.specs.declared.refusal.Refusal.{Refusal}
use Rattle.rounding.proofs.SumLaws.{sum_z_push}
use Rattle.journal.specs.declared.entry.Entry.{Entry}
use Rattle.journal.specs.Appending.{append_answer}
use Rattle.tariff.specs.declared.supply.Change.{Change}
use Rattle.tables.specs.declared.rows.LocalityRow.{LocalityRow}
use Rattle.tables.specs.declared.rows.PointRow.{PointRow}
use Rattle.tables.specs.Blank.{no_locality, no_point, no_point_blank, past_table}
use Rattle.tables.specs.PointRows.{point_stands, billed_row}
use Rattle.revenue.specs.Owners.{owns, point_locality, serves}
use Rattle.revenue.proofs.Replacing.{billed_foreign, commercial_foreign, localities_foreign, billed_refiled, commercial_refiled}
use Rattle.calls.specs.declared.billing.Charged.{Charged}
use Rattle.calls.specs.declared.call.Call.TheVariants as call
use Rattle.calls.specs.declared.enrolling.Enrolment.{Enrolment}
use Rattle.calls.specs.Decisions.{billing as billing_in}
use Rattle.booklaws.specs.declared.answer.Granted.TheVariants as granted
use Rattle.booklaws.specs.States.{BookState}
use Rattle.booklaws.specs.Tables.{written}
use Rattle.booklaws.specs.Rows.{filing, enrolling, billing, bill_of, billed_by, bill_entry}
use Rattle.booklaws.specs.Calls.{grants, filed_row}
use Rattle.booklaws.specs.JournalSums.{Advanced, payment_to, journal_volume, journal_days, paid_to}
use Rattle.units.proofs.Granted.{both_granted}
use Rattle.booklaws.proofs.Bills.{GrantedBill, bill_granted}
use Rattle.booklaws.proofs.BillLaw.{still_stands, year_days}
use Rattle.booklaws.proofs.Noting.{its_change, others_change, no_advances, no_payment}
use Rattle.yearly.specs.Histories.{Told, History, or_else, filing_of, enrolment_of}
use Rattle.yearly.specs.Entries.{locality_in}
use Rattle.yearly.specs.YearRules.{point_in}
use Rattle.yearly.proofs.Writing.{each_after_set}
use Rattle.yearly.proofs.Stories.{Held}
use Rattle.yearly.proofs.Ties.{Fixed, Moving, book_at, story, PointTied, Tied, Stands, kept, point_same}
use Rattle.yearly.proofs.Foreign.{Active, another, owns_not, serves_not, SameSums, settled_same}
use Rattle.yearly.proofs.Grants.{Filed, filing_granted, unbilled, Enrolled, enrolling_granted, billing_active}

module _ (y : Fixed) (h : History) (m : Moving) (T : Tied y h m) where
  abbrev book : BookState
  book = book_at y m.companies m.entries

  -- ---- Filing

  -- the sums of a company that does not own the locality
  filed_sums : (place : ℕ) (row filed : LocalityRow) → Filed m.companies m.localities place row filed → (i : ℕ) → (row.company ≡ i → ⊥) → SameSums y.tariff.figures m.localities (set m.localities place row) m.points m.points i
  filed_sums place row filed g i other =
      let old = owns_not (get_or m.localities place past_table) i (λ stands here. other (sym (g.keeps stands).company ∙ here)) in
      let new = owns_not row i (λ stands. other) in
      record {
        localities = localities_foreign m.localities i place row old new y.tariff.figures;
        commercial = commercial_refiled m.localities i place row old new y.tariff.figures m.points;
        points = billed_refiled m.localities i place row old new y.tariff.figures m.points;
      }

  filed_tied : (place n : ℕ) (filed : LocalityRow) → Filed m.companies m.localities place (filed_row y.filings n) filed → Tied y ((call.File place n, Ok granted.Filed) ∷ h) (record { companies = m.companies; entries = m.entries; localities = set m.localities place (filed_row y.filings n); points = m.points })
  filed_tied place n filed g =
      let row = filed_row y.filings n in
      let told : Bool → ℕ → LocalityRow = λ b i. locality_in (or_else (cond b (Some row) None) (filing_of y.filings h i)) in
      record {
        long = T.long;
        locality_places = length-set m.localities place row ∙ T.locality_places;
        point_places = T.point_places;
        companies = T.companies;
        localities =
            each_after_set (λ (i : ℕ) (l : LocalityRow). l ≡ told (eqb place i) i) m.localities place row no_locality g.within
            (λ i other. T.localities i ∙ ap (λ (b : Bool). told b i) (sym (ne_eqb place i other)))
            (ap (λ (b : Bool). told b place) (sym (eq-eqb place place refl)));
        points = T.points;
        settled = λ i.
            settled_same y m.localities (set m.localities place row) m.points m.points i (get_or m.companies i None)
            (λ c stood closed. filed_sums place row filed g i (another m.companies row.company g.active i c stood closed)) (T.settled i);
        spent = T.spent;
      }

  pub file_step : (place n : ℕ) (r : Result LocalityRow Refusal) → filing book m.localities place (filed_row y.filings n) ≡ r → Stands y ((call.File place n, grants r (λ l. granted.Filed)) ∷ h) (record { book = book; localities = written (λ l. l) m.localities place r; points = m.points })
  file_step place n (Err refused) answer = record { m = m; is = refl; tied = kept y h m T (call.File place n) refused }
  file_step place n (Ok filed) answer =
      let g = filing_granted m.companies m.localities place (filed_row y.filings n) filed answer in
      record {
        m = record { companies = m.companies; entries = m.entries; localities = set m.localities place (filed_row y.filings n); points = m.points };
        is = ap (λ (l : LocalityRow). record { book = book; localities = set m.localities place l; points = m.points }) g.is;
        tied = filed_tied place n filed g;
      }

  -- ---- A point's row is replaced

  -- the sums of a company whose point it is not
  point_sums : (point : ℕ) (row : PointRow) (i : ℕ) → serves m.localities i (get_or m.points point no_point) ≡ false → serves m.localities i row ≡ false → SameSums y.tariff.figures m.localities m.localities m.points (set m.points point row) i
  point_sums point row i old new =
      record {
        localities = refl;
        commercial = commercial_foreign y.tariff.figures m.localities m.points i point row no_point old new;
        points = billed_foreign y.tariff.figures m.localities m.points i point row no_point old new;
      }

  -- ---- Enrolling

  module _ (point : ℕ) (e : Enrolment) (row : PointRow) (g : Enrolled m.companies m.localities m.points point e row) where
    abbrev new_row : PointRow
    new_row = unbilled e

    old : PointTied (get_or m.points point no_point) (enrolment_of h point) (journal_volume m.entries point) (journal_days m.entries point)
    old = T.points point

    new_tied : PointTied new_row (Some e) (journal_volume m.entries point) (journal_days m.entries point)
    new_tied =
        let nothing = old.blank g.blank in
        let volume : pos 0 ≡ journal_volume m.entries point = ap pos (sym nothing.0) ∙ old.volume in
        let days : pos 0 ≡ journal_days m.entries point = ap pos (sym nothing.1) ∙ old.days in
        record {
          is = λ z. record { locality = e.locality; class = e.class; domestic = e.domestic; volume = unsigned_abs (volume z); days = unsigned_abs (days z) };
          volume = volume;
          days = days;
          blank = λ _. (refl, refl);
        }

    enrolled_tied : Tied y ((call.Enrol point e, Ok granted.Enrolled) ∷ h) (record { companies = m.companies; entries = m.entries; localities = m.localities; points = set m.points point new_row })
    enrolled_tied =
        let told : Bool → ℕ → Option Enrolment = λ b i. or_else (cond b (Some e) None) (enrolment_of h i) in
        let owner = (get_or m.localities e.locality past_table).company in
        record {
          long = T.long;
          locality_places = T.locality_places;
          point_places = length-set m.points point new_row ∙ T.point_places;
          companies = T.companies;
          localities = T.localities;
          points =
              each_after_set (λ (i : ℕ) (p : PointRow). PointTied p (told (eqb point i) i) (journal_volume m.entries i) (journal_days m.entries i)) m.points point new_row no_point g.within
              (λ i other. point_same _ _ _ _ _ _ _ (ap (λ (b : Bool). told b i) (ne_eqb point i other)) refl refl (T.points i))
              (point_same _ _ _ _ _ _ _ (ap (λ (b : Bool). told b point) (eq-eqb point point refl)) refl refl new_tied);
          settled = λ i.
              settled_same y m.localities m.localities m.points (set m.points point new_row) i (get_or m.companies i None)
              (λ c stood closed.
              point_sums point new_row i (and_left (point_stands (get_or m.points point no_point)) (owns i (point_locality m.localities (get_or m.points point no_point))) g.blank)
              (serves_not m.localities new_row i (owns_not (point_locality m.localities new_row) i (λ stands. another m.companies owner g.active i c stood closed))))
              (T.settled i);
          spent = T.spent;
        }

  pub enrol_step : (point : ℕ) (e : Enrolment) (r : Result PointRow Refusal) → enrolling book m.localities m.points point e ≡ r → Stands y ((call.Enrol point e, grants r (λ p. granted.Enrolled)) ∷ h) (record { book = book; localities = m.localities; points = written (λ p. p) m.points point r })
  enrol_step point e (Err refused) answer = record { m = m; is = refl; tied = kept y h m T (call.Enrol point e) refused }
  enrol_step point e (Ok row) answer =
      let g = enrolling_granted m.companies m.localities m.points point e row answer in
      record {
        m = record { companies = m.companies; entries = m.entries; localities = m.localities; points = set m.points point (unbilled e) };
        is = ap (λ (p : PointRow). record { book = book; localities = m.localities; points = set m.points point p }) g.is;
        tied = enrolled_tied point e row g;
      }

  -- ---- Billing

  module _ (point : ℕ) (change : Change) (c : Charged) (g : GrantedBill y.tariff.figures m.localities m.points point change.volume change.days c) (active : Active m.companies (point_locality m.localities (get_or m.points point no_point)).company) where
    abbrev row : PointRow
    row = get_or m.points point no_point

    abbrev after : PointRow
    after = billed_row row c.bill

    abbrev entries : List Entry
    entries = m.entries ++ bill_entry c point change.volume change.days ∷ []

    stands_after : point_stands after ≡ true
    stands_after =
        let year = year_days y.tariff in
        still_stands row c.bill g.stands g.charges.volume_fits (omega (arith, g.charges.days_fit, year))

    is_billed : (e : Option Enrolment) (v d v' d' : ℤ) → PointTied row e v d → pos c.bill.volume ≡ v' → pos c.bill.days ≡ d' → after ≡ point_in e v' d'
    is_billed None v d v' d' tied volume days = absurd (false≢true (sym no_point_blank ∙ ap point_stands (sym tied.is) ∙ g.stands))
    is_billed (Some e) v d v' d' tied volume days =
        λ z. record { locality = (tied.is z).locality; class = (tied.is z).class; domestic = (tied.is z).domestic; volume = unsigned_abs (volume z); days = unsigned_abs (days z) }

    row_tied : PointTied after (enrolment_of h point) (journal_volume entries point) (journal_days entries point)
    row_tied =
        let before = T.points point in
        let more_volume = its_change m.entries c point change.volume change.days (λ e. e.volume) in
        let more_days = its_change m.entries c point change.volume change.days (λ e. e.days) in
        let volume : pos c.bill.volume ≡ journal_volume entries point = omega (arith, ints, before.volume, more_volume, g.charges.volume) in
        let days : pos c.bill.days ≡ journal_days entries point = omega (arith, ints, before.days, more_days, g.charges.days) in
        record {
          is = is_billed (enrolment_of h point) _ _ _ _ before volume days;
          volume = volume;
          days = days;
          blank = λ blank. absurd (false≢true (sym blank ∙ stands_after));
        }

    billed_tied : Tied y ((call.Bill point change, Ok (granted.Billed c.bill)) ∷ h) (record { companies = m.companies; entries = entries; localities = m.localities; points = set m.points point after })
    billed_tied =
        let x : Told = (call.Bill point change, Ok (granted.Billed c.bill)) in
        let owner = (point_locality m.localities row).company in
        record {
          long = T.long;
          locality_places = T.locality_places;
          point_places = length-set m.points point after ∙ T.point_places;
          companies = λ i. subst (Held (get_or m.companies i None)) (sym (story_billed x i)) (T.companies i);
          localities = T.localities;
          points =
              each_after_set (λ (i : ℕ) (p : PointRow). PointTied p (enrolment_of h i) (journal_volume entries i) (journal_days entries i)) m.points point after no_point g.within
              (λ i other.
              point_same _ _ _ _ _ _ _ refl
              (others_change m.entries c point change.volume change.days (λ e. e.volume) i (λ e. other (sym e)))
              (others_change m.entries c point change.volume change.days (λ e. e.days) i (λ e. other (sym e))) (T.points i))
              row_tied;
          settled = λ i.
              settled_same y m.localities m.localities m.points (set m.points point after) i (get_or m.companies i None)
              (λ company stood closed.
              let foreign = owns_not (point_locality m.localities row) i (λ stands. another m.companies owner active i company stood closed) in
              point_sums point after i (serves_not m.localities row i foreign) (serves_not m.localities after i foreign))
              (T.settled i);
          spent = T.spent ∙ sym (no_payment m.entries c point change.volume change.days);
        }
      where
        story_billed : (x : Told) (i : ℕ) → story (x ∷ h) entries i ≡ story (x ∷ h) m.entries i
        story_billed x i =
            let advances = no_advances m.entries c point change.volume change.days i in
            ap₂ (λ (xs : List Advanced) (z : ℤ). record (story (x ∷ h) m.entries i) { advances = xs; paid = z }) advances
            (sum_z_push (payment_to i) m.entries (bill_entry c point change.volume change.days) ∙ nothing (eqb c.company i) (paid_to m.entries i))
          where
            nothing : (b : Bool) (z : ℤ) → z +ℤ cond b (pos 0) (pos 0) ≡ z
            nothing true z = omega (arith, ints)
            nothing false z = omega (arith, ints)

  pub bill_step : (point : ℕ) (change : Change) (r : Result Charged Refusal) → billing book m.localities m.points point change.volume change.days ≡ r → Stands y ((call.Bill point change, grants (bill_of r) granted.Billed) ∷ h) (record { book = billed_by book point change.volume change.days r; localities = m.localities; points = written (billed_row (get_or m.points point no_point)) m.points point (bill_of r) })
  bill_step point change (Err refused) answer = record { m = m; is = refl; tied = kept y h m T (call.Bill point change) refused }
  bill_step point change (Ok c) answer =
      let granted = both_granted (billing_in y.tariff.figures m.companies m.localities m.points point change.volume change.days) (append_answer y.capacity m.entries) c answer in
      let g = bill_granted y.tariff.figures m.companies m.localities m.points point change.volume change.days c granted in
      let active = billing_active y.tariff.figures m.companies m.localities m.points point change.volume change.days c granted in
      record {
        m = record { companies = m.companies; entries = entries point change c g active; localities = m.localities; points = set m.points point (after point change c g active) };
        is = refl;
        tied = billed_tied point change c g active;
      }
