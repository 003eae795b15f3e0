-- What a granted filing, enrolling and bill say of the tables.
use Rattle.std.proofs.Common.{◌≡◌, ℕ, ◌<◌, ◌≤◌, Bool, true, false, not, cond, ltb, leb, eqb, List, [], ◌∷◌, length, get_or, ℤ, is_some, Some, None, Ok, Option, refl, sym, ap, subst, ◌∙◌, arith}
use Rattle.std.proofs.lemmas.Bool.{ltb-true, leb-true, le-leb, eqb-true, and_from, and_parts, false≢true}
use Rattle.units.specs.declared.refusal.Refusal.{Refusal}
use Rattle.limits.specs.First.{among, unless, first_of}
use Rattle.limits.specs.Checked.{faultless}
use Rattle.tariff.specs.declared.figures.TariffFigures.{TariffFigures}
use Rattle.tables.specs.declared.rows.LocalityRow.{LocalityRow}
use Rattle.tables.specs.declared.rows.PointRow.{PointRow}
use Rattle.tables.specs.Blank.{no_point, past_table}
use Rattle.tables.specs.Filings.{Odds, rows_fault, change_fault, odds_fault, fault_of, filing_fault, limit_fault, locality_stands}
use Rattle.tables.specs.Lookups.{locality_at, point_at}
use Rattle.tables.specs.PointRows.{point_stands}
use Rattle.revenue.specs.Owners.{point_locality}
use Rattle.company.specs.declared.record.Event.TheVariants.{File, Enrol, Bill as BillEvent}
use Rattle.calls.specs.declared.billing.Charged.{Charged}
use Rattle.calls.specs.declared.enrolling.Enrolment.{Enrolment}
use Rattle.orders.specs.Registers.{Companies, company_at, after_event}
use Rattle.tables.specs.Lengths.{tables_fit}
use Rattle.calls.specs.Decisions.{enrolled_within, filing, enrolling, point_to_bill, billing}
use Rattle.units.proofs.Granted.{when_granted, found_granted, next_granted, same}
use Rattle.booklaws.proofs.Bills.{standing_row}
use Rattle.booklaws.proofs.QuietLaws.{not_standing}
use Rattle.yearly.proofs.Foreign.{Active, active_at}

-- ---- Filing

first_none : (a : Option ℕ) (more : List (Option ℕ)) → first_of (a ∷ more) ≡ None → a ≡ None
first_none None more none = refl
first_none (Some n) more none = cc

unless_none : (fits : Bool) (n : ℕ) → unless fits n ≡ None → fits ≡ true
unless_none true n none = refl
unless_none false n none = cc

rest_none : (a : Option ℕ) (more : List (Option ℕ)) → first_of (a ∷ more) ≡ None → first_of more ≡ None
rest_none None more none = none
rest_none (Some n) more none = cc

no_faults : (limit odds : Option ℕ) → fault_of limit odds ≡ None → (limit ≡ None) × (odds ≡ None)
no_faults None None none = (refl, refl)
no_faults None (Some n) none = cc
no_faults (Some m) odds none = cc

-- filed again, a locality keeps its company and its area
pub record Refiled (old new : LocalityRow) : Type 0 where
  pub company : old.company ≡ new.company
  pub area : old.area ≡ new.area

refiled : (old new : LocalityRow) → odds_fault (Some old) new ≡ None → Refiled old new
unfolding odds_fault
refiled old new none =
    let kept = first_none (change_fault (Some old) new) _ none in
    let of_state = rest_none (unless (eqb new.company old.company) 0) _ kept in
    let of_area = rest_none (unless (eqb new.state old.state) 1) _ of_state in
    record {
      company = sym (eqb-true new.company old.company (unless_none (eqb new.company old.company) 0 (first_none _ _ kept)));
      area = sym (eqb-true new.area old.area (unless_none (eqb new.area old.area) 2 (first_none _ _ of_area)));
    }

stood_keeps : (stood : Bool) (old new : LocalityRow) → odds_fault (cond stood (Some old) None) new ≡ None → stood ≡ true → Refiled old new
stood_keeps true old new none stands = refiled old new none
stood_keeps false old new none stands = absurd (false≢true stands)

-- a row that is filed without a fault stands
none_at_odds : (old : Option LocalityRow) (new : LocalityRow) → odds_fault old new ≡ None → odds_fault None new ≡ None
unfolding odds_fault
none_at_odds old new none = rest_none (change_fault old new) (rows_fault Odds 5 new.rows ∷ []) none

filed_stands : (old : Option LocalityRow) (new : LocalityRow) → ltb new.company 16 ≡ true → filing_fault old new ≡ None → locality_stands new ≡ true
unfolding locality_stands
filed_stands old new company none =
    let faults = no_faults (limit_fault new) (odds_fault old new) none in
    let one_of = ltb-true new.company 16 company in
    and_from (leb new.company 15) _ (le-leb new.company 15 (omega arith))
    (λ z. not (is_some (fault_of (faults.0 z) (none_at_odds old new faults.1 z))))

no_fault : (fault : Option Refusal) (row filed : LocalityRow) → faultless fault row ≡ Ok filed → (fault ≡ None) × (row ≡ filed)
no_fault None row filed granted = (refl, same row filed granted)
no_fault (Some refused) row filed granted = cc

pub record Filed (companies : Companies) (localities : List LocalityRow) (place : ℕ) (row filed : LocalityRow) : Type 0 where
  pub within : place < length localities
  pub active : Active companies row.company
  pub keeps : locality_stands (get_or localities place past_table) ≡ true → Refiled (get_or localities place past_table) row
  pub stands : locality_stands row ≡ true
  pub is : filed ≡ row

pub filing_granted : (companies : Companies) (localities : List LocalityRow) (place : ℕ) (row filed : LocalityRow) → filing companies localities place row ≡ Ok filed → Filed companies localities place row filed
filing_granted companies localities place row filed granted =
    let fit = when_granted (leb (length localities) 256) _ _ _ filed granted in
    let place_in = when_granted (ltb place (length localities)) _ _ _ filed fit.1 in
    let company_in = when_granted (ltb row.company 16) _ _ _ filed place_in.1 in
    let company = found_granted (company_at companies row.company) _ _ filed company_in.1 in
    let fault = filing_fault (locality_at localities place) row in
    let good = next_granted (faultless fault row) _ filed company.2 in
    let none = no_fault fault row good.0 good.1 in
    let open_company = next_granted (after_event company.0 row.company File) _ filed good.2 in
    let old = get_or localities place past_table in
    record {
      within = ltb-true _ _ place_in.0;
      active = active_at companies row.company company.0 File open_company.0 company.1 refl open_company.1;
      keeps = stood_keeps (locality_stands old) old row (no_faults (limit_fault row) (odds_fault (locality_at localities place) row) none.0).1;
      stands = filed_stands (locality_at localities place) row company_in.0 none.0;
      is = sym (same _ filed open_company.2) ∙ sym none.1;
    }

-- ---- A row that stands

point_locality_is : (localities : List LocalityRow) (place : ℕ) (l : LocalityRow) → locality_at localities place ≡ Some l → (locality_stands (get_or localities place past_table) ≡ true) × (get_or localities place past_table ≡ l)
point_locality_is localities place l stood = standing_row (locality_stands (get_or localities place past_table)) (get_or localities place past_table) l stood

-- ---- Enrolling

-- the row of a point of which nothing is billed
abbrev pub unbilled : Enrolment → PointRow
unbilled e = record { locality = e.locality; class = e.class; domestic = e.domestic; volume = 0; days = 0 }

enrolled_row : (e : Enrolment) (row : PointRow) → enrolled_within e.locality e.class e.domestic ≡ Ok row → (row ≡ unbilled e) × (e.locality ≤ 255 → point_stands (unbilled e) ≡ true)
unfolding point_stands
enrolled_row e row granted =
    let of_class = when_granted (among 3 e.class) _ _ _ row granted in
    let of_use = when_granted (leb e.domestic 1) _ _ _ row of_class.1 in
    let class = and_parts (leb 1 e.class) (leb e.class 3) of_class.0 in (
      sym (same _ row of_use.1),
      λ near.
          and_from _ _ (and_from _ _ (and_from _ _ (and_from _ _ (and_from _ _ (le-leb e.locality 255 near) class.0) class.1) of_use.0) refl) refl,
    )

pub record Enrolled (companies : Companies) (localities : List LocalityRow) (points : List PointRow) (point : ℕ) (e : Enrolment) (row : PointRow) : Type 0 where
  pub within : point < length points
  pub blank : point_stands (get_or points point no_point) ≡ false
  pub in_table : e.locality < length localities
  pub point_locality_stands : locality_stands (get_or localities e.locality past_table) ≡ true
  pub active : Active companies (get_or localities e.locality past_table).company
  pub is : row ≡ unbilled e
  pub stands : point_stands (unbilled e) ≡ true

pub enrolling_granted : (companies : Companies) (localities : List LocalityRow) (points : List PointRow) (point : ℕ) (e : Enrolment) (row : PointRow) → enrolling companies localities points point e.locality e.class e.domestic ≡ Ok row → Enrolled companies localities points point e row
enrolling_granted companies localities points point e row granted =
    let fit = when_granted (tables_fit localities points) _ _ _ row granted in
    let point_in = when_granted (ltb point (length points)) _ _ _ row fit.1 in
    let locality_in = when_granted (ltb e.locality (length localities)) _ _ _ row point_in.1 in
    let locality = found_granted (locality_at localities e.locality) _ _ row locality_in.1 in
    let company = found_granted (company_at companies locality.0.company) _ _ row locality.2 in
    let free = when_granted (not (is_some (point_at points point))) _ _ _ row company.2 in
    let new = next_granted (enrolled_within e.locality e.class e.domestic) _ row free.1 in
    let open_company = next_granted (after_event company.0 locality.0.company Enrol) _ row new.2 in
    let found = get_or localities e.locality past_table in
    let found_is = point_locality_is localities e.locality locality.0 locality.1 in
    let point_locality : found.company ≡ locality.0.company = ap (λ (l : LocalityRow). l.company) found_is.1 in
    let row_is = enrolled_row e new.0 new.1 in
    let few = leb-true (length localities) 256 (and_parts (leb (length localities) 256) (leb (length points) 65536) fit.0).0 in
    let in_table = ltb-true e.locality (length localities) locality_in.0 in
    record {
      within = ltb-true _ _ point_in.0;
      in_table = in_table;
      point_locality_stands = found_is.0;
      blank = not_standing (point_stands (get_or points point no_point)) (get_or points point no_point) free.0;
      active = subst (Active companies) (sym point_locality) (active_at companies locality.0.company company.0 Enrol open_company.0 company.1 refl open_company.1);
      is = sym (same _ row open_company.2) ∙ row_is.0;
      stands = row_is.1 (omega arith);
    }

-- ---- A bill

-- the company of a point that is billed is open
pub billing_active : (t : TariffFigures) (companies : Companies) (localities : List LocalityRow) (points : List PointRow) (point : ℕ) (dv dd : ℤ) (c : Charged) → billing t companies localities points point dv dd ≡ Ok c → Active companies (point_locality localities (get_or points point no_point)).company
billing_active t companies localities points point dv dd c granted =
    let old = get_or points point no_point in
    let located = next_granted (point_to_bill companies localities points point) _ c granted in
    let fit = when_granted (tables_fit localities points) _ _ _ located.0 located.1 in
    let point_in = when_granted (ltb point (length points)) _ _ _ located.0 fit.1 in
    let p = found_granted (point_at points point) _ _ located.0 point_in.1 in
    let l = found_granted (locality_at localities p.0.locality) _ _ located.0 p.2 in
    let company = found_granted (company_at companies l.0.company) _ _ located.0 l.2 in
    let open_company = next_granted (after_event company.0 l.0.company BillEvent) _ located.0 company.2 in
    let row = (standing_row (point_stands old) old p.0 p.1).1 in
    let point_locality : (point_locality localities old).company ≡ l.0.company = ap (λ (q : PointRow). (point_locality localities q).company) row ∙ ap (λ (x : LocalityRow). x.company) (point_locality_is localities p.0.locality l.0 l.1).1 in
    subst (Active companies) (sym point_locality) (active_at companies l.0.company company.0 BillEvent open_company.0 company.1 refl open_company.1)
