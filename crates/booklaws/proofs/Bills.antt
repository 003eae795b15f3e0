-- What a granted bill says of its point's row, and of the locality in which the point was enrolled.
use Rattle.std.proofs.Common.{◌≡◌, ℕ, ◌<◌, ◌≤◌, Bool, true, false, cond, eqb, leb, ltb, List, length, get_or, ℤ, pos, negsuc, ◌+ℤ◌, ◌-ℤ◌, Some, None, Ok, Option, Result, refl, sym, ap, subst, ◌∙◌, arith}
use Rattle.std.proofs.lemmas.Bool.{ltb-true, leb-true}
use Rattle.units.specs.declared.refusal.Reason.{Reason}
use Rattle.units.specs.Refusals.{refused_at}
use Rattle.tariff.specs.declared.bill.Amounts.{Amounts}
use Rattle.tariff.specs.declared.bill.Bill.{Bill}
use Rattle.tariff.specs.declared.figures.TariffFigures.{TariffFigures}
use Rattle.tariff.specs.Bills.{up_to, amounts_at, charge_between, bill_between, bill_at}
use Rattle.tables.specs.declared.rows.LocalityRow.{LocalityRow}
use Rattle.tables.specs.declared.rows.PointRow.{PointRow}
use Rattle.tables.specs.Blank.{no_point, past_table}
use Rattle.tables.specs.Filings.{locality_stands}
use Rattle.tables.specs.Lookups.{locality_at, point_at}
use Rattle.tables.specs.PointRows.{point_stands, billed_row}
use Rattle.revenue.specs.Owners.{point_locality}
use Rattle.revenue.specs.Billed.{point_tariff}
use Rattle.revenue.specs.Ug1.{point_ug1}
use Rattle.revenue.specs.Gs.{point_gs}
use Rattle.company.specs.declared.record.Event.TheVariants.{Bill as BillEvent}
use Rattle.calls.specs.declared.billing.Charged.{Charged}
use Rattle.orders.specs.Registers.{Companies, company_at, after_event}
use Rattle.tables.specs.Lengths.{tables_fit}
use Rattle.calls.specs.Decisions.{point_to_bill, charged, billing}
use Rattle.units.proofs.Granted.{when_granted, found_granted, next_granted, at_granted, same}

-- ---- The amounts
kept : (fits : Bool) (m n : ℕ) → cond fits (Some m) None ≡ Some n → (fits ≡ true) × (m ≡ n)
kept true m n fit = (refl, cc)
kept false m n fit = cc

in_range : (limit : ℕ) (z : ℤ) (n : ℕ) → up_to limit z ≡ Some n → (n ≤ limit) × (pos n ≡ z)
in_range limit (pos m) n fit =
    let k = kept (leb m limit) m n fit in
    let low = leb-true m limit k.0 in
    (omega (arith, low, k.1), ap pos (sym k.1))
in_range limit (negsuc m) n fit = cc

-- a bill has the volume and the days that it leads to, and charges the gains of its amounts
pub record Between (before : Amounts) (amounts : ℕ → ℕ → Amounts) (v d : Option ℕ) (bill : Bill) : Type 0 where
  pub volume : v ≡ Some bill.volume
  pub days : d ≡ Some bill.days
  pub charge : bill.charge ≡ charge_between before (amounts bill.volume bill.days)

same_bill : (x y : Bill) → ◌≡◌ {A = Result Bill Reason} (Ok x) (Ok y) → x ≡ y
same_bill x y granted = cc

between : (before : Amounts) (amounts : ℕ → ℕ → Amounts) (v d : Option ℕ) (bill : Bill) → bill_between before amounts v d ≡ Ok bill → Between before amounts v d bill
between before amounts None d bill granted = cc
between before amounts (Some v) None bill granted = cc
between before amounts (Some v) (Some d) bill granted =
    subst (Between before amounts (Some v) (Some d)) (same_bill _ bill granted) (record { volume = refl; days = refl; charge = refl })

-- what the bill b makes of the row p in the locality l
pub record Charges (t : TariffFigures) (l : LocalityRow) (p : PointRow) (dv dd : ℤ) (b : Bill) : Type 0 where
  pub volume : pos b.volume ≡ pos p.volume +ℤ dv
  pub days : pos b.days ≡ pos p.days +ℤ dd
  pub volume_fits : b.volume ≤ 1000000000
  pub days_fit : b.days ≤ t.days
  pub tariff : b.charge.tariff.0 ≡ pos (point_tariff t l (billed_row p b)) -ℤ pos (point_tariff t l p)
  pub gs : b.charge.gs.0 ≡ pos (point_gs t (billed_row p b)) -ℤ pos (point_gs t p)
  pub ug1 : b.charge.ug1.0 ≡ pos (point_ug1 t (billed_row p b)) -ℤ pos (point_ug1 t p)

charges : (t : TariffFigures) (l : LocalityRow) (p : PointRow) (dv dd : ℤ) (b : Bill) → bill_at t l.area p.class (eqb p.domestic 1) p.volume p.days dv dd ≡ Ok b → Charges t l p dv dd b
charges t l p dv dd b granted =
    let amounts = amounts_at t l.area p.class (eqb p.domestic 1) in
    let parts = between (amounts p.volume p.days) amounts (up_to 1000000000 (pos p.volume +ℤ dv)) (up_to t.days (pos p.days +ℤ dd)) b granted in
    let volume = in_range 1000000000 (pos p.volume +ℤ dv) b.volume parts.volume in
    let days = in_range t.days (pos p.days +ℤ dd) b.days parts.days in
    record {
      volume = volume.1;
      days = days.1;
      volume_fits = volume.0;
      days_fit = days.0;
      tariff = ap (λ x. x.tariff.0) parts.charge;
      gs = ap (λ x. x.gs.0) parts.charge;
      ug1 = ap (λ x. x.ug1.0) parts.charge;
    }

charged_is : (t : TariffFigures) (p : PointRow) (l : LocalityRow) (point : ℕ) (dv dd : ℤ) (c : Charged) → charged t p l point dv dd ≡ Ok c → (c.company ≡ l.company) × Charges t l p dv dd c.bill
charged_is t p l point dv dd c granted =
    let answer = bill_at t l.area p.class (eqb p.domestic 1) p.volume p.days dv dd in
    let n = next_granted (refused_at point answer) _ c granted in
    let is = same _ c n.2 in
    (ap (λ (x : Charged). x.company) (sym is), subst (Charges t l p dv dd) (ap (λ (x : Charged). x.bill) is) (charges t l p dv dd n.0 (at_granted point answer n.0 n.1)))

-- ---- The row
pub standing_row : {R : Type 0} (stands : Bool) (row p : R) → cond stands (Some row) None ≡ Some p → (stands ≡ true) × (row ≡ p)
standing_row true row p stood = (refl, cc)
standing_row false row p stood = cc

pub record Seated (localities : List LocalityRow) (points : List PointRow) (point : ℕ) (p : PointRow) (l : LocalityRow) : Type 0 where
  pub within : point < length points
  pub stands : point_stands (get_or points point no_point) ≡ true
  pub row : get_or points point no_point ≡ p
  pub point_locality_stands : locality_stands (point_locality localities p) ≡ true
  pub point_locality : point_locality localities p ≡ l

point_locality_is : (companies : Companies) (localities : List LocalityRow) (points : List PointRow) (point : ℕ) (found : PointRow × LocalityRow) → point_to_bill companies localities points point ≡ Ok found → Seated localities points point found.0 found.1
point_locality_is companies localities points point found granted =
    let fit = when_granted (tables_fit localities points) _ _ _ found granted in
    let point_in = when_granted (ltb point (length points)) _ _ _ found fit.1 in
    let p = found_granted (point_at points point) _ _ found point_in.1 in
    let l = found_granted (locality_at localities p.0.locality) _ _ found p.2 in
    let company = found_granted (company_at companies l.0.company) _ _ found l.2 in
    let opened = next_granted (after_event company.0 l.0.company BillEvent) _ found company.2 in
    let row = standing_row (point_stands (get_or points point no_point)) (get_or points point no_point) p.0 p.1 in
    let located = standing_row (locality_stands (get_or localities p.0.locality past_table)) (get_or localities p.0.locality past_table) l.0 l.1 in
    let is = same _ found opened.2 in
    let point_is : p.0 ≡ found.0 = ap (λ (x : PointRow × LocalityRow). x.0) is in
    let locality_is : l.0 ≡ found.1 = ap (λ (x : PointRow × LocalityRow). x.1) is in
    record {
      within = ltb-true _ _ point_in.0;
      stands = row.0;
      row = row.1 ∙ point_is;
      point_locality_stands = ap (λ (q : PointRow). locality_stands (point_locality localities q)) (sym point_is) ∙ located.0;
      point_locality = ap (point_locality localities) (sym point_is) ∙ located.1 ∙ locality_is;
    }

-- the point stands in the table, its locality stands, and the bill charges its row and names that locality's company
pub record GrantedBill (t : TariffFigures) (localities : List LocalityRow) (points : List PointRow) (point : ℕ) (dv dd : ℤ) (c : Charged) : Type 0 where
  pub within : point < length points
  pub stands : point_stands (get_or points point no_point) ≡ true
  pub point_locality_stands : locality_stands (point_locality localities (get_or points point no_point)) ≡ true
  pub company : c.company ≡ (point_locality localities (get_or points point no_point)).company
  pub charges : Charges t (point_locality localities (get_or points point no_point)) (get_or points point no_point) dv dd c.bill

pub bill_granted : (t : TariffFigures) (companies : Companies) (localities : List LocalityRow) (points : List PointRow) (point : ℕ) (dv dd : ℤ) (c : Charged) → billing t companies localities points point dv dd ≡ Ok c → GrantedBill t localities points point dv dd c
bill_granted t companies localities points point dv dd c granted =
    let located = next_granted (point_to_bill companies localities points point) _ c granted in
    let s = point_locality_is companies localities points point located.0 located.1 in
    let charged = charged_is t located.0.0 located.0.1 point dv dd c located.2 in
    let point_locality_row : point_locality localities (get_or points point no_point) ≡ located.0.1 = ap (point_locality localities) s.row ∙ s.point_locality in
    record {
      within = s.within;
      stands = s.stands;
      point_locality_stands = ap (λ (p : PointRow). locality_stands (point_locality localities p)) s.row ∙ s.point_locality_stands;
      company = charged.0 ∙ ap (λ (l : LocalityRow). l.company) (sym point_locality_row);
      charges = subst (λ (p : PointRow). Charges t (point_locality localities (get_or points point no_point)) p dv dd c.bill) (sym s.row) (subst (λ (l : LocalityRow). Charges t l located.0.0 dv dd c.bill) (sym point_locality_row) charged.1);
    }
