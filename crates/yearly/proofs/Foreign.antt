-- A closed company's settlement under the calls on other companies' rows.
use Rattle.std.proofs.Common.{◌≡◌, ℕ, true, false, eqb, List, get_or, pos, ◌-ℤ◌, Some, None, Ok, Option, refl, sym, ap, ◌∙◌, ⊎_elim}
use Rattle.std.proofs.lemmas.Bool.{cases_Bool, and_left, and_right, ne_eqb}
use Rattle.tariff.specs.declared.figures.TariffFigures.{TariffFigures}
use Rattle.tables.specs.declared.rows.LocalityRow.{LocalityRow}
use Rattle.tables.specs.declared.rows.PointRow.{PointRow}
use Rattle.tables.specs.declared.state.State.{State}
use Rattle.tables.specs.declared.state.State.TheVariants.{Regime, StartUp}
use Rattle.tables.specs.Filings.{locality_stands}
use Rattle.tables.specs.PointRows.{point_stands}
use Rattle.revenue.specs.Owners.{owns, point_locality, serves}
use Rattle.revenue.specs.Billed.{billed}
use Rattle.revenue.specs.Served.{commercial_cents, served_for}
use Rattle.revenue.specs.Recognised.{locality_figures, parts_at, total, recognised}
use Rattle.company.specs.declared.record.Company.{Company}
use Rattle.company.specs.declared.record.Event.{Event}
use Rattle.company.specs.declared.record.Phase.{Phase}
use Rattle.company.specs.declared.record.Phase.TheVariants.{Free, Drawn, Sent, Closed}
use Rattle.company.specs.Events.{while_open, act_answer, advances}
use Rattle.orders.specs.Registers.{Companies, after_event}
use Rattle.units.specs.Refusals.{refused_at}
use Rattle.opened.specs.Figures.{settlement, price_for}
use Rattle.units.proofs.Granted.{next_granted, at_granted}
use Rattle.yearly.proofs.Ties.{Fixed, Settled}

-- ---- A company that is open

pub record Active (companies : Companies) (place : ℕ) : Type 0 where
  pub company : Company
  pub stood : get_or companies place None ≡ Some company
  pub active : company.phase ≡ Closed → ⊥

still_open : (p : Phase) (k : ℕ) → while_open p (Ok 0) ≡ Ok k → p ≡ Closed → ⊥
still_open Free k granted closed = cc
still_open (Drawn j) k granted closed = cc
still_open (Sent j) k granted closed = cc
still_open Closed k granted closed = cc

-- an event that a closed company refuses was granted
pub active_at : (companies : Companies) (place : ℕ) (c : Company) (e : Event) (d : Company × ℕ) → get_or companies place None ≡ Some c → act_answer c e ≡ while_open c.phase (Ok 0) → after_event c place e ≡ Ok d → Active companies place
active_at companies place c e d stood refuses granted =
    let k = next_granted (refused_at place (act_answer c e)) _ d granted in
    record { company = c; stood = stood; active = still_open c.phase k.0 (sym refuses ∙ at_granted place (act_answer c e) k.0 k.1) }

-- it is not one that is closed
pub another : (companies : Companies) (place : ℕ) → Active companies place → (i : ℕ) (c : Company) → get_or companies i None ≡ Some c → c.phase ≡ Closed → place ≡ i → ⊥
another companies place a i c stood closed here =
    let same : a.company ≡ c = cc in
    a.active (ap (λ (x : Company). x.phase) same ∙ closed)

-- ---- Rows of another company

pub owns_not : (l : LocalityRow) (company : ℕ) → (locality_stands l ≡ true → l.company ≡ company → ⊥) → owns company l ≡ false
owns_not l company other =
    ⊎_elim
    (λ (stands : locality_stands l ≡ true). and_right (locality_stands l) (eqb l.company company) (ne_eqb l.company company (other stands)))
    (λ (blank : locality_stands l ≡ false). and_left (locality_stands l) (eqb l.company company) blank)
    (cases_Bool (locality_stands l))

pub serves_not : (ls : List LocalityRow) (p : PointRow) (company : ℕ) → owns company (point_locality ls p) ≡ false → serves ls company p ≡ false
serves_not ls p company foreign = and_right (point_stands p) (owns company (point_locality ls p)) foreign

-- ---- What a settlement is made of

pub record SameSums (t : TariffFigures) (ls ls' : List LocalityRow) (ps ps' : List PointRow) (company : ℕ) : Type 0 where
  pub localities : locality_figures t ls' company ≡ locality_figures t ls company
  pub commercial : (state : State) → commercial_cents t ls' ps' company state ≡ commercial_cents t ls ps company state
  pub points : billed t ls' ps' company ≡ billed t ls ps company

settlement_same : (t : TariffFigures) (price : ℕ) (ls ls' : List LocalityRow) (ps ps' : List PointRow) (company : ℕ) (c : Company) → SameSums t ls ls' ps ps' company → settlement t price ls' ps' company c ≡ settlement t price ls ps company c
unfolding recognised
settlement_same t price ls ls' ps ps' company c same =
    λ z. pos (total (parts_at t price c.terms.figures.verification c.terms.figures.central (same.localities z) (served_for t (same.commercial Regime z)) (served_for t (same.commercial StartUp z)))) -ℤ pos (same.points z) -ℤ advances c

pub settled_same : (y : Fixed) (ls ls' : List LocalityRow) (ps ps' : List PointRow) (company : ℕ) (slot : Option Company) → ((c : Company) → slot ≡ Some c → c.phase ≡ Closed → SameSums y.tariff.figures ls ls' ps ps' company) → Settled y ls ps company slot → Settled y ls' ps' company slot
settled_same y ls ls' ps ps' company None same settled = tt
settled_same y ls ls' ps ps' company (Some c) same settled = λ closed.
    settled closed ∙ sym (settlement_same y.tariff.figures (price_for y.price c) ls ls' ps ps' company c (same c refl closed))
