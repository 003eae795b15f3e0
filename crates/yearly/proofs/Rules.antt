-- The rules of a year, from what ties the book, its journal and its history.
use Rattle.std.proofs.Common.{leb, length, Ok, ◌≡◌, ◌≢◌, ℕ, ◌≤◌, true, List, get_or, ℤ, pos, ◌+ℤ◌, ◌-ℤ◌, Some, None, Option, refl, sym, ap, subst, ◌∙◌, arith}
use Rattle.std.proofs.lemmas.Bool.{false≢true, cond-true}
use Rattle.std.proofs.lemmas.List.FromFn.{fill_by_all}
use borrow.Author.Differences.{ints}
use Rattle.units.specs.declared.amounts.Cents.{Cents}
use Rattle.rounding.specs.Nearness.{Near}
use Rattle.rounding.proofs.Nears.{near_sub}
use Rattle.tables.specs.declared.rows.LocalityRow.{LocalityRow}
use Rattle.tables.specs.declared.rows.PointRow.{PointRow}
use Rattle.tables.specs.Blank.{no_locality, no_point}
use Rattle.tables.specs.PointRows.{point_stands}
use Rattle.revenue.specs.Billed.{billed as billed_in}
use Rattle.revenue.specs.Recognised.{recognised_revenue}
use Rattle.revenue.specs.Gs.{gs_due}
use Rattle.revenue.specs.Ug1.{ug1_due}
use Rattle.revenue.proofs.Nearing.{near_revenue, near_billed}
use Rattle.company.specs.declared.figures.TermsFigures.{TermsFigures}
use Rattle.company.specs.declared.record.Company.{Company}
use Rattle.company.specs.declared.record.Phase.{Phase}
use Rattle.company.specs.declared.record.Phase.TheVariants.{Free, Drawn, Sent, Closed}
use Rattle.booklaws.specs.Calls.{State}
use Rattle.booklaws.specs.JournalSums.{paid_to, payments}
use Rattle.booklaws.specs.Questions.{account}
use Rattle.orders.specs.Laws.{outs}
use Rattle.booklaws.specs.Laws.{account_in}
use Rattle.yearly.specs.Histories.{History, terms_of, closed_in}
use Rattle.yearly.specs.YearRules.{Year, locality, localities, point, points, price_of, billed, exact_tariff, recognised, exact_revenue, exact_rest, rounded_figures, ClosingRule, AccountRule, instalments, AdvanceRule, ChargedRule, StandingRule, Stranger, YearRules}
use Rattle.yearly.proofs.Stories.{is_closed, Held}
use Rattle.yearly.proofs.Ties.{Fixed, Moving, story, Settled, state_at, Tied, Stands}
use Rattle.yearly.proofs.Booked.{Booked, BookedIn, not_none}

phase_closed : (p : Phase) → is_closed p ≡ true → p ≡ Closed
phase_closed Free closed = absurd (false≢true closed)
phase_closed (Drawn k) closed = absurd (false≢true closed)
phase_closed (Sent k) closed = absurd (false≢true closed)
phase_closed Closed closed = refl

one_out : (p : Phase) → outs p ≤ 1
one_out Free = omega arith
one_out (Drawn k) = omega arith
one_out (Sent k) = omega arith
one_out Closed = omega arith

abbrev pub year_at : Fixed → History → State → Year
year_at y h s =
    record {
      tariff = y.tariff.figures;
      sum = y.sum;
      price = y.price;
      point_places = y.point_places;
      locality_places = y.locality_places;
      filings = y.filings;
      history = h;
      journal = s.book.entries;
    }

module _ (y : Fixed) (h : History) (m : Moving) (T : Tied y h m) (B : Booked y h m.entries m.localities m.points) where
  abbrev year : Year
  year = year_at y h (state_at y m)

  -- the tables by history and journal are the lent ones
  points_are : m.points ≡ points year
  points_are = fill_by_all (point year) m.points y.point_places no_point T.point_places (λ k within. (T.points k).is)

  localities_are : m.localities ≡ localities year
  localities_are = fill_by_all (locality year) m.localities y.locality_places no_locality T.locality_places (λ k within. T.localities k)

  -- ---- What was charged

  charged : ChargedRule year
  charged =
      let t = y.tariff.figures in
      record {
        lines = λ company. B.adds.lines company ∙ (λ z. pos (billed_in t (localities_are z) (points_are z) company));
        ug1 = B.adds.ug1 ∙ (λ z. pos (ug1_due t (points_are z)));
        gs = B.adds.gs ∙ (λ z. pos (gs_due t (points_are z)));
      }

  -- ---- The closing rule

  abbrev ToTheCent : (company : ℕ) (f : TermsFigures) → List LocalityRow → List PointRow → Type 0
  ToTheCent company f ls ps = pos (billed_in y.tariff.figures ls ps company) +ℤ paid_to m.entries company ≡ pos (recognised_revenue y.tariff.figures (price_of year f) f.verification f.central ls ps company)

  close_decision : (company : ℕ) (f : TermsFigures) → ToTheCent company f (localities year) (points year) → ClosingRule year company f
  close_decision company f cents =
      let t = y.tariff.figures in
      let ls = localities year in
      let ps = points year in
      let near =
      near_sub (exact_revenue year company f) (exact_tariff year company) (pos (recognised year company f)) (pos (billed year company)) _ _
      (near_revenue t (price_of year f) f.verification f.central ls ps company) (near_billed t ls ps company) in
      let paid : pos (recognised year company f) -ℤ pos (billed year company) ≡ paid_to m.entries company = omega (arith, ints, cents) in
      let lines = charged.lines company in
      record {
        cents = cents;
        entries = omega (arith, ints, cents, lines);
        exact = subst (λ (z : ℤ). Near (exact_rest year company f) z (rounded_figures year company)) paid near;
      }

  closing_at : (company : ℕ) (slot : Option Company) → Held slot (story h m.entries company) → Settled y m.localities m.points company slot → (f : TermsFigures) → terms_of h company ≡ Some f → closed_in h company ≡ true → ClosingRule year company f
  closing_at company None held settled f registered closed = absurd (false≢true (sym held.closed ∙ closed))
  closing_at company (Some c) held settled f registered closed =
      let same : c.terms.figures ≡ f = cc in
      let balances = settled (phase_closed c.phase (sym held.closed ∙ closed)) in
      let lent : ToTheCent company c.terms.figures m.localities m.points = omega (arith, ints, held.paid, balances) in
      close_decision company f
      (subst (λ (ps : List PointRow). ToTheCent company f (localities year) ps) points_are
      (subst (λ (ls : List LocalityRow). ToTheCent company f ls m.points) localities_are
      (subst (λ (g : TermsFigures). ToTheCent company g m.localities m.points) same lent)))

  -- ---- The account rule

  account_rule : AccountRule year (account_in (state_at y m).book.opened m.points)
  account_rule =
      let t = y.tariff.figures in
      let points : account_in (state_at y m).book.opened m.points ≡ y.sum +ℤ pos (ug1_due t (points year)) -ℤ payments m.entries =
      λ z. y.sum +ℤ pos (ug1_due t (points_are z)) -ℤ T.spent z in
      record { points = points; entries = omega (arith, ints, points, charged.ug1) }

  -- ---- The advance rule

  advance_at : (company : ℕ) (slot : Option Company) → Held slot (story h m.entries company) → (f : TermsFigures) → terms_of h company ≡ Some f → AdvanceRule year company f
  advance_at company None held f registered = cc
  advance_at company (Some c) held f registered =
      let same : c.terms.figures ≡ f = cc in
      let one = one_out c.phase in
      record {
        advances = held.advances ∙ (λ z. instalments (same z) (sym held.confirmed z));
        within =
            let instalments = ap (λ (g : TermsFigures). g.instalments) same in
            omega (arith, held.confirmed, held.within, instalments);
        out = omega (arith, held.out);
        one = omega (arith, held.out, one);
        closed = λ closed.
            let none = ap outs (phase_closed c.phase (sym held.closed ∙ closed)) in
            omega (arith, held.out, none);
      }

  -- ---- Nothing is passed over

  standing : StandingRule year
  standing =
      record {
        points = λ place e is.
            let s = B.standing.points place e is in
            record { within = s.within; stands = ap point_stands (sym (T.points place).is) ∙ s.stands; filed = s.filed };
        localities = λ place row is.
            let f = B.standing.localities place row is in
            record { within = f.within; stands = f.stands; owned = f.owned };
      }

  -- ---- A company that did not register

  not_closed : (company : ℕ) (slot : Option Company) → Held slot (story h m.entries company) → terms_of h company ≡ None → closed_in h company ≢ true
  not_closed company None held none = λ closed. false≢true (sym held.closed ∙ closed)
  not_closed company (Some c) held none = cc

  stranger : (company : ℕ) (slot : Option Company) → Held slot (story h m.entries company) → terms_of h company ≡ None → Stranger year company
  stranger company None held none =
      record {
        advances = held.advances;
        drawn = held.drawn;
        taken_back = held.taken_back;
        entries = B.tells.companies company none;
        localities = λ place row is its.
            not_none (terms_of h row.company) (B.standing.localities place row is).owned (ap (terms_of h) its ∙ none);
      }
  stranger company (Some c) held none = cc

  rules : YearRules year (account_in (state_at y m).book.opened m.points)
  rules =
      record {
        close_decision = λ company f. closing_at company (get_or m.companies company None) (T.companies company) (T.settled company) f;
        registered = λ company. not_closed company (get_or m.companies company None) (T.companies company);
        account = account_rule;
        advance = λ company f. advance_at company (get_or m.companies company None) (T.companies company) f;
        entries = B.tells.entries;
        charged = charged;
        standing = standing;
        strangers = record { companies = λ company. stranger company (get_or m.companies company None) (T.companies company); points = B.tells.points };
        sound = λ place.
            let tied = T.points place in
            (ap (λ (p : PointRow). pos p.volume) (sym tied.is) ∙ tied.volume, ap (λ (p : PointRow). pos p.days) (sym tied.is) ∙ tied.days);
      }

  -- the account that the book tells
  account_told : leb y.point_places 65536 ≡ true → account (state_at y m).book m.points ≡ Ok (record { 0 = account_in (state_at y m).book.opened m.points })
  account_told few = cond-true (leb (length m.points) 65536) _ _ (ap (λ (n : ℕ). leb n 65536) T.point_places ∙ few)

-- the rules hold in a state that is tied to a history
abbrev pub Ordered : Fixed → History → State → Type 0
Ordered y h s = (told : Cents) × (account s.book s.points ≡ Ok told) × YearRules (year_at y h s) told.0

pub rules_stand : (y : Fixed) (h : History) (s : State) → leb y.point_places 65536 ≡ true → Stands y h s → BookedIn y h s → Ordered y h s
rules_stand y h s few stands booked =
    let m = stands.m in
    let b : BookedIn y h (state_at y m) = subst (BookedIn y h) stands.is booked in
    let ordered : Ordered y h (state_at y m) = (record { 0 = account_in (state_at y m).book.opened m.points }, account_told y h m stands.tied b few, rules y h m stands.tied b) in
    subst (Ordered y h) (sym stands.is) ordered
