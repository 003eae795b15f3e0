-- The calls that append nothing and leave the account.
use Rattle.std.proofs.Common.{◌≡◌, ℕ, ◌*◌, ◌<◌, Bool, true, false, not, cond, ltb, List, length, get_or, pos, ◌+ℤ◌, is_some, Some, None, Ok, Err, Option, Result, refl, sym, ap, ◌∙◌, ⊎_elim, set, arith}
use Rattle.std.proofs.lemmas.Bool.{cond-false, cases_lt, ltb-true}
use Rattle.std.proofs.lemmas.List.{set_past}
use borrow.Author.Differences.{ints}
use Rattle.units.specs.declared.refusal.Refusal.{Refusal}
use Rattle.rounding.specs.Sums.{sum_z}
use Rattle.rounding.proofs.SumLaws.{sum_z_set}
use Rattle.rounding.proofs.HalfLaw.{rounded_at_most_whole}
use Rattle.tariff.specs.declared.figures.TariffFigures.{TariffFigures}
use Rattle.tables.specs.declared.rows.LocalityRow.{LocalityRow}
use Rattle.tables.specs.declared.rows.PointRow.{PointRow}
use Rattle.tables.specs.Blank.{no_point}
use Rattle.tables.specs.Lookups.{locality_at, point_at}
use Rattle.tables.specs.PointRows.{point_stands}
use Rattle.revenue.specs.Ug1.{point_ug1, ug1_due}
use Rattle.revenue.proofs.Replacing.{ug1_set}
use Rattle.company.specs.declared.figures.TermsFigures.{TermsFigures}
use Rattle.company.specs.declared.record.Company.{Company}
use Rattle.company.specs.declared.record.Event.{Event}
use Rattle.company.specs.declared.record.Event.TheVariants.{Enrol, Draw, Cancel, Send, Bounce, Reopen}
use Rattle.company.specs.declared.terms.Terms.{Terms}
use Rattle.company.specs.Events.{new_company, company_after, paid_after}
use Rattle.company.specs.Instalments.{paid_up_to}
use Rattle.company.proofs.Instalments.{none_paid}
use Rattle.calls.specs.declared.enrolling.Enrolment.{Enrolment}
use Rattle.orders.specs.Registers.{Companies, company_at, after_event, registering}
use Rattle.tables.specs.Lengths.{tables_fit}
use Rattle.calls.specs.Decisions.{enrolled_within, enrolling as enrolling_in}
use Rattle.opened.specs.declared.record.Opened.{Opened}
use Rattle.booklaws.specs.States.{BookState, when_open, altered, put}
use Rattle.booklaws.specs.Companies.{register_answer, book_with_terms, number_of, decided, draw_decision, cancel_decision, send_decision, bounce_decision, book_after_event}
use Rattle.booklaws.specs.Closings.{reopen_decision}
use Rattle.booklaws.specs.Rows.{enrolling}
use Rattle.booklaws.specs.Tables.{written}
use Rattle.opened.specs.Figures.{paid_out}
use Rattle.booklaws.specs.Laws.{account_in, Quiet, QuietLaws}
use Rattle.units.proofs.Granted.{when_granted, found_granted, both_granted, same}
use Rattle.booklaws.proofs.Events.{event_granted, account_put}

-- a refused call alters nothing of what is on record
unaltered : (opened : Option Opened) → altered opened (λ r. r) ≡ opened
unaltered None = refl
unaltered (Some o) = refl

-- ---- An event of a company, after which as many instalments are paid as before
module _ (e : Event) (paid_stays : (paid k : ℕ) → paid_after paid e k ≡ paid) where
  paid_out_stays : (c : Company) (k : ℕ) → paid_out (Some (company_after c e (Ok k))) ≡ paid_out (Some c)
  paid_out_stays c k =
      ap (λ (n : ℕ). paid_up_to c.terms.figures.advance c.terms.figures.instalments n +ℤ c.balances) (paid_stays c.paid k)

  event_quiet : (b : BookState) (points : List PointRow) (number place : ℕ) (answer : Result (Company × ℕ) Refusal) → decided b number place e ≡ answer → Quiet b (book_after_event b place answer) points points
  event_quiet b points number place (Ok d) granted =
      let g = event_granted b.opened number place e d granted in
      let account = account_put b.opened place g.c d.0 points g.stood in
      let same : paid_out (Some d.0) ≡ paid_out (Some g.c) = ap (λ (c : Company). paid_out (Some c)) g.after ∙ paid_out_stays g.c d.1 in
      record { entries = refl; account = omega (arith, ints, account, same) }
  event_quiet b points number place (Err refused) answered = record { entries = refl; account = ap (λ (o : Option Opened). account_in o points) (unaltered b.opened) }

-- ---- A new company
pub none_there : {A : Type 0} (there : Option A) → not (is_some there) ≡ true → there ≡ None
none_there None none = refl
none_there (Some a) none = cc

nothing_paid : (terms : Terms) → paid_out (Some (new_company terms)) ≡ pos 0
nothing_paid terms = let none = none_paid terms.figures.advance terms.figures.instalments in omega (arith, ints)

-- a company that is paid nothing, put where none stood
sum_stays : (companies : Companies) (place : ℕ) (new : Company) → company_at companies place ≡ None → paid_out (Some new) ≡ pos 0 → sum_z paid_out (set companies place (Some new)) ≡ sum_z paid_out companies
sum_stays companies place new none nothing =
    ⊎_elim
    (λ within.
    let replaced = sum_z_set paid_out companies place (Some new) None within in
    let old = ap paid_out none in
    omega (arith, ints, replaced, old, nothing))
    (λ past. ap (sum_z paid_out) (set_past companies place (Some new) past))
    (cases_lt place (length companies))

registering_account : (opened : Option Opened) (points : List PointRow) (place : ℕ) (figures : TermsFigures) (terms : Terms) → when_open opened (λ o. registering o.register.companies place figures) ≡ Ok terms → account_in (put opened place (new_company terms)) points ≡ account_in opened points
registering_account None points place figures terms granted = cc
registering_account (Some o) points place figures terms granted =
    let in_table = when_granted (ltb place 16) _ _ _ terms granted in
    let free = when_granted (not (is_some (company_at o.register.companies place))) _ _ _ terms in_table.1 in
    let stays = sum_stays o.register.companies place (new_company terms) (none_there (company_at o.register.companies place) free.0) (nothing_paid terms) in
    omega (arith, ints, stays)

registering_quiet : (b : BookState) (points : List PointRow) (place : ℕ) (figures : TermsFigures) (answer : Result Terms Refusal) → register_answer b place figures ≡ answer → Quiet b (book_with_terms b place answer) points points
registering_quiet b points place figures (Ok terms) granted =
    record { entries = refl; account = registering_account b.opened points place figures terms granted }
registering_quiet b points place figures (Err refused) answered = record { entries = refl; account = ap (λ (o : Option Opened). account_in o points) (unaltered b.opened) }

-- ---- A new point
pub not_standing : (stands : Bool) (row : PointRow) → not (is_some (cond stands (Some row) None)) ≡ true → stands ≡ false
not_standing true row none = cc
not_standing false row none = refl

pub nothing_billed : (t : TariffFigures) (row : PointRow) → row.volume ≡ 0 → point_ug1 t row ≡ 0
nothing_billed t row none =
    let least = rounded_at_most_whole (t.ug1.0 * row.volume) 1000000 in
    let nothing : t.ug1.0 * row.volume ≡ 0 = ap (λ (v : ℕ). t.ug1.0 * v) none ∙ omega arith in
    omega arith

pub cond_nothing : (stands : Bool) (amount : ℕ) → amount ≡ 0 → cond stands amount 0 ≡ 0
cond_nothing true amount nothing = nothing
cond_nothing false amount nothing = refl

ug1_stays : (t : TariffFigures) (points : List PointRow) (point : ℕ) (row : PointRow) → point < length points → point_stands (get_or points point no_point) ≡ false → row.volume ≡ 0 → ug1_due t (set points point row) ≡ ug1_due t points
ug1_stays t points point row within none nothing =
    let replaced = ug1_set t points point row no_point within in
    let old = cond-false (point_stands (get_or points point no_point)) (point_ug1 t (get_or points point no_point)) 0 none in
    let new = cond_nothing (point_stands row) (point_ug1 t row) (nothing_billed t row nothing) in
    omega arith

unbilled : (locality class domestic : ℕ) (row : PointRow) → enrolled_within locality class domestic ≡ Ok row → row.volume ≡ 0
unbilled locality class domestic row granted =
    let of_class = when_granted _ _ _ _ row granted in
    let of_use = when_granted _ _ _ _ row of_class.1 in
    sym (ap (λ (p : PointRow). p.volume) (same _ row of_use.1))

enrolling_account : (opened : Option Opened) (localities : List LocalityRow) (points : List PointRow) (point : ℕ) (e : Enrolment) (row : PointRow) → when_open opened (λ o. enrolling_in o.register.companies localities points point e.locality e.class e.domestic) ≡ Ok row → account_in opened (set points point row) ≡ account_in opened points
enrolling_account None localities points point e row granted = cc
enrolling_account (Some o) localities points point e row granted =
    let fit = when_granted (tables_fit localities points) _ _ _ row granted in
    let point_in = when_granted (ltb point (length points)) _ _ _ row fit.1 in
    let locality_in = when_granted (ltb e.locality (length localities)) _ _ _ row point_in.1 in
    let locality = found_granted (locality_at localities e.locality) _ _ row locality_in.1 in
    let company = found_granted (company_at o.register.companies locality.0.company) _ _ row locality.2 in
    let free = when_granted (not (is_some (point_at points point))) _ _ _ row company.2 in
    let new = both_granted (enrolled_within e.locality e.class e.domestic) (after_event company.0 locality.0.company Enrol) row free.1 in
    let nothing = unbilled e.locality e.class e.domestic row new in
    let none = not_standing (point_stands (get_or points point no_point)) (get_or points point no_point) free.0 in
    let stays = ug1_stays o.tariff.figures points point row (ltb-true _ _ point_in.0) none nothing in
    omega (arith, ints)

enrolling_quiet : (b : BookState) (localities : List LocalityRow) (points : List PointRow) (point : ℕ) (e : Enrolment) (answer : Result PointRow Refusal) → enrolling b localities points point e ≡ answer → Quiet b b points (written (λ p. p) points point answer)
enrolling_quiet b localities points point e (Ok row) granted =
    record { entries = refl; account = enrolling_account b.opened localities points point e row granted }
enrolling_quiet b localities points point e (Err refused) answered = record { entries = refl; account = refl }

pub quiet_laws : QuietLaws
quiet_laws =
    record {
      registering = λ filings s place figures. registering_quiet s.book s.points place figures (register_answer s.book place figures) refl;
      filing = λ filings s locality i. record { entries = refl; account = refl };
      enrolling = λ filings s point e. enrolling_quiet s.book s.localities s.points point e (enrolling s.book s.localities s.points point e) refl;
      drawing = λ filings s place. event_quiet Draw (λ paid k. refl) s.book s.points (number_of s.book.opened) place (draw_decision s.book place) refl;
      cancelling = λ filings s o. event_quiet (Cancel o.instalment) (λ paid k. refl) s.book s.points o.book o.company (cancel_decision s.book o) refl;
      sending = λ filings s o. event_quiet (Send o.instalment) (λ paid k. refl) s.book s.points o.book o.company (send_decision s.book o) refl;
      bouncing = λ filings s o. event_quiet (Bounce o.instalment) (λ paid k. refl) s.book s.points o.book o.company (bounce_decision s.book o) refl;
      reopening = λ filings s place. event_quiet Reopen (λ paid k. refl) s.book s.points (number_of s.book.opened) place (reopen_decision s.book place) refl;
      asking = λ filings s q. record { entries = refl; account = refl };
      asked = λ filings s q. refl;
    }
