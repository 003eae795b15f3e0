-- The calls that move a company's record and book nothing keep the tie.
use Rattle.std.proofs.Common.{◌≡◌, ℕ, ◌+◌, Bool, true, false, not, cond, eqb, ltb, ◌∷◌, set, is_some, Some, None, Ok, Err, Option, Result, refl, sym, ap, subst, arith}
use Rattle.std.proofs.lemmas.Bool.{ltb-true}
use borrow.Author.Differences.{ints}
use Rattle.units.specs.declared.refusal.Refusal.{Refusal}
use Rattle.company.specs.declared.figures.TermsFigures.{TermsFigures}
use Rattle.company.specs.declared.record.Company.{Company}
use Rattle.company.specs.declared.record.Event.{Event}
use Rattle.company.specs.declared.record.Event.TheVariants as event
use Rattle.company.specs.declared.record.Phase.TheVariants.{Closed}
use Rattle.company.specs.declared.terms.Terms.{Terms}
use Rattle.company.specs.Events.{company_after, new_company}
use Rattle.company.specs.Terms.{first_bad_term}
use Rattle.company.specs.Made.{terms_if, terms_of as terms_made}
use Rattle.company.proofs.Instalments.{none_paid}
use Rattle.calls.specs.declared.call.Call.TheVariants.{Register, Draw, Cancel, Send, Bounce, Reopen}
use Rattle.orders.specs.declared.order.Order.{Order}
use Rattle.orders.specs.Registers.{company_at}
use Rattle.booklaws.specs.declared.answer.Granted.TheVariants as granted
use Rattle.booklaws.specs.States.{BookState, with_company}
use Rattle.booklaws.specs.Companies.{register_answer, book_with_terms, decided, book_after_event}
use Rattle.booklaws.specs.Calls.{State, grants, drawn_answer}
use Rattle.opened.specs.Figures.{paid_out}
use Rattle.units.proofs.Granted.{when_granted, same, within}
use Rattle.orders.proofs.Events.{GrantedEvent}
use Rattle.booklaws.specs.Laws.{company_in}
use Rattle.booklaws.proofs.Events.{event_granted}
use Rattle.booklaws.proofs.QuietLaws.{none_there}
use Rattle.yearly.specs.Histories.{Told, History, terms_of, filing_of, enrolment_of, or_else, latest, is_true, closes, drawn, taken_back}
use Rattle.yearly.proofs.Stories.{Story, HeldBy, registered_held, draw_held, cancel_held, send_held, bounce_held, reopen_held}
use Rattle.yearly.proofs.Ties.{Fixed, Moving, book_at, story, Tied, Stands, kept, replaced}

-- terms that are made have the figures that were asked
made_if : (f : TermsFigures) (bad : Option ℕ) (e : first_bad_term f ≡ bad) (terms : Terms) → terms_if f bad e ≡ Ok terms → terms.figures ≡ f
made_if f (Some n) e terms granted = cc
made_if f None e terms granted = ap (λ (t : Terms). t.figures) (sym (same _ terms granted))

made_figures : (f : TermsFigures) (terms : Terms) → terms_made f ≡ Ok terms → terms.figures ≡ f
made_figures f terms granted = made_if f (first_bad_term f) refl terms granted

module _ (y : Fixed) (h : History) (m : Moving) (T : Tied y h m) where
  abbrev book : BookState
  book = book_at y m.companies m.entries

  abbrev with_book : BookState → State
  with_book b = record { book = b; localities = m.localities; points = m.points }

  -- an event that pays nothing, and leaves the company open
  event_step : (x : Told) (place : ℕ) (e : Event) (d : Company × ℕ) (g : GrantedEvent (company_in book.opened place) e d) (F : Bool → ℕ → Story) → ((i : ℕ) → story (x ∷ h) m.entries i ≡ F (eqb place i) i) → ((i : ℕ) → F false i ≡ story h m.entries i) → (HeldBy g.c (story h m.entries place) → HeldBy (company_after g.c e (Ok d.1)) (F true place)) → ((company_after g.c e (Ok d.1)).phase ≡ Closed → ⊥) → paid_out (Some (company_after g.c e (Ok d.1))) ≡ paid_out (Some g.c) → ((i : ℕ) → filing_of y.filings (x ∷ h) i ≡ filing_of y.filings h i) → ((i : ℕ) → enrolment_of (x ∷ h) i ≡ enrolment_of h i) → Stands y (x ∷ h) (with_book (with_company book place d.0))
  event_step x place e d g F after others moves open_after pays filed enrolled =
      subst (λ (c : Company). Stands y (x ∷ h) (with_book (with_company book place c))) (sym g.after)
      (record {
        m = record { companies = set m.companies place (Some (company_after g.c e (Ok d.1))); entries = m.entries; localities = m.localities; points = m.points };
        is = refl;
        tied =
            replaced y h m T x place (Some g.c) (company_after g.c e (Ok d.1)) m.entries g.stood (within m.companies place g.c g.stood) F
            after others moves (λ closed. absurd (open_after closed)) (omega (arith, ints, pays)) (λ i. refl) (λ i. refl) filed enrolled;
      })

  refused_step : (x : Told) → Tied y (x ∷ h) m → Stands y (x ∷ h) (with_book book)
  refused_step x tied = record { m = m; is = refl; tied = tied }

  pub draw_step : (company : ℕ) (r : Result (Company × ℕ) Refusal) → decided book y.number company event.Draw ≡ r → Stands y ((Draw company, grants r (λ d. drawn_answer y.number company d.1)) ∷ h) (with_book (book_after_event book company r))
  draw_step company (Err refused) answer = refused_step _ (kept y h m T (Draw company) refused)
  draw_step company (Ok d) answer =
      let g = event_granted book.opened y.number company event.Draw d answer in
      event_step (Draw company, Ok (drawn_answer y.number company d.1)) company event.Draw d g
      (λ (b : Bool) (i : ℕ). record (story h m.entries i) { drawn = cond b (1 + drawn h i) (drawn h i) })
      (λ i. refl) (λ i. refl) (λ held. draw_held g.c (story h m.entries company) held d.1 g.answer) (λ closed. cc) refl (λ i. refl) (λ i. refl)

  pub cancel_step : (o : Order) (r : Result (Company × ℕ) Refusal) → decided book o.book o.company (event.Cancel o.instalment) ≡ r → Stands y ((Cancel o, grants r (λ d. granted.Cancelled)) ∷ h) (with_book (book_after_event book o.company r))
  cancel_step o (Err refused) answer = refused_step _ (kept y h m T (Cancel o) refused)
  cancel_step o (Ok d) answer =
      let g = event_granted book.opened o.book o.company (event.Cancel o.instalment) d answer in
      event_step (Cancel o, Ok granted.Cancelled) o.company (event.Cancel o.instalment) d g
      (λ (b : Bool) (i : ℕ). record (story h m.entries i) { taken_back = cond b (1 + taken_back h i) (taken_back h i) })
      (λ i. refl) (λ i. refl) (λ held. cancel_held g.c (story h m.entries o.company) held o.instalment d.1 g.answer) (λ closed. cc) refl (λ i. refl) (λ i. refl)

  pub send_step : (o : Order) (r : Result (Company × ℕ) Refusal) → decided book o.book o.company (event.Send o.instalment) ≡ r → Stands y ((Send o, grants r (λ d. granted.Sent)) ∷ h) (with_book (book_after_event book o.company r))
  send_step o (Err refused) answer = refused_step _ (kept y h m T (Send o) refused)
  send_step o (Ok d) answer =
      let g = event_granted book.opened o.book o.company (event.Send o.instalment) d answer in
      event_step (Send o, Ok granted.Sent) o.company (event.Send o.instalment) d g (λ (b : Bool) (i : ℕ). story h m.entries i)
      (λ i. refl) (λ i. refl) (λ held. send_held g.c (story h m.entries o.company) held o.instalment d.1 g.answer) (λ closed. cc) refl (λ i. refl) (λ i. refl)

  pub bounce_step : (o : Order) (r : Result (Company × ℕ) Refusal) → decided book o.book o.company (event.Bounce o.instalment) ≡ r → Stands y ((Bounce o, grants r (λ d. granted.Bounced)) ∷ h) (with_book (book_after_event book o.company r))
  bounce_step o (Err refused) answer = refused_step _ (kept y h m T (Bounce o) refused)
  bounce_step o (Ok d) answer =
      let g = event_granted book.opened o.book o.company (event.Bounce o.instalment) d answer in
      event_step (Bounce o, Ok granted.Bounced) o.company (event.Bounce o.instalment) d g
      (λ (b : Bool) (i : ℕ). record (story h m.entries i) { taken_back = cond b (1 + taken_back h i) (taken_back h i) })
      (λ i. refl) (λ i. refl) (λ held. bounce_held g.c (story h m.entries o.company) held o.instalment d.1 g.answer) (λ closed. cc) refl (λ i. refl) (λ i. refl)

  pub reopen_step : (company : ℕ) (r : Result (Company × ℕ) Refusal) → decided book y.number company event.Reopen ≡ r → Stands y ((Reopen company, grants r (λ d. granted.Reopened)) ∷ h) (with_book (book_after_event book company r))
  reopen_step company (Err refused) answer = refused_step _ (kept y h m T (Reopen company) refused)
  reopen_step company (Ok d) answer =
      let g = event_granted book.opened y.number company event.Reopen d answer in
      event_step (Reopen company, Ok granted.Reopened) company event.Reopen d g
      (λ (b : Bool) (i : ℕ). record (story h m.entries i) { closed = is_true (or_else (cond b (Some false) None) (latest (closes i) h)) })
      (λ i. refl) (λ i. refl) (λ held. reopen_held g.c (story h m.entries company) held d.1 g.answer) (λ closed. cc) refl (λ i. refl) (λ i. refl)

  pub register_step : (company : ℕ) (f : TermsFigures) (r : Result Terms Refusal) → register_answer book company f ≡ r → Stands y ((Register company f, grants r (λ t. granted.Registered)) ∷ h) (with_book (book_with_terms book company r))
  register_step company f (Err refused) answer = refused_step _ (kept y h m T (Register company f) refused)
  register_step company f (Ok terms) answer =
      let in_table = when_granted (ltb company 16) _ _ _ terms answer in
      let free = when_granted (not (is_some (company_at m.companies company))) _ _ _ terms in_table.1 in
      let few = ltb-true company 16 in_table.0 in
      let none = none_paid terms.figures.advance terms.figures.instalments in
      let figures = made_figures f terms free.1 in
      record {
        m = record { companies = set m.companies company (Some (new_company terms)); entries = m.entries; localities = m.localities; points = m.points };
        is = refl;
        tied =
            replaced y h m T (Register company f, Ok granted.Registered) company None (new_company terms) m.entries (none_there _ free.0) (omega (arith, few, T.long))
            (λ (b : Bool) (i : ℕ). record (story h m.entries i) { terms = or_else (cond b (Some f) None) (terms_of h i) })
            (λ i. refl) (λ i. refl) (λ untold. registered_held terms f (story h m.entries company) figures untold) (λ closed. cc) (omega (arith, ints, none)) (λ i. refl) (λ i. refl) (λ i. refl) (λ i. refl);
      }
