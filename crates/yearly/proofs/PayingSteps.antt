-- The calls that book an advance or a balance keep the tie: confirming and closing.
use Rattle.std.proofs.Common.{◌≡◌, ℕ, ◌+◌, Bool, true, cond, List, [], ◌∷◌, ◌++◌, get_or, set, ℤ, pos, ◌+ℤ◌, ◌-ℤ◌, Some, None, Ok, Err, Option, Result, refl, sym, ap, ap₂, subst, ◌∙◌, arith}
use Rattle.std.proofs.lemmas.List.{append-nil}
use borrow.Author.Differences.{ints}
use Rattle.units.specs.declared.amounts.Cents.{Cents}
use Rattle.units.specs.declared.refusal.Refusal.{Refusal}
use Rattle.rounding.specs.Sums.{sum_z}
use Rattle.rounding.proofs.SumLaws.{sum_z_push}
use Rattle.journal.specs.declared.entry.Entry.{Entry}
use Rattle.journal.specs.Appending.{append_answer}
use Rattle.company.specs.declared.record.Company.{Company}
use Rattle.company.specs.declared.record.Event.TheVariants as event
use Rattle.company.specs.Events.{act_answer, company_after}
use Rattle.calls.specs.declared.call.Call.TheVariants.{Confirm, Close}
use Rattle.orders.specs.declared.order.Order.{Order}
use Rattle.orders.specs.Registers.{deciding}
use Rattle.tables.specs.Lengths.{tables_fit}
use Rattle.booklaws.specs.declared.answer.Granted.TheVariants as granted
use Rattle.booklaws.specs.States.{BookState}
use Rattle.orders.specs.Payments.{amount_paid, advance_entry}
use Rattle.booklaws.specs.Companies.{decided, confirm_decision, confirmed_by}
use Rattle.orders.specs.Orders.{settled}
use Rattle.booklaws.specs.Closings.{close_decision, balance_of, closed_by, balance_entry}
use Rattle.booklaws.specs.Calls.{State, grants}
use Rattle.booklaws.specs.JournalSums.{Advanced, change_at, advance_in, advances_of, payment_in, payment_to, paid_to}
use Rattle.opened.specs.Figures.{settling, settlement, price_for}
use Rattle.units.proofs.Granted.{when_granted, next_granted, both_granted, same, within}
use Rattle.booklaws.proofs.Events.{event_granted}
use Rattle.booklaws.proofs.Noting.{advances_push, no_change}
use Rattle.yearly.specs.Histories.{Told, History, or_else, latest, is_true, closes, confirmed, taken_back}
use Rattle.yearly.proofs.Stories.{HeldBy, Held, paid_more, confirm_held, close_held}
use Rattle.yearly.proofs.Ties.{Fixed, Moving, book_at, story, Tied, Stands, kept, replaced}

-- what a story tells after an entry
story_push : (x : Told) (h : History) (es : List Entry) (e : Entry) (i : ℕ) → story (x ∷ h) (es ++ e ∷ []) i ≡ record (story (x ∷ h) es i) { advances = advances_of es i ++ advance_in i e; paid = paid_to es i +ℤ payment_to i e }
story_push x h es e i =
    ap₂ (λ (xs : List Advanced) (z : ℤ). record (story (x ∷ h) es i) { advances = xs; paid = z }) (advances_push es e i) (sum_z_push (payment_to i) es e)

-- nothing is added to what is told of the others
story_none : (h : History) (es : List Entry) (i : ℕ) → record (story h es i) { advances = advances_of es i ++ []; paid = paid_to es i +ℤ pos 0 } ≡ story h es i
story_none h es i =
    let nothing : paid_to es i +ℤ pos 0 ≡ paid_to es i = omega (arith, ints) in
    ap₂ (λ (xs : List Advanced) (z : ℤ). record (story h es i) { advances = xs; paid = z }) (append-nil (advances_of es i)) nothing

-- a balance changes no point
no_more : (es : List Entry) (company : ℕ) (cents : Cents) (change : Entry → ℤ) (i : ℕ) → sum_z (change_at i change) (es ++ balance_entry company cents ∷ []) ≡ sum_z (change_at i change) es
no_more es company cents change i =
    let more = sum_z_push (change_at i change) es (balance_entry company cents) in omega (arith, ints)

module _ (y : Fixed) (h : History) (m : Moving) (T : Tied y h m) where
  abbrev book : BookState
  book = book_at y m.companies m.entries

  abbrev with_book : BookState → State
  with_book b = record { book = b; localities = m.localities; points = m.points }

  confirmed_step : (o : Order) (k : ℕ) (c : Company) → get_or m.companies o.company None ≡ Some c → act_answer c (event.Confirm o.instalment) ≡ Ok k → Stands y ((Confirm o, Ok (granted.Paid (amount_paid (company_after c (event.Confirm o.instalment) (Ok k), k)))) ∷ h) (with_book (confirmed_by book o.company (Ok (company_after c (event.Confirm o.instalment) (Ok k), k))))
  confirmed_step o k c stood answer =
      let place = o.company in
      let new = company_after c (event.Confirm o.instalment) (Ok k) in
      let cents = amount_paid (new, k) in
      let e = advance_entry place k cents in
      let x : Told = (Confirm o, Ok (granted.Paid cents)) in
      let held : HeldBy c (story h m.entries place) = subst (λ (slot : Option Company). Held slot (story h m.entries place)) stood (T.companies place) in
      let more = paid_more c (story h m.entries place) held o.instalment k answer in
      let pays = sum_z_push payment_in m.entries e in
      record {
        m = record { companies = set m.companies place (Some new); entries = m.entries ++ e ∷ []; localities = m.localities; points = m.points };
        is = refl;
        tied =
            replaced y h m T x place (Some c) new (m.entries ++ e ∷ []) stood (within m.companies place c stood)
            (λ (b : Bool) (i : ℕ). record (story h m.entries i) { advances = advances_of m.entries i ++ cond b ((k, cents) ∷ []) []; paid = paid_to m.entries i +ℤ cond b cents.0 (pos 0); confirmed = cond b (1 + confirmed h i) (confirmed h i); taken_back = cond b (1 + taken_back h i) (taken_back h i) })
            (story_push x h m.entries e) (story_none h m.entries)
            (λ told. confirm_held c (story h m.entries place) told o.instalment k answer)
            (λ closed. cc) (omega (arith, ints, more, pays))
            (λ i. no_change m.entries place k cents (λ e. e.volume) i) (λ i. no_change m.entries place k cents (λ e. e.days) i) (λ i. refl) (λ i. refl);
      }

  pub confirm_step : (o : Order) (r : Result (Company × ℕ) Refusal) → confirm_decision book o ≡ r → Stands y ((Confirm o, grants r (λ d. granted.Paid (amount_paid d))) ∷ h) (with_book (confirmed_by book o.company r))
  confirm_step o (Err refused) answer = record { m = m; is = refl; tied = kept y h m T (Confirm o) refused }
  confirm_step o (Ok d) answer =
      let g = event_granted book.opened o.book o.company (event.Confirm o.instalment) d (both_granted (decided book o.book o.company (event.Confirm o.instalment)) (append_answer y.capacity m.entries) d answer) in
      subst (λ (c : Company). Stands y ((Confirm o, Ok (granted.Paid (amount_paid (c, d.1)))) ∷ h) (with_book (confirmed_by book o.company (Ok (c, d.1)))))
      (sym g.after) (confirmed_step o d.1 g.c g.stood g.answer)

  closed_step : (company k : ℕ) (c : Company) → get_or m.companies company None ≡ Some c → act_answer c event.Close ≡ Ok k → (d : Company × Cents) → d ≡ settling y.tariff.figures (price_for y.price c) m.localities m.points company (company_after c event.Close (Ok k)) → Stands y ((Close company, Ok (granted.Closed d.1)) ∷ h) (with_book (closed_by book company (Ok d)))
  closed_step company k c stood answer d is =
      let moved = company_after c event.Close (Ok k) in
      let z = settlement y.tariff.figures (price_for y.price c) m.localities m.points company moved in
      let new = settled moved z in
      let cents : Cents = record { 0 = z -ℤ c.balances } in
      let e = balance_entry company cents in
      let x : Told = (Close company, Ok (granted.Closed cents)) in
      let pays = sum_z_push payment_in m.entries e in
      subst (λ (d : Company × Cents). Stands y ((Close company, Ok (granted.Closed d.1)) ∷ h) (with_book (closed_by book company (Ok d)))) (sym is)
      (record {
        m = record { companies = set m.companies company (Some new); entries = m.entries ++ e ∷ []; localities = m.localities; points = m.points };
        is = refl;
        tied =
            replaced y h m T x company (Some c) new (m.entries ++ e ∷ []) stood (within m.companies company c stood)
            (λ (b : Bool) (i : ℕ). record (story h m.entries i) { advances = advances_of m.entries i ++ []; paid = paid_to m.entries i +ℤ cond b cents.0 (pos 0); closed = is_true (or_else (cond b (Some true) None) (latest (closes i) h)) })
            (story_push x h m.entries e) (story_none h m.entries)
            (λ told. close_held c (story h m.entries company) told k z answer)
            (λ closed. refl) (omega (arith, ints, pays))
            (no_more m.entries company cents (λ e. e.volume)) (no_more m.entries company cents (λ e. e.days)) (λ i. refl) (λ i. refl);
      })

  pub close_step : (company : ℕ) (r : Result (Company × Cents) Refusal) → close_decision book m.localities m.points company ≡ r → Stands y ((Close company, grants (balance_of r) granted.Closed) ∷ h) (with_book (closed_by book company r))
  close_step company (Err refused) answer = record { m = m; is = refl; tied = kept y h m T (Close company) refused }
  close_step company (Ok d) answer =
      let decision = both_granted _ (append_answer y.capacity m.entries) d answer in
      let fit = when_granted (tables_fit m.localities m.points) _ _ _ d decision in
      let q = next_granted (deciding m.companies y.number y.number company event.Close) _ d fit.1 in
      let g = event_granted book.opened y.number company event.Close q.0 q.1 in
      let is = sym (same _ d q.2) ∙ ap (λ (c : Company). settling y.tariff.figures (price_for y.price c) m.localities m.points company c) g.after in
      closed_step company q.0.1 g.c g.stood g.answer d is
