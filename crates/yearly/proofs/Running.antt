-- Every list of calls keeps the tie, from a granted opening on.
use Rattle.std.proofs.Common.{leb, ◌≡◌, ℕ, zero, suc, not, eqb, List, [], ◌∷◌, ◌++◌, length, take, replicate, ℤ, pos, is_some, None, Ok, Option, Result, refl, sym, ap, subst, ◌∙◌}
use Rattle.std.proofs.lemmas.Bool.{eqb-true, and_parts}
use Rattle.std.proofs.lemmas.List.{length-replicate}
use Rattle.units.specs.declared.refusal.Refusal.{Refusal}
use Rattle.journal.specs.declared.entry.Entry.{Entry}
use Rattle.tariff.specs.declared.table.Tariff.{Tariff}
use Rattle.tables.specs.declared.rows.LocalityRow.{LocalityRow}
use Rattle.tables.specs.declared.rows.PointRow.{PointRow}
use Rattle.tables.specs.Blank.{no_locality, no_point}
use Rattle.company.specs.declared.record.Company.{Company}
use Rattle.calls.specs.declared.call.Call.{Call}
use Rattle.calls.specs.declared.call.Call.TheVariants.{Register, File, Enrol, Bill, Draw, Cancel, Send, Confirm, Bounce, Close, Reopen, Ask}
use Rattle.tables.specs.Lengths.{tables_fit}
use Rattle.booklaws.specs.declared.answer.Granted.{Granted}
use Rattle.booklaws.specs.States.{BookState}
use Rattle.booklaws.specs.Companies.{register_answer, draw_decision, cancel_decision, send_decision, confirm_decision, bounce_decision}
use Rattle.booklaws.specs.Rows.{filing, enrolling, billing}
use Rattle.booklaws.specs.Closings.{close_decision, reopen_decision}
use Rattle.booklaws.specs.Openings.{unused, opening, opened_by, blanked}
use Rattle.booklaws.specs.Calls.{State, filed_row, answer_to, after_call, with_tables}
use Rattle.units.proofs.Granted.{when_granted, next_granted}
use Rattle.yearly.specs.Histories.{History}
use Rattle.yearly.specs.Runs.{begun, run_answers, run_after, history_after, AlwaysInOrder}
use Rattle.yearly.proofs.Writing.{blank_at}
use Rattle.yearly.proofs.Stories.{Held, Untold}
use Rattle.yearly.proofs.Ties.{Fixed, Moving, book_at, state_at, story, Settled, PointTied, Tied, Stands, asked}
use Rattle.yearly.proofs.CompanySteps.{draw_step, cancel_step, send_step, bounce_step, reopen_step, register_step}
use Rattle.yearly.proofs.PayingSteps.{confirm_step, close_step}
use Rattle.yearly.proofs.TableSteps.{file_step, enrol_step, bill_step}
use Rattle.yearly.proofs.Sums.{none_billed, none_gs_due, none_ug1_due}
use Rattle.yearly.proofs.Booked.{Booked, BookedIn}
use Rattle.yearly.proofs.BookedSteps.{booked_step}
use Rattle.yearly.proofs.Rules.{rules_stand}

-- ---- One call
tied_step : (y : Fixed) (h : History) (m : Moving) → Tied y h m → (c : Call) → Stands y ((c, answer_to y.filings (state_at y m) c) ∷ h) (after_call y.filings (state_at y m) c)
tied_step y h m T (Register company f) = register_step y h m T company f (register_answer (book_at y m.companies m.entries) company f) refl
tied_step y h m T (File place n) = file_step y h m T place n (filing (book_at y m.companies m.entries) m.localities place (filed_row y.filings n)) refl
tied_step y h m T (Enrol point e) = enrol_step y h m T point e (enrolling (book_at y m.companies m.entries) m.localities m.points point e) refl
tied_step y h m T (Bill point change) = bill_step y h m T point change (billing (book_at y m.companies m.entries) m.localities m.points point change.volume change.days) refl
tied_step y h m T (Draw company) = draw_step y h m T company (draw_decision (book_at y m.companies m.entries) company) refl
tied_step y h m T (Cancel o) = cancel_step y h m T o (cancel_decision (book_at y m.companies m.entries) o) refl
tied_step y h m T (Send o) = send_step y h m T o (send_decision (book_at y m.companies m.entries) o) refl
tied_step y h m T (Confirm o) = confirm_step y h m T o (confirm_decision (book_at y m.companies m.entries) o) refl
tied_step y h m T (Bounce o) = bounce_step y h m T o (bounce_decision (book_at y m.companies m.entries) o) refl
tied_step y h m T (Close company) = close_step y h m T company (close_decision (book_at y m.companies m.entries) m.localities m.points company) refl
tied_step y h m T (Reopen company) = reopen_step y h m T company (reopen_decision (book_at y m.companies m.entries) company) refl
tied_step y h m T (Ask q) = record { m = m; is = refl; tied = asked y h m T q (answer_to y.filings (state_at y m) (Ask q)) }

-- a state that is tied to a history, with the entries that it tells
record Follows (y : Fixed) (h : History) (s : State) : Type 0 where
  stands : Stands y h s
  booked : BookedIn y h s

step : (y : Fixed) (h : History) (s : State) → Follows y h s → (c : Call) → Follows y ((c, answer_to y.filings s c) ∷ h) (after_call y.filings s c)
step y h s f c =
    let m = f.stands.m in
    let booked : BookedIn y h (state_at y m) = subst (BookedIn y h) f.stands.is f.booked in
    let after : Follows y ((c, answer_to y.filings (state_at y m) c) ∷ h) (after_call y.filings (state_at y m) c) = record { stands = tied_step y h m f.stands.tied c; booked = booked_step y h m f.stands.tied booked c } in
    subst (λ (s : State). Follows y ((c, answer_to y.filings s c) ∷ h) (after_call y.filings s c)) (sym f.stands.is) after

-- ---- The first n of a list of calls, whatever answers stand behind theirs
run_follows : (y : Fixed) (n : ℕ) (calls : List Call) (more : List (Result Granted Refusal)) (h : History) (s : State) → Follows y h s → Follows y (history_after h (take n calls) (run_answers y.filings s calls ++ more)) (run_after y.filings s (take n calls))
run_follows y zero calls more h s f = f
run_follows y (suc n) [] more h s f = f
run_follows y (suc n) (c ∷ cs) more h s f =
    run_follows y n cs more ((c, answer_to y.filings s c) ∷ h) (after_call y.filings s c) (step y h s f c)

-- ---- The beginning
no_entries : (es : List Entry) → length es ≡ 0 → es ≡ []
no_entries [] none = refl
no_entries (e ∷ es) none = cc

nothing_told : (company : ℕ) → Untold (story [] [] company)
nothing_told company = record { terms = refl; advances = refl; paid = refl; drawn = refl; confirmed = refl; taken_back = refl; closed = refl }

blank_tied : PointTied no_point None (pos 0) (pos 0)
blank_tied = record { is = refl; volume = refl; days = refl; blank = λ _. (refl, refl) }

module _ (b : BookState) (tariff : Tariff) (number : ℕ) (sum : ℤ) (filings localities : List LocalityRow) (points : List PointRow) where
  abbrev year_fixed : Fixed
  year_fixed =
      record {
        tariff = tariff;
        number = number;
        sum = sum;
        capacity = b.capacity;
        price = b.price;
        filings = filings;
        locality_places = length (replicate (length localities) no_locality);
        point_places = length (replicate (length points) no_point);
      }

  abbrev blank_moving : List Entry → Moving
  blank_moving entries =
      record { companies = replicate 16 None; entries = entries; localities = replicate (length localities) no_locality; points = replicate (length points) no_point }

  begun_tied : Tied year_fixed [] (blank_moving [])
  begun_tied =
      record {
        long = refl;
        locality_places = refl;
        point_places = refl;
        companies = λ i. subst (λ (slot : Option Company). Held slot (story [] [] i)) (sym (blank_at 16 i None)) (nothing_told i);
        localities = λ i. blank_at (length localities) i no_locality;
        points = λ i. subst (λ (p : PointRow). PointTied p None (pos 0) (pos 0)) (sym (blank_at (length points) i no_point)) blank_tied;
        settled = λ i. subst (Settled year_fixed (blank_moving []).localities (blank_moving []).points i) (sym (blank_at 16 i None)) tt;
        spent = refl;
      }

  begun_booked : Booked year_fixed [] [] (blank_moving []).localities (blank_moving []).points
  begun_booked =
      record {
        standing = record { points = λ place e is. cc; localities = λ place row is. cc };
        adds =
            record {
              lines = λ company. ap pos (sym (none_billed tariff.figures (blank_moving []).localities (length points) company));
              ug1 = ap pos (sym (none_ug1_due tariff.figures (length points)));
              gs = ap pos (sym (none_gs_due tariff.figures (length points)));
            };
        tells = record { entries = refl; companies = λ company none. refl; points = λ point none. refl };
      }

  pub always_in_order : opening b number sum localities points ≡ Ok tt → (calls : List Call) (more : List (Result Granted Refusal)) → AlwaysInOrder tariff sum filings (begun b tariff number sum localities points) calls (run_answers filings (begun b tariff number sum localities points) calls ++ more)
  always_in_order granted calls more n =
      let fresh = next_granted (unused b) _ tt granted in
      let closed = when_granted (not (is_some b.opened)) _ _ _ fresh.0 fresh.1 in
      let empty = when_granted (eqb (length b.entries) 0) _ _ _ fresh.0 closed.1 in
      let none = no_entries b.entries (eqb-true (length b.entries) 0 empty.0) in
      let fit = when_granted (tables_fit localities points) _ _ _ tt fresh.2 in
      let few = ap (λ (n : ℕ). leb n 65536) (length-replicate (length points) no_point) ∙ (and_parts (leb (length localities) 256) (leb (length points) 65536) fit.0).1 in
      let s = begun b tariff number sum localities points in
      let follows : Follows year_fixed [] s =
      record {
        stands = record { m = blank_moving b.entries; is = refl; tied = subst (λ (es : List Entry). Tied year_fixed [] (blank_moving es)) (sym none) begun_tied };
        booked = subst (λ (es : List Entry). Booked year_fixed [] es (blank_moving []).localities (blank_moving []).points) (sym none) begun_booked;
      } in
      let after = run_follows year_fixed n calls more [] s follows in
      rules_stand year_fixed _ _ few after.stands after.booked

  -- the same for what an opening left, and for answers that a run wrote
  pub ran_in_order : (result : Result (Unit {0}) Refusal) (z : ℤ) (after : BookState) (localities' : List LocalityRow) (points' : List PointRow) (calls : List Call) (answers more : List (Result Granted Refusal)) → result ≡ Ok tt → z ≡ sum → result ≡ opening b number z localities points → after ≡ opened_by b tariff number z result → localities' ≡ blanked no_locality localities result → points' ≡ blanked no_point points result → answers ≡ run_answers filings (with_tables after localities' points') calls ++ more → AlwaysInOrder tariff sum filings (begun b tariff number sum localities points) calls answers
  ran_in_order result z after localities' points' calls answers more granted same answer opened localities_are points_are wrote =
      let grants : opening b number sum localities points ≡ Ok tt = ap (λ (w : ℤ). opening b number w localities points) (sym same) ∙ sym answer ∙ granted in
      let left : with_tables after localities' points' ≡ begun b tariff number sum localities points =
      λ i. with_tables ((opened ∙ (λ j. opened_by b tariff number (same j) (granted j))) i) ((localities_are ∙ ap (blanked no_locality localities) granted) i) ((points_are ∙ ap (blanked no_point points) granted) i) in
      let wrote_begun = wrote ∙ ap (λ (s : State). run_answers filings s calls ++ more) left in
      subst (AlwaysInOrder tariff sum filings (begun b tariff number sum localities points) calls) (sym wrote_begun) (always_in_order grants calls more)
