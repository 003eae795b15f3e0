-- A run that has come to its i-th call.
use Rattle.std.proofs.Common.{◌≡◌, ℕ, ◌+◌, ◌<◌, List, [], ◌∷◌, ◌++◌, length, get_or, take, drop, set, Result, refl, sym, ap, ◌∙◌, append_assoc, take-append-drop, length-set}
use Rattle.std.proofs.lemmas.List.{append-nil, drop_more, take_more_set, drop-set-lt}
use Rattle.std.proofs.Math.Seq.{drop-length}
use Rattle.units.specs.declared.refusal.Refusal.{Refusal}
use Rattle.tables.specs.declared.rows.LocalityRow.{LocalityRow}
use Rattle.calls.specs.declared.call.Call.{Call}
use Rattle.booklaws.specs.declared.answer.Granted.{Granted}
use Rattle.booklaws.specs.Calls.{State, answer_to, after_call}
use Rattle.yearly.specs.Runs.{run_answers, run_after}

abbrev pub Answers : Type 0
Answers = List (Result Granted Refusal)

-- from state s with the answers so far the rest of the calls leads where the run from its beginning does
pub record Called (filings : List LocalityRow) (start : State) (calls : List Call) (old : Answers) (s : State) (answers : Answers) (i : ℕ) : Type 0 where
  pub after : run_after filings s (drop i calls) ≡ run_after filings start calls
  pub answered : take i answers ++ run_answers filings s (drop i calls) ≡ run_answers filings start calls
  pub rest : drop (length calls) answers ≡ drop (length calls) old
  pub long : length answers ≡ length old

module _ (filings : List LocalityRow) (start : State) (calls : List Call) (old : Answers) where
  pub called_none : Called filings start calls old start old 0
  called_none = record { after = refl; answered = refl; rest = refl; long = refl }

  -- one call more
  pub called_more : (s : State) (answers : Answers) (i : ℕ) (c : Call) → i < length calls → i < length answers → c ≡ get_or calls i c → Called filings start calls old s answers i → Called filings start calls old (after_call filings s c) (set answers i (answer_to filings s c)) (i + 1)
  called_more s answers i c within place is k =
      let a = answer_to filings s c in
      let next : drop i calls ≡ c ∷ drop (i + 1) calls = drop_more calls i c within ∙ ap (λ (x : Call). x ∷ drop (i + 1) calls) (sym is) in
      record {
        after = sym (ap (run_after filings s) next) ∙ k.after;
        answered =
            ap (λ (xs : Answers). xs ++ run_answers filings (after_call filings s c) (drop (i + 1) calls)) (take_more_set answers i a place)
            ∙ append_assoc (take i answers) (a ∷ []) (run_answers filings (after_call filings s c) (drop (i + 1) calls))
            ∙ sym (ap (λ (cs : List Call). take i answers ++ run_answers filings s cs) next)
            ∙ k.answered;
        rest = drop-set-lt (length calls) answers i a within ∙ k.rest;
        long = length-set answers i a ∙ k.long;
      }

  -- all calls
  pub called_all : (s : State) (answers : Answers) → Called filings start calls old s answers (length calls) → (s ≡ run_after filings start calls) × (answers ≡ run_answers filings start calls ++ drop (length calls) old)
  called_all s answers k =
      let none : drop (length calls) calls ≡ [] = drop-length calls in (
        sym (ap (run_after filings s) none) ∙ k.after,
        sym (take-append-drop (length calls) answers)
            ∙ ap (λ (xs : Answers). take (length calls) answers ++ xs) k.rest
            ∙ ap (λ (xs : Answers). xs ++ drop (length calls) old) (sym (append-nil (take (length calls) answers)) ∙ sym (ap (λ (cs : List Call). take (length calls) answers ++ run_answers filings s cs) none) ∙ k.answered),
      )
