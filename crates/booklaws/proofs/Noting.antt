-- How what the journal comes to changes with one entry more.
use Rattle.std.proofs.Common.{◌≡◌, ◌≢◌, ℕ, eqb, List, [], ◌∷◌, ◌++◌, ℤ, pos, ◌+ℤ◌, refl, sym, ap, ◌∙◌, arith}
use Rattle.std.proofs.lemmas.Bool.{cond-true, cond-false, eq-eqb, ne_eqb}
use Rattle.std.proofs.lemmas.List.{append-nil, append_assoc}
use borrow.Author.Differences.{ints}
use Rattle.units.specs.declared.amounts.Cents.{Cents}
use Rattle.journal.specs.declared.entry.Entry.{Entry}
use Rattle.rounding.specs.Sums.{sum_z}
use Rattle.rounding.proofs.SumLaws.{sum_z_push}
use Rattle.calls.specs.declared.billing.Charged.{Charged}
use Rattle.orders.specs.Payments.{advance_entry}
use Rattle.booklaws.specs.Closings.{balance_entry}
use Rattle.booklaws.specs.Rows.{bill_entry}
use Rattle.booklaws.specs.JournalSums.{change_at, advance_in, advances_of, payment_in, payments, Advanced}

-- ---- Any entry
pub advances_push : (es : List Entry) (e : Entry) (company : ℕ) → advances_of (es ++ e ∷ []) company ≡ advances_of es company ++ advance_in company e
advances_push [] e company = append-nil (advance_in company e)
advances_push (x ∷ es) e company =
    ap (λ (xs : List Advanced). advance_in company x ++ xs) (advances_push es e company)
    ∙ sym (append_assoc (advance_in company x) (advances_of es company) (advance_in company e))

-- an entry that advances nothing to a company
no_advance : (es : List Entry) (e : Entry) (company : ℕ) → advance_in company e ≡ [] → advances_of (es ++ e ∷ []) company ≡ advances_of es company
no_advance es e company none =
    advances_push es e company
    ∙ ap (λ (xs : List Advanced). advances_of es company ++ xs) none
    ∙ append-nil (advances_of es company)

-- ---- An advance
module _ (es : List Entry) (company k : ℕ) (amount : Cents) where
  pub no_change : (change : Entry → ℤ) (point : ℕ) → sum_z (change_at point change) (es ++ advance_entry company k amount ∷ []) ≡ sum_z (change_at point change) es
  no_change change point =
      let more = sum_z_push (change_at point change) es (advance_entry company k amount) in omega (arith, ints)

  pub its_advance : advances_of (es ++ advance_entry company k amount ∷ []) company ≡ advances_of es company ++ (k, amount) ∷ []
  its_advance =
      advances_push es (advance_entry company k amount) company
      ∙ ap (λ (xs : List Advanced). advances_of es company ++ xs) (cond-true (eqb company company) ((k, amount) ∷ []) [] (eq-eqb company company refl))

  pub others_advances : (other : ℕ) → other ≢ company → advances_of (es ++ advance_entry company k amount ∷ []) other ≡ advances_of es other
  others_advances other not =
      no_advance es (advance_entry company k amount) other (cond-false (eqb company other) ((k, amount) ∷ []) [] (ne_eqb company other (λ e. not (sym e))))

  pub its_payment : payments (es ++ advance_entry company k amount ∷ []) ≡ payments es +ℤ amount.0
  its_payment = sum_z_push payment_in es (advance_entry company k amount)

-- ---- A bill
module _ (es : List Entry) (c : Charged) (point : ℕ) (dv dd : ℤ) (change : Entry → ℤ) where
  pub its_change : sum_z (change_at point change) (es ++ bill_entry c point dv dd ∷ []) ≡ sum_z (change_at point change) es +ℤ change (bill_entry c point dv dd)
  its_change =
      let more = sum_z_push (change_at point change) es (bill_entry c point dv dd) in
      let own = cond-true (eqb point point) (change (bill_entry c point dv dd)) (pos 0) (eq-eqb point point refl) in
      omega (arith, ints)

  pub others_change : (other : ℕ) → other ≢ point → sum_z (change_at other change) (es ++ bill_entry c point dv dd ∷ []) ≡ sum_z (change_at other change) es
  others_change other not =
      let more = sum_z_push (change_at other change) es (bill_entry c point dv dd) in
      let own = cond-false (eqb point other) (change (bill_entry c point dv dd)) (pos 0) (ne_eqb point other (λ e. not (sym e))) in
      omega (arith, ints)

module _ (es : List Entry) (c : Charged) (point : ℕ) (dv dd : ℤ) where
  pub no_advances : (company : ℕ) → advances_of (es ++ bill_entry c point dv dd ∷ []) company ≡ advances_of es company
  no_advances company = no_advance es (bill_entry c point dv dd) company refl

  pub no_payment : payments (es ++ bill_entry c point dv dd ∷ []) ≡ payments es
  no_payment = let more = sum_z_push payment_in es (bill_entry c point dv dd) in omega (arith, ints)

-- ---- A balance
module _ (es : List Entry) (company : ℕ) (amount : Cents) where
  pub balance_no_change : (change : Entry → ℤ) (point : ℕ) → sum_z (change_at point change) (es ++ balance_entry company amount ∷ []) ≡ sum_z (change_at point change) es
  balance_no_change change point =
      let more = sum_z_push (change_at point change) es (balance_entry company amount) in omega (arith, ints)

  pub balance_no_advances : (other : ℕ) → advances_of (es ++ balance_entry company amount ∷ []) other ≡ advances_of es other
  balance_no_advances other = no_advance es (balance_entry company amount) other refl

  pub balance_payment : payments (es ++ balance_entry company amount ∷ []) ≡ payments es +ℤ amount.0
  balance_payment = sum_z_push payment_in es (balance_entry company amount)
