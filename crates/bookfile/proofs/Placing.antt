-- A loop that puts figures to slots one by one.
use Rattle.std.proofs.Common.{◌≡◌, ℕ, zero, suc, ◌+◌, ◌≤◌, List, get_or, ℤ, Some, None, Option, ap, ◌∙◌, subst, ⊎_elim, add-one, arith}
use Rattle.std.proofs.lemmas.Bool.{cases_lt}
use Rattle.bookfile.specs.Slots.{placed, placed_all, and_then}

module _ (s : List (Option ℤ)) (at : ℕ) (zs : List (Option ℤ)) (first : ℕ) where
  -- one figure more
  pub placed_more : (k : ℕ) (t : List (Option ℤ)) (o : Option (List (Option ℤ))) → placed_all s at zs first k ≡ Some t → placed t (at + k) (get_or zs (first + k) None) ≡ o → placed_all s at zs first (k + 1) ≡ o
  placed_more k t o so_far now = rw add-one (ap (λ x. and_then x (λ u. placed u (at + k) (get_or zs (first + k) None))) so_far ∙ now)

  -- once a figure finds its slot taken, no more of them help
  pub placed_none : (k n : ℕ) → k ≤ n → placed_all s at zs first k ≡ None → placed_all s at zs first n ≡ None
  placed_none k zero h none = let e : k ≡ 0 = omega arith in subst (λ m. placed_all s at zs first m ≡ None) e none
  placed_none k (suc n) h none =
      ⊎_elim
      (λ less. ap (λ x. and_then x (λ u. placed u (at + n) (get_or zs (first + n) None))) (placed_none k n (omega arith) none))
      (λ more. let e : k ≡ suc n = omega arith in subst (λ m. placed_all s at zs first m ≡ None) e none)
      (cases_lt k (suc n))
