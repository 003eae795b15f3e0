-- What holds at each place of a list after a write.
use Rattle.std.proofs.Common.{◌≡◌, ℕ, zero, suc, ◌<◌, List, length, get_or, set, replicate, refl, sym, subst, ⊎_elim, get_or-set_same, get_or-set_other}
use Rattle.std.proofs.lemmas.Bool.{cases_eq}

pub each_after_set : {X : Type 0} (P : ℕ → X → Type 0) (xs : List X) (place : ℕ) (x d : X) → place < length xs → ((i : ℕ) → (place ≡ i → ⊥) → P i (get_or xs i d)) → P place x → (i : ℕ) → P i (get_or (set xs place x) i d)
each_after_set {X} P xs place x d within others here i =
    ⊎_elim
    (λ (same : place ≡ i). subst (λ (k : ℕ). P k (get_or (set xs place x) k d)) same (subst (P place) (sym (get_or-set_same xs place x d within)) here))
    (λ (other : place ≡ i → ⊥). subst (P i) (sym (get_or-set_other xs place i x d (λ e. other (sym e)))) (others i other))
    (cases_eq place i)

pub blank_at : {X : Type 0} (n i : ℕ) (d : X) → get_or (replicate n d) i d ≡ d
blank_at zero i d = refl
blank_at (suc n) zero d = refl
blank_at (suc n) (suc i) d = blank_at n i d
