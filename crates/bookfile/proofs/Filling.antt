-- What `array::from_fn` gives of a closure that stays as it is.
use Rattle.std.proofs.Common.{◌≡◌, ℕ, zero, suc, ◌+◌, ◌<◌, ◌≤◌, List, map, get_or, ◌∙◌, subst, ⊎_elim, arith}
use Rattle.std.proofs.lemmas.Bool.{cases_lt}
use Rattle.std.proofs.lemmas.List.FromFn.{fill_by_all}
use Rattle.std.specs.Array.{IsFromFnResultFrom, IsFromFnResult}
use Rattle.std.specs.Fn.{Called, Mut}
use Rattle.std.specs.List.{range_with_len}

module _ {F X : Type 0} {g : Mut F (ℕ × Unit {0}) X} {f : F} (h : ℕ → X) (computes : (i : ℕ) (y : X) (q : F) → Called g f (i, tt) y q → (q ≡ f) × (y ≡ h i)) where
  filled_from : (n i : ℕ) (xs : List X) → IsFromFnResultFrom g f xs i n → (k : ℕ) (d : X) → i ≤ k → k < i + n → get_or xs k d ≡ h k
  filled_from zero i xs calls k d low high = absurd (omega arith)
  filled_from (suc n) i xs (q, y, here, called, rest) k d low high =
      let now = computes i y q called in
      ⊎_elim
      (λ later. filled_from n (i + 1) xs (subst (λ p. IsFromFnResultFrom g p xs (i + 1) n) now.0 rest) k d (omega arith) (omega arith))
      (λ first. let e : k ≡ i = omega arith in rw e (here.1 d ∙ now.1))
      (cases_lt i k)

  pub filled : (xs : List X) (n : ℕ) → IsFromFnResult g f xs n → xs ≡ map h (range_with_len 0 n)
  filled xs n made = fill_by_all h xs n (h 0) made.long (λ k below. filled_from n 0 xs made.each k (h 0) (omega arith) (omega arith))
