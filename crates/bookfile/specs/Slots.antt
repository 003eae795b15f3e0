-- What slots for figures hold after figures are put to them.
use Rattle.std.specs.Prelude.{◌≡◌, ℕ, zero, suc, ◌+◌, cond, List, ℤ, is_some, Some, None, Option, Result, MatchResult, slice_index_or, slice_set}

-- the slots after a figure is put to one: a slot takes one figure only, and a figure that is not given leaves it
abbrev pub placed : List (Option ℤ) → ℕ → Option ℤ → Option (List (Option ℤ))
placed slots at None = Some slots
placed slots at (Some z) = cond (is_some (slice_index_or slots at None)) None (Some (slice_set slots at (Some z)))

-- what follows from the slots, if there are any
abbrev pub and_then : {X Y : Type 0} → Option X → (X → Option Y) → Option Y
and_then None f = None
and_then (Some x) f = f x

-- the slots after so many figures, from the first one on, are put to them, from one on
abbrev pub placed_all : List (Option ℤ) → ℕ → List (Option ℤ) → ℕ → ℕ → Option (List (Option ℤ))
placed_all slots at zs first zero = Some slots
placed_all slots at zs first (suc n) =
    and_then (placed_all slots at zs first n) (λ s. placed s (at + n) (slice_index_or zs (first + n) None))

-- figures are put as asked, or they are refused where no slots come of it
abbrev pub Puts : {X E : Type 0} → Option X → Result (Unit {0}) E → X → Type 0
Puts asked r new = MatchResult r (λ _. asked ≡ Some new) (λ _. asked ≡ None)
