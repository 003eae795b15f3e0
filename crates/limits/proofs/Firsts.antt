-- The first bad figure of a list, step by step, and what follows where there is none.
use Rattle.std.proofs.Common.{◌≡◌, ℕ, zero, suc, ◌+◌, ◌<◌, ◌≤◌, Bool, true, false, not, cond, List, [], ◌∷◌, length, get_or, drop, is_some, Some, None, Option, sym, refl, ap, ◌∙◌, arith}
use Rattle.std.proofs.lemmas.List.{at_drop_more, drop_all}
use Rattle.std.proofs.lemmas.Bool.{cond-true, false≢true}
use Rattle.std.specs.List.{position_from}
use Rattle.std.specs.Option.{option_map}
use Rattle.limits.specs.First.{unless, first_beyond, first_of}

-- ---- A list of figures of one kind
beyond_step : (fits : Bool) (n k : ℕ) (r s : Option ℕ) → r ≡ option_map (λ i. n + i) s → cond fits r (Some (n + k)) ≡ option_map (λ i. n + i) (cond (not fits) (Some k) s)
beyond_step true n k r s e = e
beyond_step false n k r s e = refl

beyond_from : {X : Type 0} (fits : X → Bool) (n k : ℕ) (xs : List X) → first_beyond fits (n + k) xs ≡ option_map (λ i. n + i) (position_from (λ x. not (fits x)) k xs)
beyond_from fits n k [] = refl
beyond_from fits n k (x ∷ xs) =
    let next : n + k + 1 ≡ n + (k + 1) = omega arith in
    beyond_step (fits x) n k _ _ (ap (λ (m : ℕ). first_beyond fits m xs) next ∙ beyond_from fits n (k + 1) xs)

-- the first bad figure stands at the first place whose figure does not fit
pub beyond_at : {X : Type 0} (fits : X → Bool) (n : ℕ) (xs : List X) → first_beyond fits n xs ≡ option_map (λ i. n + i) (position_from (λ x. not (fits x)) 0 xs)
beyond_at fits n xs =
    let first : n ≡ n + 0 = omega arith in
    ap (λ (m : ℕ). first_beyond fits m xs) first ∙ beyond_from fits n 0 xs

-- ---- The first of several answers
pub of_some : (o : Option ℕ) (os : List (Option ℕ)) → is_some o ≡ true → first_of (o ∷ os) ≡ o
of_some (Some n) os h = refl
of_some None os h = absurd (false≢true h)

pub of_none : (o : Option ℕ) (os : List (Option ℕ)) → is_some o ≡ false → first_of (o ∷ os) ≡ first_of os
of_none (Some n) os h = absurd (false≢true (sym h))
of_none None os h = refl

pub of_one : (o : Option ℕ) → first_of (o ∷ []) ≡ o
of_one (Some n) = refl
of_one None = refl

pub of_found : (os : List (Option ℕ)) (i : ℕ) → i < length os → is_some (get_or os i None) ≡ true → first_of (drop i os) ≡ get_or os i None
of_found os i l h = at_drop_more first_of os i None l ∙ of_some _ _ h

pub of_more : (os : List (Option ℕ)) (i : ℕ) → i < length os → is_some (get_or os i None) ≡ false → first_of (drop i os) ≡ first_of (drop (i + 1) os)
of_more os i l h = at_drop_more first_of os i None l ∙ of_none _ _ h

pub of_end : (os : List (Option ℕ)) (i : ℕ) → length os ≤ i → first_of (drop i os) ≡ None
of_end os i l = ap first_of (drop_all i os l)

pub of_any : (os : List (Option ℕ)) (i : ℕ) → is_some (get_or os i None) ≡ true → is_some (first_of os) ≡ true
of_any [] i h = h
of_any (Some n ∷ os) i h = refl
of_any (None ∷ os) zero h = absurd (false≢true h)
of_any (None ∷ os) (suc i) h = of_any os i h

-- ---- Where nothing is bad
-- nothing is found at all, so nothing at any place
pub none_at : (os : List (Option ℕ)) → is_some (first_of os) ≡ false → (i : ℕ) → is_some (get_or os i None) ≡ false
none_at [] h i = refl
none_at (Some n ∷ os) h i = absurd (false≢true (sym h))
none_at (None ∷ os) h zero = refl
none_at (None ∷ os) h (suc i) = none_at os h i

pub goes_on : (fits : Bool) (o : Option ℕ) (n : ℕ) → is_some (cond fits o (Some n)) ≡ false → (fits ≡ true) × (is_some o ≡ false)
goes_on true o n h = (refl, h)
goes_on false o n h = absurd (false≢true (sym h))

pub fits_of : (fits : Bool) (n : ℕ) → is_some (unless fits n) ≡ false → fits ≡ true
fits_of fits n h = (goes_on fits None n h).0

-- every figure of a list with no bad one fits, and so does what is read past its end
pub fits_at : {X : Type 0} (fits : X → Bool) (d : X) → fits d ≡ true → (n : ℕ) (xs : List X) → is_some (first_beyond fits n xs) ≡ false → (i : ℕ) → fits (get_or xs i d) ≡ true
fits_at fits d fd n [] h i = fd
fits_at fits d fd n (x ∷ xs) h zero = (goes_on (fits x) (first_beyond fits (n + 1) xs) n h).0
fits_at fits d fd n (x ∷ xs) h (suc i) = fits_at fits d fd (n + 1) xs (goes_on (fits x) (first_beyond fits (n + 1) xs) n h).1 i

-- ---- And back
pub none_cons : (o : Option ℕ) (os : List (Option ℕ)) → is_some o ≡ false → is_some (first_of os) ≡ false → is_some (first_of (o ∷ os)) ≡ false
none_cons (Some n) os h t = absurd (false≢true (sym h))
none_cons None os h t = t

pub none_unless : (fits : Bool) (n : ℕ) → fits ≡ true → is_some (unless fits n) ≡ false
none_unless fits n h = ap (λ (b : Bool). is_some (unless b n)) h

pub none_beyond : {X : Type 0} (fits : X → Bool) (d : X) (n : ℕ) (xs : List X) → ((i : ℕ) → fits (get_or xs i d) ≡ true) → is_some (first_beyond fits n xs) ≡ false
none_beyond fits d n [] h = refl
none_beyond fits d n (x ∷ xs) h =
    ap is_some (cond-true (fits x) (first_beyond fits (n + 1) xs) (Some n) (h 0)) ∙ none_beyond fits d (n + 1) xs (λ i. h (suc i))
