-- How sums over a list change: one more element, another at a place, two sums in one.
use Rattle.std.proofs.Common.{◌≡◌, ℕ, zero, suc, ◌+◌, ◌*◌, ◌<◌, ◌≤◌, Bool, false, cond, List, [], ◌∷◌, ◌++◌, length, get_or, take, set, ℤ, pos, ◌+ℤ◌, refl, ap, ◌∙◌, arith}
use Rattle.std.proofs.lemmas.List.{take_more}
use Rattle.std.proofs.lemmas.Bool.{cond-false}
use borrow.Author.Differences.{ints}
use Rattle.rounding.specs.Sums.{sum_n, sum_z, sum_if}

pub sum_z_append : {X : Type 0} (f : X → ℤ) (xs ys : List X) → sum_z f (xs ++ ys) ≡ sum_z f xs +ℤ sum_z f ys
sum_z_append f [] ys = omega (arith, ints)
sum_z_append f (x ∷ xs) ys = let ih = sum_z_append f xs ys in omega (arith, ints)

pub sum_z_push : {X : Type 0} (f : X → ℤ) (xs : List X) (y : X) → sum_z f (xs ++ (y ∷ [])) ≡ sum_z f xs +ℤ f y
sum_z_push f [] y = omega (arith, ints)
sum_z_push f (x ∷ xs) y = let ih = sum_z_push f xs y in omega (arith, ints)

pub sum_z_set : {X : Type 0} (f : X → ℤ) (xs : List X) (i : ℕ) (y d : X) → i < length xs → sum_z f (set xs i y) +ℤ f (get_or xs i d) ≡ sum_z f xs +ℤ f y
sum_z_set f [] i y d l = absurd (omega arith)
sum_z_set f (x ∷ xs) zero y d l = omega (arith, ints)
sum_z_set f (x ∷ xs) (suc i) y d l = let ih = sum_z_set f xs i y d (omega arith) in omega (arith, ints)

pub sum_n_set : {X : Type 0} (f : X → ℕ) (xs : List X) (i : ℕ) (y d : X) → i < length xs → sum_n f (set xs i y) + f (get_or xs i d) ≡ sum_n f xs + f y
sum_n_set f [] i y d l = absurd (omega arith)
sum_n_set f (x ∷ xs) zero y d l = omega arith
sum_n_set f (x ∷ xs) (suc i) y d l = let ih = sum_n_set f xs i y d (omega arith) in omega arith

pub sum_z_plus : {X : Type 0} (f g : X → ℤ) (xs : List X) → sum_z (λ x. f x +ℤ g x) xs ≡ sum_z f xs +ℤ sum_z g xs
sum_z_plus f g [] = refl
sum_z_plus f g (x ∷ xs) = let ih = sum_z_plus f g xs in omega (arith, ints)

pub sum_z_pos : {X : Type 0} (f : X → ℕ) (xs : List X) → sum_z (λ x. pos (f x)) xs ≡ pos (sum_n f xs)
sum_z_pos f [] = refl
sum_z_pos f (x ∷ xs) = let ih = sum_z_pos f xs in omega (arith, ints)

pub sum_n_le : {X : Type 0} (f : X → ℕ) (m : ℕ) (xs : List X) → ((x : X) → f x ≤ m) → sum_n f xs ≤ length xs * m
sum_n_le f m [] h = omega arith
sum_n_le f m (x ∷ xs) h = let ih = sum_n_le f m xs h in let k = h x in omega arith

-- one more element of a loop
pub sum_z_more : {X : Type 0} (f : X → ℤ) (xs : List X) (i : ℕ) (d : X) → i < length xs → sum_z f (take (i + 1) xs) ≡ sum_z f (take i xs) +ℤ f (get_or xs i d)
sum_z_more f xs i d l = ap (sum_z f) (take_more xs i d l) ∙ sum_z_push f (take i xs) (get_or xs i d)

sum_n_push : {X : Type 0} (f : X → ℕ) (xs : List X) (y : X) → sum_n f (xs ++ (y ∷ [])) ≡ sum_n f xs + f y
sum_n_push f [] y = omega arith
sum_n_push f (x ∷ xs) y = let ih = sum_n_push f xs y in omega arith

pub sum_n_more : {X : Type 0} (f : X → ℕ) (xs : List X) (i : ℕ) (d : X) → i < length xs → sum_n f (take (i + 1) xs) ≡ sum_n f (take i xs) + f (get_or xs i d)
sum_n_more f xs i d l = ap (sum_n f) (take_more xs i d l) ∙ sum_n_push f (take i xs) (get_or xs i d)

-- a factor of every element is one of the sum
pub sum_n_times : {X : Type 0} (k : ℕ) (f : X → ℕ) (xs : List X) → sum_n (λ x. k * f x) xs ≡ k * sum_n f xs
sum_n_times k f [] = omega arith
sum_n_times k f (x ∷ xs) = let ih = sum_n_times k f xs in omega arith

-- what bounds every element by a rate bounds the sum
pub sum_n_share : {X : Type 0} (f : X → ℕ) (a m : ℕ) → ((x : X) → f x * a ≤ m) → (xs : List X) → sum_n f xs * a ≤ length xs * m
sum_n_share f a m h [] = omega arith
sum_n_share f a m h (x ∷ xs) = let ih = sum_n_share f a m h xs in let k = h x in omega arith

-- functions that agree at every element have the same sum
pub sum_n_same : {X : Type 0} (f g : X → ℕ) → ((x : X) → f x ≡ g x) → (xs : List X) → sum_n f xs ≡ sum_n g xs
sum_n_same f g h [] = refl
sum_n_same f g h (x ∷ xs) = let ih = sum_n_same f g h xs in omega (arith, h x)

-- a row that does not count is replaced by another that does not: the sum stays
pub sum_if_foreign : {X : Type 0} (own : X → Bool) (f : X → ℕ) (xs : List X) (i : ℕ) (y d : X) → own (get_or xs i d) ≡ false → own y ≡ false → sum_if own f (set xs i y) ≡ sum_if own f xs
sum_if_foreign own f [] i y d old new = refl
sum_if_foreign own f (x ∷ xs) zero y d old new =
    let before : cond (own x) (f x) 0 ≡ 0 = cond-false (own x) (f x) 0 old in
    let after : cond (own y) (f y) 0 ≡ 0 = cond-false (own y) (f y) 0 new in
    omega arith
sum_if_foreign own f (x ∷ xs) (suc i) y d old new = let ih = sum_if_foreign own f xs i y d old new in omega arith
