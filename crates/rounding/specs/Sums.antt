-- What a sum over a list is: of natural numbers, of whole numbers, of exact values.
use Rattle.std.specs.Prelude.{ℕ, ◌+◌, Bool, cond, List, [], ◌∷◌, ℤ, pos, ◌+ℤ◌}
use Rattle.rounding.specs.Frac.{Frac, whole, plus}

abbrev pub sum_n : {X : Type 0} → (X → ℕ) → List X → ℕ
sum_n f [] = 0
sum_n f (x ∷ xs) = f x + sum_n f xs

abbrev pub sum_z : {X : Type 0} → (X → ℤ) → List X → ℤ
sum_z f [] = pos 0
sum_z f (x ∷ xs) = f x +ℤ sum_z f xs

abbrev pub sum_q : {X : Type 0} → (X → Frac) → List X → Frac
sum_q f [] = whole (pos 0)
sum_q f (x ∷ xs) = plus (f x) (sum_q f xs)

-- the sum over those elements that pass a test, how many they are, and the sum of their exact values
abbrev pub sum_if : {X : Type 0} → (X → Bool) → (X → ℕ) → List X → ℕ
sum_if own f xs = sum_n (λ x. cond (own x) (f x) 0) xs

abbrev pub count_if : {X : Type 0} → (X → Bool) → List X → ℕ
count_if own xs = sum_if own (λ x. 1) xs

abbrev pub exact_sum_if : {X : Type 0} → (X → Bool) → (X → Frac) → List X → Frac
exact_sum_if own f xs = sum_q (λ x. cond (own x) (f x) (whole (pos 0))) xs
