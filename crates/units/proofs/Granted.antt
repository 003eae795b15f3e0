-- What it says of the parts of a decision that it is granted.
use Rattle.std.proofs.Common.{◌≡◌, ℕ, zero, suc, ◌<◌, Bool, true, false, List, [], ◌∷◌, length, get_or, Some, None, Ok, Err, Option, Result, refl, arith}
use Rattle.units.specs.declared.refusal.Reason.{Reason}
use Rattle.units.specs.declared.refusal.Refusal.{Refusal}
use Rattle.units.specs.Refusals.{refused_at}
use Rattle.units.specs.Steps.{when, found, next}

pub when_granted : {X : Type 0} (holds : Bool) (reason : Reason) (place : ℕ) (rest : Result X Refusal) (x : X) → when holds reason place rest ≡ Ok x → (holds ≡ true) × (rest ≡ Ok x)
when_granted true reason place rest x granted = (refl, granted)
when_granted false reason place rest x granted = cc

pub found_granted : {A X : Type 0} (there : Option A) (place : ℕ) (rest : A → Result X Refusal) (x : X) → found there place rest ≡ Ok x → (a : A) × (there ≡ Some a) × (rest a ≡ Ok x)
found_granted (Some a) place rest x granted = (a, refl, granted)
found_granted None place rest x granted = cc

pub next_granted : {A X : Type 0} (first : Result A Refusal) (rest : A → Result X Refusal) (x : X) → next first rest ≡ Ok x → (a : A) × (first ≡ Ok a) × (rest a ≡ Ok x)
next_granted (Ok a) rest x granted = (a, refl, granted)
next_granted (Err refused) rest x granted = cc

pub at_granted : {X : Type 0} (place : ℕ) (answer : Result X Reason) (x : X) → refused_at place answer ≡ Ok x → answer ≡ Ok x
at_granted place (Ok y) x granted = cc
at_granted place (Err reason) x granted = cc

-- a second part that is only asked whether it is granted
pub both_granted : {A X : Type 0} (first : Result X Refusal) (second : Result A Refusal) (x : X) → next first (λ y. next second (λ _. Ok y)) ≡ Ok x → first ≡ Ok x
both_granted (Ok y) (Ok a) x granted = granted
both_granted (Ok y) (Err refused) x granted = cc
both_granted (Err refused) second x granted = cc

pub same : {X : Type 0} (x y : X) → ◌≡◌ {A = Result X Refusal} (Ok x) (Ok y) → x ≡ y
same x y granted = cc

-- what stands at a place stands within the list
pub within : {A : Type 0} (xs : List (Option A)) (place : ℕ) (a : A) → get_or xs place None ≡ Some a → place < length xs
within [] place a there = cc
within (x ∷ xs) zero a there = omega arith
within (x ∷ xs) (suc place) a there = let ih = within xs place a there in omega arith
