-- That no journal holds more than its room, nor more than 1,048,576 entries: no definition, only the facts that the journals' ghost members cite.
use Rattle.std.specs.Prelude.{ℕ, ◌≤◌, min, List, length, take}
use Rattle.std.proofs.Common.{arith, length-take}

pub taken_bounded : {A : Type 0} (n capacity : ℕ) (xs : List A) → n ≤ capacity → length (take n xs) ≤ capacity
taken_bounded n capacity xs h = omega (arith, length-take n xs)

pub capacity_small : (n : ℕ) → min n 1048576 ≤ 1048576
capacity_small n = omega arith
