-- The instalments make up the advance.
use Rattle.std.proofs.Common.{◌≡◌, ℕ, zero, suc, ◌+◌, ◌-◌, ◌*◌, ◌≤◌, ℤ, pos, negsuc, ◌*ℤ◌, ap, ◌∙◌, arith}
use native.Mathlib.Nat.{zero-div, mul-div_cancel_left, div-eq_of_lt-le}
use borrow.Author.Differences.{ints}
use Rattle.company.specs.Instalments.{floor, paid_up_to, instalments_to, AddUp}

nothing_times : (a : ℤ) → pos 0 *ℤ a ≡ pos 0
nothing_times (pos x) = omega (arith, ints)
nothing_times (negsuc x) = omega (arith, ints)

pub none_paid : (a : ℤ) (n : ℕ) → paid_up_to a n 0 ≡ pos 0
unfolding paid_up_to
none_paid a n = ap (λ (z : ℤ). floor z n) (nothing_times a) ∙ ap pos (zero-div n)

-- the first k instalments add up to what is paid up to k
pub instalments_are : (a : ℤ) (n k : ℕ) → instalments_to a n k ≡ paid_up_to a n k
instalments_are a n zero = let e = none_paid a n in omega (arith, ints)
instalments_are a n (suc k) =
    let ih = instalments_are a n k in
    let before : suc k - 1 ≡ k = omega arith in
    let e = ap (paid_up_to a n) before in
    omega (arith, ints)

all_paid : (a : ℤ) (n : ℕ) → 1 ≤ n → floor (pos n *ℤ a) n ≡ a
all_paid (pos x) n h = ap pos (mul-div_cancel_left x h)
all_paid (negsuc x) (suc m) h =
    let e : pos (suc m) *ℤ negsuc x ≡ negsuc (suc m * x + m) = omega (arith, ints) in
    ap (λ (z : ℤ). floor z (suc m)) e ∙ ap negsuc (div-eq_of_lt-le (suc m) (omega arith) (omega arith))
all_paid (negsuc x) zero h = absurd (omega arith)

pub add_up : AddUp
unfolding paid_up_to
add_up a n h = instalments_are a n n ∙ all_paid a n h
