use Rattle.std.proofs.Common.{◌≡◌, ◌≢◌, ℕ, ◌<◌, ◌≤◌, IsTrue, slice_index}
use Rattle.orders.specs.ClosedLists.{closed_at}
use Rattle.orders.proofs.register.Register.list_closed.Given as goal

-- the first places name the closed companies before the one that is looked at
abbrev pub invariant-loop-place : goal.invariant-loop-place
invariant-loop-place l = record {
  closed : (k : ℕ) → k < l.count → IsTrue (closed_at l.self.companies (slice_index l.list k));
  earlier : (k : ℕ) → k < l.count → slice_index l.list k < l.place;
  once : (j k : ℕ) → j < k → k < l.count → slice_index l.list j ≢ slice_index l.list k;
  every : (company : ℕ) → company < l.place → IsTrue (closed_at l.self.companies company) → (k : ℕ) × (k < l.count) × (slice_index l.list k ≡ company);
  few : l.count ≤ l.place;
  others : (k : ℕ) → l.count ≤ k → slice_index l.list k ≡ slice_index l.initial.list k;
}
