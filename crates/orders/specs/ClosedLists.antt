-- Which companies are closed, as a list. It is not said which of them stands at which place.
use Rattle.std.specs.Prelude.{◌≡◌, ◌≢◌, ℕ, ◌<◌, ◌≤◌, Bool, true, false, IsTrue, List, length, slice_index, Some, None, Ok, Err, Option, Result, nat_le}
use Rattle.units.specs.declared.refusal.Reason.TheVariants.{PastTable}
use Rattle.units.specs.declared.refusal.Refusal.{Refusal}
use Rattle.units.specs.Steps.{when}
use Rattle.company.specs.declared.record.Company.{Company}
use Rattle.company.specs.declared.record.Phase.{Phase}
use Rattle.company.specs.declared.record.Phase.TheVariants.{Closed}
use Rattle.orders.specs.Registers.{Companies, company_at}

abbrev pub closed_phase : Phase → Bool
closed_phase Closed = true
closed_phase other = false

abbrev pub is_closed : Option Company → Bool
is_closed None = false
is_closed (Some c) = closed_phase c.phase

-- a company stands at the place, and it is closed
abbrev pub closed_at : Companies → (company : ℕ) → Bool
closed_at companies company = is_closed (company_at companies company)

-- the new list names the n closed companies
pub record Lists (companies : Companies) (old new : List ℕ) (n : ℕ) : Type 0 where
  -- each of the first n places names a closed company
  pub closed : (place : ℕ) → place < n → IsTrue (closed_at companies (slice_index new place))
  -- no two of them name the same
  pub once : (place later : ℕ) → place < later → later < n → slice_index new place ≢ slice_index new later
  -- each closed company is named by one of them
  pub every : (company : ℕ) → IsTrue (closed_at companies company) → (place : ℕ) × (place < n) × (slice_index new place ≡ company)
  -- they are at most sixteen
  pub few : n ≤ 16
  -- the list's length stays
  pub as_long : length new ≡ length old
  -- every place from n on stays
  pub others : (place : ℕ) → n ≤ place → slice_index new place ≡ slice_index old place

-- whether a list can be taken: 4 for one of fewer than sixteen places
abbrev pub listing : List ℕ → Result (Unit {0}) Refusal
listing list = when (nat_le 16 (length list)) PastTable 0 (Ok tt)

-- what the list is then, and what is answered: how many closed companies it names, or the refusal, which writes nothing
abbrev pub Listed : Companies → (old new : List ℕ) → Result ℕ Refusal → Type 0
Listed companies old new (Ok n) = (listing old ≡ Ok tt) × Lists companies old new n
Listed companies old new (Err refused) = (listing old ≡ Err refused) × (new ≡ old)
