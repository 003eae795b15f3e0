-- What closing a company's year and reopening it meet, and what they leave.
use Rattle.std.specs.Prelude.{ℕ, List, pos, Ok, Err, Result}
use Rattle.units.specs.declared.amounts.Cents.{Cents}
use Rattle.units.specs.declared.refusal.Refusal.{Refusal}
use Rattle.journal.specs.declared.entry.Entry.{Entry}
use Rattle.journal.specs.declared.entry.Kind.TheVariants.{Balance}
use Rattle.tables.specs.declared.rows.LocalityRow.{LocalityRow}
use Rattle.tables.specs.declared.rows.PointRow.{PointRow}
use Rattle.company.specs.declared.record.Company.{Company}
use Rattle.company.specs.declared.record.Event.TheVariants.{Reopen}
use Rattle.units.specs.Steps.{next}
use Rattle.booklaws.specs.States.{BookState, when_open, in_room, noted, with_company}
use Rattle.booklaws.specs.Companies.{number_of, decided, book_after_event}
use Rattle.opened.specs.Figures.{closing}

-- closing a company books the balance due, so that it needs room
abbrev pub close_decision : BookState → List LocalityRow → List PointRow → (company : ℕ) → Result (Company × Cents) Refusal
close_decision b localities points company =
    in_room b (when_open b.opened (λ o. closing o b.price localities points company))

-- closing answers the balance
abbrev pub balance_of : Result (Company × Cents) Refusal → Result Cents Refusal
balance_of answer = next answer (λ d. Ok d.1)

abbrev pub close_answer : BookState → List LocalityRow → List PointRow → (company : ℕ) → Result Cents Refusal
close_answer b localities points company = balance_of (close_decision b localities points company)

abbrev pub balance_entry : (company : ℕ) → Cents → Entry
balance_entry company amount =
    record { kind = Balance; company = company; place = 0; volume = pos 0; days = pos 0; amount = amount; ug1 = record { 0 = pos 0 }; other = record { 0 = pos 0 } }

abbrev pub closed_by : BookState → (company : ℕ) → Result (Company × Cents) Refusal → BookState
closed_by b company (Ok d) = with_company (noted b (balance_entry company d.1)) company d.0
closed_by b company (Err refused) = b

abbrev pub after_close : BookState → List LocalityRow → List PointRow → (company : ℕ) → BookState
after_close b localities points company = closed_by b company (close_decision b localities points company)

-- reopening a company: 4, 5, and 10 where it is open
abbrev pub reopen_decision : BookState → (company : ℕ) → Result (Company × ℕ) Refusal
reopen_decision b company = decided b (number_of b.opened) company Reopen

abbrev pub reopen_answer : BookState → (company : ℕ) → Result (Unit {0}) Refusal
reopen_answer b company = next (reopen_decision b company) (λ d. Ok tt)

abbrev pub after_reopen : BookState → (company : ℕ) → BookState
after_reopen b company = book_after_event b company (reopen_decision b company)
