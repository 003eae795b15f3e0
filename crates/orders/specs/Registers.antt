-- The register of a book: who is registered, and what a company is asked for.
use Rattle.std.specs.Prelude.{ℕ, not, List, is_some, replicate, Some, None, Ok, Err, Option, Result, ◌==◌, nat_lt, slice_index_or, slice_set}
use Rattle.units.specs.declared.refusal.Reason.TheVariants.{PastTable, PlaceTaken, NotTheOrderOut}
use Rattle.units.specs.declared.refusal.Refusal.{Refusal}
use Rattle.units.specs.Refusals.{refused_at}
use Rattle.units.specs.Steps.{when, found, next}
use Rattle.company.specs.declared.figures.TermsFigures.{TermsFigures}
use Rattle.company.specs.declared.record.Company.{Company}
use Rattle.company.specs.declared.record.Event.{Event}
use Rattle.company.specs.declared.terms.Terms.{Terms}
use Rattle.company.specs.Events.{act_answer, act_after, new_company}
use Rattle.company.specs.Made.{terms_of}
use Rattle.orders.specs.declared.register.Register.{Register}

-- the sixteen places of companies
abbrev pub Companies : Type 0
Companies = List (Option Company)

abbrev pub company_at : Companies → ℕ → Option Company
company_at companies place = slice_index_or companies place None

-- a place of the sixteen: 4 past the last one
abbrev pub place_in : (place : ℕ) → Result ℕ Refusal
place_in place = when (nat_lt place 16) PastTable place (Ok place)

-- the register of a book with a number, in which no company stands
abbrev pub empty_register : (number : ℕ) → Register
empty_register number = record { number = number; companies = replicate 16 None }

-- the register with a company at a place
abbrev pub with_company : Register → (place : ℕ) → Company → Register
with_company r place c = record { number = r.number; companies = slice_set r.companies place (Some c) }

-- registering a company: 4 past the sixteen, 6 where one is registered, 7 at the first bad figure
abbrev pub registering : Companies → (company : ℕ) → TermsFigures → Result Terms Refusal
registering companies company figures =
    when (nat_lt company 16) PastTable company
    (when (not (is_some (company_at companies company))) PlaceTaken company
    (terms_of figures))

-- a company that registered stands at its place, without an instalment or an order
abbrev pub registered_by : Register → (company : ℕ) → Result Terms Refusal → Register
registered_by r company (Ok terms) = with_company r company (new_company terms)
registered_by r company (Err refused) = r

-- a company after an event, and the instalment that it is about
abbrev pub after_event : Company → (company : ℕ) → Event → Result (Company × ℕ) Refusal
after_event c company event = next (refused_at company (act_answer c event)) (λ k. Ok (act_after c event, k))

-- an event of a company, where the order that it names is of the book with this number: 4 past the sixteen, 5 where none is registered, 13 for
-- another book, then what the company answers
abbrev pub deciding : Companies → (own number company : ℕ) → Event → Result (Company × ℕ) Refusal
deciding companies own number company event =
    when (nat_lt company 16) PastTable company
    (found (company_at companies company) company (λ c.
    when (number == own) NotTheOrderOut company
    (after_event c company event)))

-- the company at a place, for a question: 4 past the sixteen, 5 where none is registered
abbrev pub asked_company : Companies → (company : ℕ) → Result Company Refusal
asked_company companies company =
    when (nat_lt company 16) PastTable company
    (found (company_at companies company) company (λ c. Ok c))
