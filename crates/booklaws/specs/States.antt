-- What stands in a book, and how a call goes on by it.
use Rattle.std.specs.Prelude.{ℕ, List, [], ◌∷◌, ◌++◌, Some, None, Ok, Err, Option, Result}
use Rattle.units.specs.declared.refusal.Reason.TheVariants.{BookNotOpen}
use Rattle.units.specs.declared.refusal.Refusal.{Refusal}
use Rattle.units.specs.Refusals.{refusal}
use Rattle.journal.specs.declared.entry.Entry.{Entry}
use Rattle.journal.specs.Appending.{append_answer}
use Rattle.company.specs.declared.record.Company.{Company}
use Rattle.units.specs.Steps.{next}
use Rattle.orders.specs.declared.register.Register.{Register}
use Rattle.orders.specs.Registers.{with_company as with_company_at}
use Rattle.opened.specs.declared.record.Opened.{Opened}

-- what an opened book has on record, the journal's entries and capacity, and the price that the management rule means
pub record BookState : Type 0 where
  pub opened : Option Opened
  pub entries : List Entry
  pub capacity : ℕ
  pub price : ℕ → ℕ → ℕ → ℕ

-- a book that is not open refuses by 2, else the rest decides by what is on record
abbrev pub when_open : {X : Type 0} → Option Opened → (Opened → Result X Refusal) → Result X Refusal
when_open None rest = Err (refusal BookNotOpen 0)
when_open (Some o) rest = rest o

-- what is granted while the journal has room: a full one refuses by 16, after all else
abbrev pub in_room : {X : Type 0} → BookState → Result X Refusal → Result X Refusal
in_room b answer = next answer (λ x. next (append_answer b.capacity b.entries) (λ _. Ok x))

-- the book with another record
abbrev pub with_opened : BookState → Option Opened → BookState
with_opened b opened = record { opened = opened; entries = b.entries; capacity = b.capacity; price = b.price }

-- the book with one entry more
abbrev pub noted : BookState → Entry → BookState
noted b e = record { opened = b.opened; entries = b.entries ++ e ∷ []; capacity = b.capacity; price = b.price }

-- the record with another register
abbrev pub with_register : Opened → Register → Opened
with_register o register = record { tariff = o.tariff; sum = o.sum; register = register }

-- what is on record with its register altered
abbrev pub altered : Option Opened → (Register → Register) → Option Opened
altered None alter = None
altered (Some o) alter = Some (with_register o (alter o.register))

-- with a company at a place of it
abbrev pub put : Option Opened → (place : ℕ) → Company → Option Opened
put opened place c = altered opened (λ r. with_company_at r place c)

abbrev pub with_company : BookState → (place : ℕ) → Company → BookState
with_company b place c = with_opened b (put b.opened place c)
