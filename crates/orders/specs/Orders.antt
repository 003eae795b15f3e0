-- What the calls on orders meet, and what they leave in the register.
use Rattle.std.specs.Prelude.{ℕ, List, ℤ, Ok, Err, Result}
use Rattle.units.specs.declared.refusal.Refusal.{Refusal}
use Rattle.units.specs.Steps.{next}
use Rattle.journal.specs.declared.entry.Entry.{Entry}
use Rattle.journal.specs.Appending.{append_answer}
use Rattle.company.specs.declared.record.Company.{Company}
use Rattle.company.specs.declared.record.Event.{Event}
use Rattle.company.specs.declared.record.Event.TheVariants.{Draw, Close, Confirm, Reopen}
use Rattle.orders.specs.declared.order.Order.{Order}
use Rattle.orders.specs.declared.order.DrawnOrder.{DrawnOrder}
use Rattle.orders.specs.declared.order.Returned.{Returned}
use Rattle.orders.specs.declared.register.Register.{Register}
use Rattle.orders.specs.Registers.{deciding, with_company}

-- what an event meets at a place of the register: the company after it, and the instalment that it is about
abbrev pub decision : Register → (number company : ℕ) → Event → Result (Company × ℕ) Refusal
decision r number company event = deciding r.companies r.number number company event

-- drawing and reopening name no order, and cannot name another book
abbrev pub draw_decision : Register → (company : ℕ) → Result (Company × ℕ) Refusal
draw_decision r company = decision r r.number company Draw

abbrev pub reopen_decision : Register → (company : ℕ) → Result (Company × ℕ) Refusal
reopen_decision r company = decision r r.number company Reopen

-- what is done with an order, which names its book, its company and its instalment
abbrev pub order_decision : Register → (ℕ → Event) → Order → Result (Company × ℕ) Refusal
order_decision r event o = decision r o.book o.company (event o.instalment)

-- confirming books an advance, so that it needs room in the journal: 16 after all else
abbrev pub confirm_decision : Register → (capacity : ℕ) → List Entry → Order → Result (Company × ℕ) Refusal
confirm_decision r capacity es o = next (order_decision r Confirm o) (λ d. next (append_answer capacity es) (λ _. Ok d))

-- a granted event leaves its company moved, and a refused one leaves the register
abbrev pub register_after : Register → (company : ℕ) → Result (Company × ℕ) Refusal → Register
register_after r company (Ok d) = with_company r company d.0
register_after r company (Err refused) = r

-- a closed company's balances come to a settlement
abbrev pub settled : Company → ℤ → Company
settled c z = record { terms = c.terms; paid = c.paid; phase = c.phase; balances = z }

-- closing moves the company too, and settles it
abbrev pub close_decision : Register → (company : ℕ) → Result (Company × ℕ) Refusal
close_decision r company = decision r r.number company Close

abbrev pub register_settled : Register → (company : ℕ) → ℤ → Result (Company × ℕ) Refusal → Register
register_settled r company z (Ok d) = with_company r company (settled d.0 z)
register_settled r company z (Err refused) = r

-- drawing hands an order out: of this book, for the company, and for the instalment that was answered
abbrev pub order_for : (number company : ℕ) → Company × ℕ → Order
order_for number company d = record { book = number; company = company; instalment = d.1 }

abbrev pub order_drawn : (number company : ℕ) → Result (Company × ℕ) Refusal → Result DrawnOrder Refusal
order_drawn number company answer = next answer (λ d. Ok (record { order = order_for number company d }))

-- a call that refuses an order hands the same one back
abbrev pub spends : {O X Y : Type 0} → O → (X → Y) → Result X Refusal → Result Y (Returned O)
spends o gives (Ok x) = Ok (gives x)
spends o gives (Err refused) = Err (record { order = o; refusal = refused })
