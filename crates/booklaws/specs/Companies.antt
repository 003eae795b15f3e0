-- What registering a company and the events of its orders meet in a book, and what they leave.
use Rattle.std.specs.Prelude.{ℕ, Some, None, Option, Result}
use Rattle.units.specs.declared.amounts.Cents.{Cents}
use Rattle.units.specs.declared.refusal.Refusal.{Refusal}
use Rattle.company.specs.declared.figures.TermsFigures.{TermsFigures}
use Rattle.company.specs.declared.record.Company.{Company}
use Rattle.company.specs.declared.record.Event.{Event}
use Rattle.company.specs.declared.record.Event.TheVariants.{Draw, Cancel, Send, Confirm, Bounce}
use Rattle.company.specs.declared.terms.Terms.{Terms}
use Rattle.orders.specs.declared.order.Order.{Order}
use Rattle.orders.specs.declared.order.DrawnOrder.{DrawnOrder}
use Rattle.orders.specs.declared.order.SentOrder.{SentOrder}
use Rattle.orders.specs.declared.order.Returned.{Returned}
use Rattle.orders.specs.Registers.{registering, registered_by}
use Rattle.orders.specs.Orders.{decision, register_after, order_drawn, spends}
use Rattle.orders.specs.Payments.{amount_paid, entries_paid}
use Rattle.opened.specs.declared.record.Opened.{Opened}
use Rattle.booklaws.specs.States.{BookState, when_open, in_room, with_opened, altered}

-- registering a company
abbrev pub register_answer : BookState → (company : ℕ) → TermsFigures → Result Terms Refusal
register_answer b company figures = when_open b.opened (λ o. registering o.register.companies company figures)

abbrev pub book_with_terms : BookState → (company : ℕ) → Result Terms Refusal → BookState
book_with_terms b company answer = with_opened b (altered b.opened (λ r. registered_by r company answer))

abbrev pub after_register : BookState → (company : ℕ) → TermsFigures → BookState
after_register b company figures = book_with_terms b company (register_answer b company figures)

-- the number of a book that is open
abbrev pub number_of : Option Opened → ℕ
number_of None = 0
number_of (Some o) = o.register.number

-- what an event of an order meets: the company after it, and the instalment
abbrev pub decided : BookState → (number company : ℕ) → Event → Result (Company × ℕ) Refusal
decided b number company event = when_open b.opened (λ o. decision o.register number company event)

abbrev pub draw_decision : BookState → (company : ℕ) → Result (Company × ℕ) Refusal
draw_decision b company = decided b (number_of b.opened) company Draw

abbrev pub cancel_decision : BookState → Order → Result (Company × ℕ) Refusal
cancel_decision b o = decided b o.book o.company (Cancel o.instalment)

abbrev pub send_decision : BookState → Order → Result (Company × ℕ) Refusal
send_decision b o = decided b o.book o.company (Send o.instalment)

abbrev pub bounce_decision : BookState → Order → Result (Company × ℕ) Refusal
bounce_decision b o = decided b o.book o.company (Bounce o.instalment)

-- confirming books an advance, so that it needs room
abbrev pub confirm_decision : BookState → Order → Result (Company × ℕ) Refusal
confirm_decision b o = in_room b (decided b o.book o.company (Confirm o.instalment))

-- a granted event leaves its company moved, and a refused one leaves the book
abbrev pub book_after_event : BookState → (company : ℕ) → Result (Company × ℕ) Refusal → BookState
book_after_event b company answer = with_opened b (altered b.opened (λ r. register_after r company answer))

-- a granted confirming also books its instalment as an advance
abbrev pub confirmed_by : BookState → (company : ℕ) → Result (Company × ℕ) Refusal → BookState
confirmed_by b company answer =
    record {
      opened = altered b.opened (λ r. register_after r company answer);
      entries = entries_paid b.entries company answer;
      capacity = b.capacity;
      price = b.price;
    }

-- what each call on an order is answered, and the book after it
abbrev pub draw_answer : BookState → (company : ℕ) → Result DrawnOrder Refusal
draw_answer b company = order_drawn (number_of b.opened) company (draw_decision b company)

abbrev pub cancel_answer : BookState → DrawnOrder → Result (Unit {0}) (Returned DrawnOrder)
cancel_answer b d = spends d (λ moved. tt) (cancel_decision b d.order)

abbrev pub send_answer : BookState → DrawnOrder → Result SentOrder (Returned DrawnOrder)
send_answer b d = spends d (λ moved. record { order = d.order }) (send_decision b d.order)

abbrev pub bounce_answer : BookState → SentOrder → Result (Unit {0}) (Returned SentOrder)
bounce_answer b s = spends s (λ moved. tt) (bounce_decision b s.order)

abbrev pub confirm_answer : BookState → SentOrder → Result Cents (Returned SentOrder)
confirm_answer b s = spends s amount_paid (confirm_decision b s.order)

abbrev pub after_draw : BookState → (company : ℕ) → BookState
after_draw b company = book_after_event b company (draw_decision b company)

abbrev pub after_cancel : BookState → Order → BookState
after_cancel b o = book_after_event b o.company (cancel_decision b o)

abbrev pub after_send : BookState → Order → BookState
after_send b o = book_after_event b o.company (send_decision b o)

abbrev pub after_bounce : BookState → Order → BookState
after_bounce b o = book_after_event b o.company (bounce_decision b o)

abbrev pub after_confirm : BookState → Order → BookState
after_confirm b o = confirmed_by b o.company (confirm_decision b o)
