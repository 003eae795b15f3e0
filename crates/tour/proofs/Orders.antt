-- What becomes of an order that is sent, and of a book that refuses.
use Rattle.std.proofs.Common.{◌≡◌, ℕ, List, get_or, set, Some, None, Ok, Err, Option, Result, IsOk, arith}
use Rattle.std.proofs.lemmas.Grind.{common_steps}
use Rattle.std.proofs.lemmas.List.{get_or-set_same}
use Rattle.units.specs.declared.amounts.Cents.{Cents}
use Rattle.units.specs.declared.refusal.Refusal.{Refusal}
use Rattle.company.specs.declared.record.Company.{Company}
use Rattle.orders.specs.declared.order.DrawnOrder.{DrawnOrder}
use Rattle.orders.specs.declared.order.SentOrder.{SentOrder}
use Rattle.orders.specs.declared.order.Returned.{Returned}
use Rattle.booklaws.specs.States.{BookState}
use Rattle.orders.specs.Orders.{order_drawn, spends}
use Rattle.booklaws.specs.Companies.{number_of, draw_decision, cancel_decision, send_decision, bounce_decision, book_after_event}
use Rattle.booklaws.specs.Closings.{balance_of, closed_by}
use Rattle.units.proofs.Granted.{within}

replaced : {A : Type 0} (xs : List (Option A)) (place : ℕ) (a b : A) → get_or xs place None ≡ Some a → get_or (set xs place (Some b)) place None ≡ Some b
replaced xs place a b there = get_or-set_same xs place (Some b) None (within xs place a there)

-- a drawn order can be cancelled
pub drawn_cancels : (b after : BookState) (company : ℕ) (drawn : DrawnOrder) → Ok drawn ≡ order_drawn (number_of b.opened) company (draw_decision b company) → after ≡ book_after_event b company (draw_decision b company) → IsOk (cancel_decision after drawn.order)
drawn_cancels b after company drawn answer moves = grind (arith, common_steps, replaced)

-- a sent order can bounce
pub sent_bounces : (b after : BookState) (drawn : DrawnOrder) (sent : SentOrder) → Ok sent ≡ spends drawn (λ d. record { order = drawn.order }) (send_decision b drawn.order) → after ≡ book_after_event b drawn.order.company (send_decision b drawn.order) → IsOk (bounce_decision after sent.order)
sent_bounces b after drawn sent answer moves = grind (arith, common_steps, replaced)

-- a refused order comes back as it was
pub spends_back : {O X Y : Type 0} (o : O) (gives : X → Y) (answer : Result X Refusal) (back : Returned O) → Err back ≡ spends o gives answer → back.order ≡ o
spends_back o gives (Ok x) back refused = cc
spends_back o gives (Err r) back refused = cc

-- a refused closing leaves the book as it was
pub refused_stays : (b after : BookState) (company : ℕ) (closing : Result (Company × Cents) Refusal) (answer : Result Cents Refusal) (r : Refusal) → after ≡ closed_by b company closing → answer ≡ balance_of closing → answer ≡ Err r → after ≡ b
refused_stays b after company (Ok d) answer r closes answers refused = cc
refused_stays b after company (Err x) answer r closes answers refused = cc
