-- The laws of orders: how many of a company are out, before and after each event, and for which instalment. What confirming one leaves.
use Rattle.std.specs.Prelude.{◌≡◌, ◌≢◌, ℕ, ◌+◌, List, [], ◌∷◌, ◌++◌, ◌+ℤ◌, Some, Ok}
use Rattle.journal.specs.declared.entry.Entry.{Entry}
use Rattle.company.specs.declared.record.Company.{Company}
use Rattle.company.specs.declared.record.Event.{Event}
use Rattle.company.specs.declared.record.Event.TheVariants.{File, Enrol, Bill, Draw, Cancel, Send, Confirm, Bounce}
use Rattle.company.specs.declared.record.Phase.{Phase}
use Rattle.company.specs.declared.record.Phase.TheVariants.{Free, Drawn, Sent, Closed}
use Rattle.company.specs.Events.{act_answer, act_after, advances}
use Rattle.orders.specs.declared.order.Order.{Order}
use Rattle.orders.specs.declared.register.Register.{Register}
use Rattle.orders.specs.Registers.{company_at}
use Rattle.orders.specs.Orders.{confirm_decision, register_after}
use Rattle.orders.specs.Payments.{amount_paid, advance_entry, entries_paid}

-- how many orders of a company are out
abbrev pub outs : Phase → ℕ
outs Free = 0
outs (Drawn k) = 1
outs (Sent k) = 1
outs Closed = 0

-- where the event is granted, m orders are out before it and n after it
abbrev pub Takes : Company → Event → (m n : ℕ) → Type 0
Takes c e m n = (k : ℕ) → act_answer c e ≡ Ok k → (outs c.phase ≡ m) × (outs (act_after c e).phase ≡ n)

-- where the event is granted, as many orders are out as before
abbrev pub Keeps : Company → Event → Type 0
Keeps c e = (k : ℕ) → act_answer c e ≡ Ok k → outs (act_after c e).phase ≡ outs c.phase

pub record OrderLaws : Type 0 where
  -- a draw brings an order out where none was
  pub drawing : (c : Company) → Takes c Draw 0 1
  -- cancelling it takes it back
  pub cancelling : (c : Company) (j : ℕ) → Takes c (Cancel j) 1 0
  -- a sent order stays out
  pub sending : (c : Company) (j : ℕ) → Takes c (Send j) 1 1
  -- until it is confirmed or bounced
  pub confirming : (c : Company) (j : ℕ) → Takes c (Confirm j) 1 0
  pub bouncing : (c : Company) (j : ℕ) → Takes c (Bounce j) 1 0
  -- no other event brings an order out or back
  pub filing : (c : Company) → Keeps c File
  pub enrolling : (c : Company) → Keeps c Enrol
  pub billing : (c : Company) → Keeps c Bill
  -- no order of a closed company is out
  pub closed : (c : Company) → c.phase ≡ Closed → outs c.phase ≡ 0
  -- a draw is for the instalment after those that are paid, and the order is drawn for it
  pub drawn : (c : Company) (k : ℕ) → act_answer c Draw ≡ Ok k → (k ≡ c.paid + 1) × ((act_after c Draw).phase ≡ Drawn k)
  -- an order that is cancelled or sent was drawn, and for the instalment that is answered
  pub cancelled : (c : Company) (j k : ℕ) → act_answer c (Cancel j) ≡ Ok k → (j ≡ k) × (c.phase ≡ Drawn k)
  pub sent : (c : Company) (j k : ℕ) → act_answer c (Send j) ≡ Ok k → (j ≡ k) × (c.phase ≡ Drawn k)
  -- an order that is confirmed or bounced was sent, and for the instalment that is answered
  pub confirmed : (c : Company) (j k : ℕ) → act_answer c (Confirm j) ≡ Ok k → (j ≡ k) × (c.phase ≡ Sent k)
  pub bounced : (c : Company) (j k : ℕ) → act_answer c (Bounce j) ≡ Ok k → (j ≡ k) × (c.phase ≡ Sent k)

-- ---- Confirming

-- What confirming instalment d.1 leaves, where d.0 is the company at the place after it.
pub record OrderPaid (before after : Register) (old new : List Entry) (place : ℕ) (d : Company × ℕ) : Type 0 where
  -- the journal has one entry more, at its end: the advance, with its number and amount
  pub entries : new ≡ old ++ advance_entry place d.1 (amount_paid d) ∷ []
  -- the company was out with an order for this instalment, which it is then paid, and it has no order out
  pub was : Company
  pub stood : company_at before.companies place ≡ Some was
  pub sent : was.phase ≡ Sent d.1
  pub stands : company_at after.companies place ≡ Some d.0
  pub free : d.0.phase ≡ Free
  pub paid : d.0.paid ≡ d.1
  -- its advances grow by the amount, where the order was for the instalment after those that were paid
  pub advances : d.1 ≡ was.paid + 1 → advances d.0 ≡ advances was +ℤ (amount_paid d).0
  -- its terms and its balances stay, as does every other company
  pub terms : d.0.terms ≡ was.terms
  pub balances : d.0.balances ≡ was.balances
  pub others : (other : ℕ) → other ≢ place → company_at after.companies other ≡ company_at before.companies other
  -- and so does the number of the book
  pub number : after.number ≡ before.number

abbrev pub PaidLaw : Type 0
PaidLaw =
    (r : Register) (capacity : ℕ) (es : List Entry) (o : Order) (d : Company × ℕ) → confirm_decision r capacity es o ≡ Ok d →
    OrderPaid r (register_after r o.company (Ok d)) es (entries_paid es o.company (Ok d)) o.company d
