-- What each event meets at a company, and what it makes of it.
use Rattle.std.specs.Prelude.{ℕ, ◌+◌, Bool, false, cond, ℤ, pos, Ok, Err, Result, ◌==◌, nat_lt}
use Rattle.units.specs.declared.refusal.Reason.{Reason}
use Rattle.units.specs.declared.refusal.Reason.TheVariants.{CompanyClosed, CompanyOpen, OrderOut, AllPaid, NotTheOrderOut}
use Rattle.company.specs.declared.record.Company.{Company}
use Rattle.company.specs.declared.record.Event.{Event}
use Rattle.company.specs.declared.record.Event.TheVariants.{File, Enrol, Bill, Draw, Cancel, Send, Confirm, Bounce, Close, Reopen}
use Rattle.company.specs.declared.record.Phase.{Phase}
use Rattle.company.specs.declared.record.Phase.TheVariants.{Free, Drawn, Sent, Closed}
use Rattle.company.specs.declared.terms.Terms.{Terms}
use Rattle.company.specs.Instalments.{paid_up_to}

-- open, with no instalment paid, no order out and no balance booked
abbrev pub new_company : Terms → Company
new_company terms = record { terms = terms; paid = 0; phase = Free; balances = pos 0 }

-- a closed company refuses by 9
abbrev pub while_open : Phase → Result ℕ Reason → Result ℕ Reason
while_open Free answer = answer
while_open (Drawn j) answer = answer
while_open (Sent j) answer = answer
while_open Closed answer = Err CompanyClosed

-- drawing is for the instalment after those that are paid: 11 while an order is out, 12 where all n are paid
abbrev pub draw_answer : Phase → (paid n : ℕ) → Result ℕ Reason
draw_answer Free paid n = cond (nat_lt paid n) (Ok (paid + 1)) (Err AllPaid)
draw_answer (Drawn j) paid n = Err OrderOut
draw_answer (Sent j) paid n = Err OrderOut
draw_answer Closed paid n = Err CompanyClosed

-- closing: 11 while an order is out
abbrev pub close_answer : Phase → Result ℕ Reason
close_answer Free = Ok 0
close_answer (Drawn j) = Err OrderOut
close_answer (Sent j) = Err OrderOut
close_answer Closed = Err CompanyClosed

-- reopening: 10 for a company that is open
abbrev pub reopen_answer : Phase → Result ℕ Reason
reopen_answer Closed = Ok 0
reopen_answer other = Err CompanyOpen

-- an order for instalment k is out and drawn
abbrev pub drawn_for : Phase → ℕ → Bool
drawn_for Free k = false
drawn_for (Drawn j) k = j == k
drawn_for (Sent j) k = false
drawn_for Closed k = false

-- an order for instalment k is out and sent
abbrev pub sent_for : Phase → ℕ → Bool
sent_for Free k = false
sent_for (Drawn j) k = false
sent_for (Sent j) k = j == k
sent_for Closed k = false

-- any other order than the one that is out, in its stage, is refused by 13
abbrev pub order_answer : Bool → ℕ → Result ℕ Reason
order_answer out k = cond out (Ok k) (Err NotTheOrderOut)

-- what an event is answered: the instalment that it is about, 0 where it is about none
abbrev pub act_answer : Company → Event → Result ℕ Reason
act_answer c File = while_open c.phase (Ok 0)
act_answer c Enrol = while_open c.phase (Ok 0)
act_answer c Bill = while_open c.phase (Ok 0)
act_answer c Draw = draw_answer c.phase c.paid c.terms.figures.instalments
act_answer c (Cancel k) = order_answer (drawn_for c.phase k) k
act_answer c (Send k) = order_answer (drawn_for c.phase k) k
act_answer c (Confirm k) = order_answer (sent_for c.phase k) k
act_answer c (Bounce k) = order_answer (sent_for c.phase k) k
act_answer c Close = close_answer c.phase
act_answer c Reopen = reopen_answer c.phase

-- how the company stands after a granted event that is about instalment k
abbrev pub phase_after : Phase → Event → (k : ℕ) → Phase
phase_after p File k = p
phase_after p Enrol k = p
phase_after p Bill k = p
phase_after p Draw k = Drawn k
phase_after p (Cancel j) k = Free
phase_after p (Send j) k = Sent k
phase_after p (Confirm j) k = Free
phase_after p (Bounce j) k = Free
phase_after p Close k = Closed
phase_after p Reopen k = Free

-- how many instalments are paid then: confirming pays, and nothing else does
abbrev pub paid_after : (paid : ℕ) → Event → (k : ℕ) → ℕ
paid_after paid File k = paid
paid_after paid Enrol k = paid
paid_after paid Bill k = paid
paid_after paid Draw k = paid
paid_after paid (Cancel j) k = paid
paid_after paid (Send j) k = paid
paid_after paid (Confirm j) k = k
paid_after paid (Bounce j) k = paid
paid_after paid Close k = paid
paid_after paid Reopen k = paid

-- the record after an event that was answered so: a refused one moves nothing
abbrev pub company_after : Company → Event → Result ℕ Reason → Company
company_after c e (Ok k) = record { terms = c.terms; paid = paid_after c.paid e k; phase = phase_after c.phase e k; balances = c.balances }
company_after c e (Err refused) = c

abbrev pub act_after : Company → Event → Company
act_after c e = company_after c e (act_answer c e)

-- a company's advances: the instalments that are paid
abbrev pub advances : Company → ℤ
advances c = paid_up_to c.terms.figures.advance c.terms.figures.instalments c.paid
