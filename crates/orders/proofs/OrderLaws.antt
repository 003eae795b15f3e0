-- How many orders of a company are out, before and after each event, and for which instalment.
use Rattle.std.proofs.Common.{◌≡◌, ℕ, ◌+◌, Bool, true, false, cond, eqb, ltb, Ok, Err, Result, refl, ap, ◌∙◌}
use Rattle.std.proofs.lemmas.Bool.{eqb-true}
use Rattle.units.specs.declared.refusal.Reason.{Reason}
use Rattle.units.specs.declared.refusal.Reason.TheVariants.{AllPaid}
use Rattle.company.specs.declared.record.Company.{Company}
use Rattle.company.specs.declared.record.Event.{Event}
use Rattle.company.specs.declared.record.Event.TheVariants.{File, Enrol, Bill, Draw, Cancel, Send, Confirm, Bounce}
use Rattle.company.specs.declared.record.Phase.{Phase}
use Rattle.company.specs.declared.record.Phase.TheVariants.{Free, Drawn, Sent, Closed}
use Rattle.company.specs.Events.{draw_answer, drawn_for, sent_for, order_answer, act_answer, act_after, company_after, phase_after}
use Rattle.orders.specs.Laws.{outs, OrderLaws}

after : (c : Company) (e : Event) (k : ℕ) → act_answer c e ≡ Ok k → (act_after c e).phase ≡ phase_after c.phase e k
after c e k granted = ap (λ (r : Result ℕ Reason). (company_after c e r).phase) granted

outs_after : (c : Company) (e : Event) (k : ℕ) → act_answer c e ≡ Ok k → outs (act_after c e).phase ≡ outs (phase_after c.phase e k)
outs_after c e k granted = ap outs (after c e k granted)

none_out : (p : Phase) (paid n k : ℕ) → draw_answer p paid n ≡ Ok k → outs p ≡ 0
none_out Free paid n k granted = refl
none_out (Drawn j) paid n k granted = cc
none_out (Sent j) paid n k granted = cc
none_out Closed paid n k granted = refl

lowest : (some : Bool) (paid k : ℕ) → cond some (Ok (paid + 1)) (Err AllPaid) ≡ Ok k → k ≡ paid + 1
lowest true paid k granted = cc
lowest false paid k granted = cc

lowest_unpaid : (p : Phase) (paid n k : ℕ) → draw_answer p paid n ≡ Ok k → k ≡ paid + 1
lowest_unpaid Free paid n k granted = lowest (ltb paid n) paid k granted
lowest_unpaid (Drawn j) paid n k granted = cc
lowest_unpaid (Sent j) paid n k granted = cc
lowest_unpaid Closed paid n k granted = cc

this_order : (out : Bool) (j k : ℕ) → order_answer out j ≡ Ok k → (out ≡ true) × (j ≡ k)
this_order true j k granted = (refl, cc)
this_order false j k granted = cc

drawn : (p : Phase) (j k : ℕ) → order_answer (drawn_for p j) j ≡ Ok k → (j ≡ k) × (p ≡ Drawn k)
drawn Free j k granted = cc
drawn (Drawn i) j k granted =
    let this = this_order (eqb i j) j k granted in (this.1, ap Drawn (eqb-true i j this.0 ∙ this.1))
drawn (Sent i) j k granted = cc
drawn Closed j k granted = cc

sent : (p : Phase) (j k : ℕ) → order_answer (sent_for p j) j ≡ Ok k → (j ≡ k) × (p ≡ Sent k)
sent Free j k granted = cc
sent (Drawn i) j k granted = cc
sent (Sent i) j k granted =
    let this = this_order (eqb i j) j k granted in (this.1, ap Sent (eqb-true i j this.0 ∙ this.1))
sent Closed j k granted = cc

pub order_laws : OrderLaws
order_laws =
    record {
      drawing = λ c k granted. (none_out c.phase c.paid c.terms.figures.instalments k granted, outs_after c Draw k granted);
      cancelling = λ c j k granted. (ap outs (drawn c.phase j k granted).1, outs_after c (Cancel j) k granted);
      sending = λ c j k granted. (ap outs (drawn c.phase j k granted).1, outs_after c (Send j) k granted);
      confirming = λ c j k granted. (ap outs (sent c.phase j k granted).1, outs_after c (Confirm j) k granted);
      bouncing = λ c j k granted. (ap outs (sent c.phase j k granted).1, outs_after c (Bounce j) k granted);
      filing = λ c k granted. outs_after c File k granted;
      enrolling = λ c k granted. outs_after c Enrol k granted;
      billing = λ c k granted. outs_after c Bill k granted;
      closed = λ c closed. ap outs closed;
      drawn = λ c k granted. (lowest_unpaid c.phase c.paid c.terms.figures.instalments k granted, after c Draw k granted);
      cancelled = λ c j k granted. drawn c.phase j k granted;
      sent = λ c j k granted. drawn c.phase j k granted;
      confirmed = λ c j k granted. sent c.phase j k granted;
      bounced = λ c j k granted. sent c.phase j k granted;
    }
