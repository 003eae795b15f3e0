-- What a granted event of a company says of the company.
use Rattle.std.proofs.Common.{◌≡◌, ◌≢◌, ℕ, eqb, ltb, Some, None, Ok, Option, sym, ap, ◌∙◌, get_or-set_same, get_or-set_other}
use Rattle.units.specs.Refusals.{refused_at}
use Rattle.units.proofs.Granted.{when_granted, found_granted, next_granted, at_granted, within}
use Rattle.company.specs.declared.record.Company.{Company}
use Rattle.company.specs.declared.record.Event.{Event}
use Rattle.company.specs.Events.{act_answer, act_after, company_after}
use Rattle.orders.specs.declared.register.Register.{Register}
use Rattle.orders.specs.Registers.{Companies, company_at, after_event, deciding, with_company}

-- at the place that was found stood a company c; it answered d.1 to the event, and d.0 is what it is after it
pub record GrantedEvent (place : Option Company) (e : Event) (d : Company × ℕ) : Type 0 where
  pub c : Company
  pub stood : place ≡ Some c
  pub answer : act_answer c e ≡ Ok d.1
  pub after : d.0 ≡ company_after c e (Ok d.1)

answered : (c : Company) (place : ℕ) (e : Event) (d : Company × ℕ) → after_event c place e ≡ Ok d → (act_answer c e ≡ Ok d.1) × (d.0 ≡ company_after c e (Ok d.1))
answered c place e d granted =
    let n = next_granted (refused_at place (act_answer c e)) (λ k. Ok (act_after c e, k)) d granted in
    let d_is : (act_after c e, n.0) ≡ d = cc in
    let answer : act_answer c e ≡ Ok d.1 = at_granted place (act_answer c e) n.0 n.1 ∙ ap (λ (x : Company × ℕ). Ok x.1) d_is in
    (answer, ap (λ (x : Company × ℕ). x.0) (sym d_is) ∙ ap (company_after c e) answer)

pub event_granted : (companies : Companies) (own number place : ℕ) (e : Event) (d : Company × ℕ) → deciding companies own number place e ≡ Ok d → GrantedEvent (company_at companies place) e d
event_granted companies own number place e d granted =
    let in_table = when_granted (ltb place 16) _ _ _ d granted in
    let company = found_granted (company_at companies place) _ _ d in_table.1 in
    let its = when_granted (eqb number own) _ _ _ d company.2 in
    let a = answered company.0 place e d its.1 in
    record { c = company.0; stood = company.1; answer = a.0; after = a.1 }

-- a company that is put in the place of one stands there, and the others stay
pub company_put : (r : Register) (place : ℕ) (c new : Company) → company_at r.companies place ≡ Some c → company_at (with_company r place new).companies place ≡ Some new
company_put r place c new stood = get_or-set_same r.companies place (Some new) None (within r.companies place c stood)

pub others_put : (r : Register) (place : ℕ) (new : Company) (other : ℕ) → other ≢ place → company_at (with_company r place new).companies other ≡ company_at r.companies other
others_put r place new other not = get_or-set_other r.companies place other (Some new) None not
