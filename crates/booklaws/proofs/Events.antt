-- What a granted event says of a company of an open book, and what it does to the account.
use Rattle.std.proofs.Common.{◌≡◌, ◌≢◌, ℕ, ◌+ℤ◌, List, Some, None, Ok, Option, refl, ap, arith}
use borrow.Author.Differences.{ints}
use Rattle.units.proofs.Granted.{within}
use Rattle.rounding.proofs.SumLaws.{sum_z_set}
use Rattle.tables.specs.declared.rows.PointRow.{PointRow}
use Rattle.company.specs.declared.record.Company.{Company}
use Rattle.company.specs.declared.record.Event.{Event}
use Rattle.orders.specs.Orders.{decision}
use Rattle.orders.proofs.Events as register
use Rattle.orders.proofs.Events.{GrantedEvent}
use Rattle.opened.specs.declared.record.Opened.{Opened}
use Rattle.booklaws.specs.States.{BookState, when_open, with_opened, put}
use Rattle.booklaws.specs.Laws.{company_in, account_in}
use Rattle.opened.specs.Figures.{paid_out}

pub event_granted : (opened : Option Opened) (number place : ℕ) (e : Event) (d : Company × ℕ) → when_open opened (λ o. decision o.register number place e) ≡ Ok d → GrantedEvent (company_in opened place) e d
event_granted None number place e d granted = cc
event_granted (Some o) number place e d granted = register.event_granted o.register.companies o.register.number number place e d granted

-- the account after another company is put at the place of one
pub account_put : (opened : Option Opened) (place : ℕ) (c new : Company) (points : List PointRow) → company_in opened place ≡ Some c → account_in (put opened place new) points +ℤ paid_out (Some new) ≡ account_in opened points +ℤ paid_out (Some c)
account_put None place c new points stood = cc
account_put (Some o) place c new points stood =
    let replaced = sum_z_set paid_out o.register.companies place (Some new) None (within o.register.companies place c stood) in
    let old = ap paid_out stood in
    omega (arith, ints, replaced, old)

-- a company that is put in the place of one stands there
pub company_put : (opened : Option Opened) (place : ℕ) (c new : Company) → company_in opened place ≡ Some c → company_in (put opened place new) place ≡ Some new
company_put None place c new stood = cc
company_put (Some o) place c new stood = register.company_put o.register place c new stood

-- and the others stay
pub others_put : (opened : Option Opened) (place : ℕ) (new : Company) (other : ℕ) → other ≢ place → company_in (put opened place new) other ≡ company_in opened other
others_put None place new other not = refl
others_put (Some o) place new other not = register.others_put o.register place new other not

-- what is known to be on record can be written out
pub on_record : (b : BookState) (o : Opened) → b.opened ≡ Some o → b ≡ with_opened b (Some o)
on_record b o opened = ap (with_opened b) opened
