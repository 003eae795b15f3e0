-- What the calls on lent tables meet, and what they leave.
use Rattle.std.specs.Prelude.{ℕ, List, ℤ, Ok, Err, Result}
use Rattle.units.specs.declared.refusal.Refusal.{Refusal}
use Rattle.journal.specs.declared.entry.Entry.{Entry}
use Rattle.journal.specs.declared.entry.Kind.TheVariants.{Bill as BillKind}
use Rattle.tables.specs.declared.rows.LocalityRow.{LocalityRow}
use Rattle.tables.specs.declared.rows.PointRow.{PointRow}
use Rattle.tariff.specs.declared.bill.Bill.{Bill}
use Rattle.tariff.specs.declared.supply.Change.{Change}
use Rattle.calls.specs.declared.billing.Charged.{Charged}
use Rattle.calls.specs.declared.enrolling.Enrolment.{Enrolment}
use Rattle.calls.specs.Decisions as decision
use Rattle.units.specs.Steps.{next}
use Rattle.booklaws.specs.States.{BookState, when_open, in_room, noted}

abbrev pub filing : BookState → List LocalityRow → (place : ℕ) → LocalityRow → Result LocalityRow Refusal
filing b localities place row = when_open b.opened (λ o. decision.filing o.register.companies localities place row)

abbrev pub enrolling : BookState → List LocalityRow → List PointRow → (point : ℕ) → Enrolment → Result PointRow Refusal
enrolling b localities points point e =
    when_open b.opened (λ o. decision.enrolling o.register.companies localities points point e.locality e.class e.domestic)

-- a bill is an entry of the journal, so that it needs room
abbrev pub billing : BookState → List LocalityRow → List PointRow → (point : ℕ) → (volume days : ℤ) → Result Charged Refusal
billing b localities points point volume days =
    in_room b (when_open b.opened (λ o. decision.billing o.tariff.figures o.register.companies localities points point volume days))

-- what a bill answers
abbrev pub bill_of : Result Charged Refusal → Result Bill Refusal
bill_of answer = next answer (λ c. Ok c.bill)

abbrev pub bill_answer : BookState → List LocalityRow → List PointRow → (point : ℕ) → Change → Result Bill Refusal
bill_answer b localities points point change = bill_of (billing b localities points point change.volume change.days)

-- its entry: the changes, lines 1 to 4 charged, and what lines 6 and 5 gained
abbrev pub bill_entry : Charged → (point : ℕ) → (volume days : ℤ) → Entry
bill_entry c point volume days =
    record { kind = BillKind; company = c.company; place = point; volume = volume; days = days; amount = c.bill.charge.tariff; ug1 = c.bill.charge.ug1; other = c.bill.charge.gs }

-- the book after it
abbrev pub billed_by : BookState → (point : ℕ) → (volume days : ℤ) → Result Charged Refusal → BookState
billed_by b point volume days (Ok c) = noted b (bill_entry c point volume days)
billed_by b point volume days (Err refused) = b

abbrev pub after_bill : BookState → List LocalityRow → List PointRow → (point : ℕ) → Change → BookState
after_bill b localities points point change =
    billed_by b point change.volume change.days (billing b localities points point change.volume change.days)
