-- What a history books: the entries of its granted bills, confirmings and closings. No other call leaves an entry, and no refused one does.
use Rattle.std.specs.Prelude.{ℕ, List, [], ◌∷◌, ◌++◌, pos, Some, None, Ok, Err, Option, Result}
use Rattle.units.specs.declared.amounts.Cents.{Cents}
use Rattle.units.specs.declared.refusal.Refusal.{Refusal}
use Rattle.journal.specs.declared.entry.Entry.{Entry}
use Rattle.journal.specs.declared.entry.Kind.{Kind}
use Rattle.journal.specs.declared.entry.Kind.TheVariants as kind
use Rattle.tariff.specs.declared.bill.Bill.{Bill as BillAnswer}
use Rattle.tariff.specs.declared.supply.Change.{Change}
use Rattle.tables.specs.declared.rows.LocalityRow.{LocalityRow}
use Rattle.tables.specs.Blank.{no_locality}
use Rattle.calls.specs.declared.call.Call.{Call}
use Rattle.calls.specs.declared.call.Call.TheVariants.{Bill, Confirm, Close}
use Rattle.calls.specs.declared.enrolling.Enrolment.{Enrolment}
use Rattle.booklaws.specs.declared.answer.Granted.{Granted}
use Rattle.booklaws.specs.declared.answer.Granted.TheVariants.{Billed, Paid, Closed}
use Rattle.yearly.specs.Histories.{History, filing_of, enrolment_of}

-- ---- Whose a point is

-- the figures of a locality: its latest granted filing
abbrev pub locality_in : Option LocalityRow → LocalityRow
locality_in (Some row) = row
locality_in None = no_locality

-- the locality in which a point was enrolled, as filed
abbrev pub locality_enrolled : List LocalityRow → History → Option Enrolment → LocalityRow
locality_enrolled filings h (Some e) = locality_in (filing_of filings h e.locality)
locality_enrolled filings h None = no_locality

-- the company of a point is that of this locality
abbrev pub company_of : List LocalityRow → History → (point : ℕ) → ℕ
company_of filings h point = (locality_enrolled filings h (enrolment_of h point)).company

-- ---- The entry of a call

abbrev pub no_cents : Cents
no_cents = record { 0 = pos 0 }

-- a bill: the changes that the call brought, and what it answered that lines 1 to 4, line 6 and line 5 gained
abbrev pub booked_bill : (company point : ℕ) → Change → BillAnswer → Entry
booked_bill company point change b =
    record { kind = kind.Bill; company = company; place = point; volume = change.volume; days = change.days; amount = b.charge.tariff; ug1 = b.charge.ug1; other = b.charge.gs }

-- what is paid to a company: an advance has the number of its instalment as place, a balance has none, and neither changes a point
abbrev pub booked_payment : Kind → (company place : ℕ) → Cents → Entry
booked_payment kind company place amount =
    record { kind = kind; company = company; place = place; volume = pos 0; days = pos 0; amount = amount; ug1 = no_cents; other = no_cents }

-- the entry of a call that was granted so, after an earlier history; most calls have none
abbrev pub entry_of : List LocalityRow → History → Call → Granted → List Entry
entry_of filings h (Bill point change) (Billed b) = booked_bill (company_of filings h point) point change b ∷ []
entry_of filings h (Confirm o) (Paid amount) = booked_payment kind.Advance o.company o.instalment amount ∷ []
entry_of filings h (Close company) (Closed amount) = booked_payment kind.Balance company 0 amount ∷ []
entry_of filings h call granted = []

-- a refused call has none
abbrev pub entry_booked : List LocalityRow → History → Call → Result Granted Refusal → List Entry
entry_booked filings h call (Ok granted) = entry_of filings h call granted
entry_booked filings h call (Err refused) = []

-- the entries of a whole history, the first call's first
abbrev pub entries_booked : List LocalityRow → History → List Entry
entries_booked filings [] = []
entries_booked filings (told ∷ h) = entries_booked filings h ++ entry_booked filings h told.0 told.1
