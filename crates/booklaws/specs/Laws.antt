-- The laws of the book, on which the rules of a whole year rest. They follow from the definitions of what each call meets and leaves.
use Rattle.std.specs.Prelude.{◌≡◌, ◌≢◌, ℕ, ◌+◌, List, [], ◌∷◌, ◌++◌, ℤ, pos, ◌+ℤ◌, ◌-ℤ◌, Some, None, Ok, Option, slice_index_or}
use Rattle.units.specs.declared.amounts.Cents.{Cents}
use Rattle.journal.specs.declared.entry.Entry.{Entry}
use Rattle.journal.specs.declared.entry.Kind.TheVariants as kinds
use Rattle.tariff.specs.declared.figures.TariffFigures.{TariffFigures}
use Rattle.tables.specs.declared.rows.LocalityRow.{LocalityRow}
use Rattle.tables.specs.declared.rows.PointRow.{PointRow}
use Rattle.tables.specs.Blank.{no_point}
use Rattle.revenue.specs.Owners.{point_locality}
use Rattle.revenue.specs.Billed.{point_tariff}
use Rattle.revenue.specs.Ug1.{point_ug1}
use Rattle.revenue.specs.Gs.{point_gs}
use Rattle.company.specs.declared.figures.TermsFigures.{TermsFigures}
use Rattle.company.specs.declared.record.Company.{Company}
use Rattle.company.specs.declared.record.Phase.TheVariants.{Free, Closed}
use Rattle.calls.specs.declared.billing.Charged.{Charged}
use Rattle.calls.specs.declared.call.Call.{Call}
use Rattle.calls.specs.declared.call.Call.TheVariants as call
use Rattle.orders.specs.declared.order.Order.{Order}
use Rattle.calls.specs.declared.call.Question.{Question}
use Rattle.calls.specs.declared.enrolling.Enrolment.{Enrolment}
use Rattle.orders.specs.Registers.{company_at}
use Rattle.opened.specs.declared.record.Opened.{Opened}
use Rattle.booklaws.specs.States.{BookState}
use Rattle.orders.specs.Payments.{amount_paid}
use Rattle.booklaws.specs.Companies.{confirm_decision, confirmed_by}
use Rattle.booklaws.specs.Closings.{close_decision, closed_by}
use Rattle.opened.specs.Figures.{account_of}
use Rattle.booklaws.specs.Questions.{balance_due}
use Rattle.booklaws.specs.Rows.{billing, bill_of, billed_by}
use Rattle.tables.specs.PointRows.{billed_row}
use Rattle.booklaws.specs.Tables.{written}
use Rattle.booklaws.specs.JournalSums.{journal_volume, journal_days, advances_of, payments}
use Rattle.booklaws.specs.Calls.{State, after_call}

-- ---- What the laws speak of

-- the company at a place; none while the book is not open
abbrev pub company_in : Option Opened → (place : ℕ) → Option Company
company_in None place = None
company_in (Some o) place = company_at o.register.companies place

-- the account with these points; 0 while the book is not open
abbrev pub account_in : Option Opened → List PointRow → ℤ
account_in None points = pos 0
account_in (Some o) points = account_of o points

-- whatever the points are, the account with them is less by so much
abbrev pub AccountLoses : (before after : BookState) → ℤ → Type 0
AccountLoses before after amount = (points : List PointRow) → account_in after.opened points ≡ account_in before.opened points -ℤ amount

-- the row of a point, the blank row past the table
abbrev pub row_of : List PointRow → (point : ℕ) → PointRow
row_of points point = slice_index_or points point no_point

-- ---- Confirming

-- What confirming instalment d.1 leaves, where d.0 is the company at the place after it.
pub record Confirmed (before after : BookState) (place : ℕ) (d : Company × ℕ) : Type 0 where
  -- the volume and the days of every point stay
  pub volume : (point : ℕ) → journal_volume after.entries point ≡ journal_volume before.entries point
  pub days : (point : ℕ) → journal_days after.entries point ≡ journal_days before.entries point
  -- the company has one advance more, of this number and amount
  pub advances : advances_of after.entries place ≡ advances_of before.entries place ++ (d.1, amount_paid d) ∷ []
  -- every other company has the advances that it had
  pub other_advances : (other : ℕ) → other ≢ place → advances_of after.entries other ≡ advances_of before.entries other
  -- the amount is one of the payments
  pub payment : payments after.entries ≡ payments before.entries +ℤ (amount_paid d).0
  -- the company d.0 is on record
  pub company : company_in after.opened place ≡ Some d.0
  -- and the instalment is the last one that it is paid
  pub paid : d.0.paid ≡ d.1
  -- the account loses the amount, where the instalment is the next one after those that were paid
  pub account : (c : Company) → company_in before.opened place ≡ Some c → d.1 ≡ c.paid + 1 → AccountLoses before after (amount_paid d).0

abbrev pub ConfirmLaw : Type 0
ConfirmLaw = (b : BookState) (o : Order) (d : Company × ℕ) → confirm_decision b o ≡ Ok d → Confirmed b (confirmed_by b o.company (Ok d)) o.company d

-- ---- The calls that pay and charge nothing

-- A call after which the journal and the account are as they were, where the points were old and are new.
pub record Quiet (before after : BookState) (old new : List PointRow) : Type 0 where
  pub entries : after.entries ≡ before.entries
  pub account : account_in after.opened new ≡ account_in before.opened old

-- that a call is quiet, whether it is granted or refused
abbrev pub QuietCall : (filings : List LocalityRow) → State → Call → Type 0
QuietCall filings s c = Quiet s.book (after_call filings s c).book s.points (after_call filings s c).points

pub record QuietLaws : Type 0 where
  -- a new company is paid nothing, and it takes the place of none
  pub registering : (filings : List LocalityRow) (s : State) (company : ℕ) (terms : TermsFigures) → QuietCall filings s (call.Register company terms)
  -- a filing writes a locality alone, and no account looks at one
  pub filing : (filings : List LocalityRow) (s : State) (locality i : ℕ) → QuietCall filings s (call.File locality i)
  -- a new point is billed nothing, and it takes the place of none
  pub enrolling : (filings : List LocalityRow) (s : State) (point : ℕ) (e : Enrolment) → QuietCall filings s (call.Enrol point e)
  -- an event of an order that is not a confirming pays nothing
  pub drawing : (filings : List LocalityRow) (s : State) (company : ℕ) → QuietCall filings s (call.Draw company)
  pub cancelling : (filings : List LocalityRow) (s : State) (o : Order) → QuietCall filings s (call.Cancel o)
  pub sending : (filings : List LocalityRow) (s : State) (o : Order) → QuietCall filings s (call.Send o)
  pub bouncing : (filings : List LocalityRow) (s : State) (o : Order) → QuietCall filings s (call.Bounce o)
  -- reopening leaves the balances that were booked
  pub reopening : (filings : List LocalityRow) (s : State) (company : ℕ) → QuietCall filings s (call.Reopen company)
  -- a question leaves all as it was: the book, the localities and the points
  pub asking : (filings : List LocalityRow) (s : State) (q : Question) → QuietCall filings s (call.Ask q)
  pub asked : (filings : List LocalityRow) (s : State) (q : Question) → after_call filings s (call.Ask q) ≡ s

-- ---- Bills

-- The entry of a bill that changes a point's volume by dv and its days by dd, where t is the tariff, l the point's locality, and the point's row was
-- old and is new.
pub record BillEntry (t : TariffFigures) (l : LocalityRow) (old new : PointRow) (point : ℕ) (dv dd : ℤ) (e : Entry) : Type 0 where
  -- it is a bill of this point, with these changes
  pub kind : e.kind ≡ kinds.Bill
  pub place : e.place ≡ point
  pub volume : e.volume ≡ dv
  pub days : e.days ≡ dd
  -- it names the company of the locality
  pub company : e.company ≡ l.company
  -- its amount is what lines 1 to 4 of the point gain
  pub amount : e.amount.0 ≡ pos (point_tariff t l new) -ℤ pos (point_tariff t l old)
  -- beside the amount stand what line 6 gains and what line 5 gains
  pub ug1 : e.ug1.0 ≡ pos (point_ug1 t new) -ℤ pos (point_ug1 t old)
  pub other : e.other.0 ≡ pos (point_gs t new) -ℤ pos (point_gs t old)

-- What the bill c of a point leaves, which changes its volume by dv and its days by dd, where o was on record, and the points were old and are new.
pub record Billed (o : Opened) (localities : List LocalityRow) (before after : BookState) (old new : List PointRow) (point : ℕ) (dv dd : ℤ) (c : Charged) : Type 0 where
  -- the journal has one entry more, at its end
  pub entry : Entry
  pub entries : after.entries ≡ before.entries ++ entry ∷ []
  -- this is the point's bill, in the locality in which the point is enrolled
  pub booked : BillEntry o.tariff.figures (point_locality localities (row_of old point)) (row_of old point) (row_of new point) point dv dd entry
  -- and its amounts are those that the bill answers
  pub amount : entry.amount ≡ c.bill.charge.tariff
  pub ug1 : entry.ug1 ≡ c.bill.charge.ug1
  pub other : entry.other ≡ c.bill.charge.gs
  -- the point's volume and days change so, in the journal and in its row
  pub volume : journal_volume after.entries point ≡ journal_volume before.entries point +ℤ dv
  pub days : journal_days after.entries point ≡ journal_days before.entries point +ℤ dd
  pub row_volume : pos (row_of new point).volume ≡ pos (row_of old point).volume +ℤ dv
  pub row_days : pos (row_of new point).days ≡ pos (row_of old point).days +ℤ dd
  -- those of every other point stay, and so does its row
  pub other_volume : (other : ℕ) → other ≢ point → journal_volume after.entries other ≡ journal_volume before.entries other
  pub other_days : (other : ℕ) → other ≢ point → journal_days after.entries other ≡ journal_days before.entries other
  pub other_row : (other : ℕ) → other ≢ point → row_of new other ≡ row_of old other
  -- no company is advanced or paid anything
  pub advances : (company : ℕ) → advances_of after.entries company ≡ advances_of before.entries company
  pub payment : payments after.entries ≡ payments before.entries
  -- what the book has on record beside the journal stays, and the account gains what line 6 does
  pub opened : after.opened ≡ before.opened
  pub account : account_in after.opened new ≡ account_in before.opened old +ℤ c.bill.charge.ug1.0

-- the points after the bill c of one of them
abbrev pub points_billed : List PointRow → (point : ℕ) → Charged → List PointRow
points_billed points point c = written (billed_row (row_of points point)) points point (bill_of (Ok c))

abbrev pub BillLaw : Type 0
BillLaw =
    (b : BookState) (o : Opened) (localities : List LocalityRow) (points : List PointRow) (point : ℕ) (dv dd : ℤ) (c : Charged) →
    b.opened ≡ Some o → billing b localities points point dv dd ≡ Ok c →
    Billed o localities b (billed_by b point dv dd (Ok c)) points (points_billed points point c) point dv dd c

-- ---- Closing

-- The entry of a closing: a balance of the company, with what was due, and 0 in all that a balance lacks.
pub record BalanceEntry (closed : ℕ) (due : Cents) (e : Entry) : Type 0 where
  pub kind : e.kind ≡ kinds.Balance
  pub company : e.company ≡ closed
  pub amount : e.amount ≡ due
  pub place : e.place ≡ 0
  pub volume : e.volume ≡ pos 0
  pub days : e.days ≡ pos 0
  pub ug1 : e.ug1.0 ≡ pos 0
  pub other : e.other.0 ≡ pos 0

-- How a company is before the closing that books what was due, and how it is after it.
pub record CompanyClosed (was is : Company) (due : Cents) : Type 0 where
  -- it was open, with no order out, and it is closed
  pub free : was.phase ≡ Free
  pub closed : is.phase ≡ Closed
  -- its terms and the instalments that it is paid stay
  pub terms : is.terms ≡ was.terms
  pub paid : is.paid ≡ was.paid
  -- its balances are more by what was due
  pub balances : is.balances ≡ was.balances +ℤ due.0

-- What closing the company at a place leaves, where o was on record, and with these tables that balance was due.
pub record YearClosed (localities : List LocalityRow) (points : List PointRow) (o : Opened) (before after : BookState) (place : ℕ) (due : Cents) : Type 0 where
  -- it is the balance that was told as due just before
  pub was_due : balance_due before localities points place ≡ Ok due
  -- the journal has one entry more, at its end: the company's balance
  pub entry : Entry
  pub entries : after.entries ≡ before.entries ++ entry ∷ []
  pub booked : BalanceEntry place due entry
  -- the company is closed
  pub was : Company
  pub stood : company_in before.opened place ≡ Some was
  pub is : Company
  pub stands : company_in after.opened place ≡ Some is
  pub company : CompanyClosed was is due
  -- every other company stays as it was
  pub others : (other : ℕ) → other ≢ place → company_in after.opened other ≡ company_in before.opened other
  -- and so do the tariff table, the book's number and the opening sum
  pub now : Opened
  pub opened : after.opened ≡ Some now
  pub tariff : now.tariff ≡ o.tariff
  pub number : now.register.number ≡ o.register.number
  pub sum : now.sum ≡ o.sum
  -- what was due is one of the payments, and the account loses it
  pub payment : payments after.entries ≡ payments before.entries +ℤ due.0
  pub account : AccountLoses before after due.0
  -- the volume and the days of every point in the journal stay
  pub volume : (point : ℕ) → journal_volume after.entries point ≡ journal_volume before.entries point
  pub days : (point : ℕ) → journal_days after.entries point ≡ journal_days before.entries point
  -- and no company has another advance
  pub advances : (company : ℕ) → advances_of after.entries company ≡ advances_of before.entries company

abbrev pub CloseLaw : Type 0
CloseLaw =
    (b : BookState) (o : Opened) (localities : List LocalityRow) (points : List PointRow) (company : ℕ) (d : Company × Cents) →
    b.opened ≡ Some o → close_decision b localities points company ≡ Ok d →
    YearClosed localities points o b (closed_by b company (Ok d)) company d.1
