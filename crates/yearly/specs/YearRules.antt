-- The rules of a year, true after every list of calls. They speak of the opening (its tariff table, its sum, what the management rule
-- means), of the history of granted calls, and of the journal.
use Rattle.std.specs.Prelude.{◌≡◌, ◌≢◌, ℕ, ◌+◌, ◌-◌, ◌*◌, ◌<◌, ◌≤◌, true, List, [], map, ℤ, pos, ◌+ℤ◌, ◌-ℤ◌, is_some, Some, None, Option, unsigned_abs}
use Rattle.std.specs.List.{range_with_len}
use Rattle.rounding.specs.Frac.{Frac, plus, minus}
use Rattle.rounding.specs.Nearness.{Near}
use Rattle.rounding.specs.Sums.{count_if}
use Rattle.journal.specs.declared.entry.Entry.{Entry}
use Rattle.tariff.specs.declared.figures.TariffFigures.{TariffFigures}
use Rattle.tables.specs.declared.rows.LocalityRow.{LocalityRow}
use Rattle.tables.specs.declared.rows.PointRow.{PointRow}
use Rattle.tables.specs.Blank.{no_point}
use Rattle.tables.specs.Filings.{locality_stands}
use Rattle.tables.specs.PointRows.{point_stands}
use Rattle.revenue.specs.Owners.{owns, serves}
use Rattle.revenue.specs.Billed as tables_billed
use Rattle.revenue.specs.Recognised as tables_recognised
use Rattle.revenue.specs.Ug1.{ug1_due}
use Rattle.revenue.specs.Gs.{gs_due}
use Rattle.company.specs.declared.figures.TermsFigures.{TermsFigures}
use Rattle.company.specs.Instalments.{instalment}
use Rattle.calls.specs.declared.enrolling.Enrolment.{Enrolment}
use Rattle.booklaws.specs.JournalSums.{journal_volume, journal_days, Advanced, advances_of, payments, paid_to, charged_to, ug1_booked, gs_booked, entries_of, bills_of}
use Rattle.yearly.specs.Histories.{History, terms_of, filing_of, enrolment_of, closed_in, drawn, confirmed, taken_back}
use Rattle.yearly.specs.Entries.{locality_in, entries_booked}

-- what a year is told by: the opening, the lengths of the lent tables, the list of filings, the history and the journal
pub record Year : Type 0 where
  pub tariff : TariffFigures
  pub sum : ℤ
  pub price : ℕ → ℕ → ℕ → ℕ
  pub point_places : ℕ
  pub locality_places : ℕ
  pub filings : List LocalityRow
  pub history : History
  pub journal : List Entry

-- ---- The tables, by history and journal

abbrev pub filing : Year → (place : ℕ) → Option LocalityRow
filing y place = filing_of y.filings y.history place

abbrev pub locality : Year → (place : ℕ) → LocalityRow
locality y place = locality_in (filing y place)

abbrev pub localities : Year → List LocalityRow
localities y = map (locality y) (range_with_len 0 y.locality_places)

-- a point: its granted enrolment, at its journal volume and days
abbrev pub point_in : Option Enrolment → (volume days : ℤ) → PointRow
point_in (Some e) volume days =
    record { locality = e.locality; class = e.class; domestic = e.domestic; volume = unsigned_abs volume; days = unsigned_abs days }
point_in None volume days = no_point

abbrev pub enrolment : Year → (place : ℕ) → Option Enrolment
enrolment y place = enrolment_of y.history place

abbrev pub point : Year → (place : ℕ) → PointRow
point y place = point_in (enrolment y place) (journal_volume y.journal place) (journal_days y.journal place)

abbrev pub points : Year → List PointRow
points y = map (point y) (range_with_len 0 y.point_places)

-- ---- What a company's year comes to, by these tables

abbrev pub terms : Year → (company : ℕ) → Option TermsFigures
terms y company = terms_of y.history company

-- the operating price of a company, by what the management rule means at its traits
abbrev pub price_of : Year → TermsFigures → ℕ
price_of y f = y.price f.points f.density f.year

-- lines 1 to 4 of its points: the amounts, and exactly
abbrev pub billed : Year → (company : ℕ) → ℕ
billed y company = tables_billed.billed y.tariff (localities y) (points y) company

abbrev pub exact_tariff : Year → (company : ℕ) → Frac
exact_tariff y company = tables_billed.exact_tariff y.tariff (localities y) (points y) company

-- the revenue that is recognised to it with terms f, and exactly
abbrev pub recognised : Year → (company : ℕ) → (f : TermsFigures) → ℕ
recognised y company f =
    tables_recognised.recognised_revenue y.tariff (price_of y f) f.verification f.central (localities y) (points y) company

abbrev pub exact_revenue : Year → (company : ℕ) → (f : TermsFigures) → Frac
exact_revenue y company f =
    tables_recognised.exact_revenue y.tariff (price_of y f) f.verification f.central (localities y) (points y) company

-- what is left of exact revenue after the exact lines
abbrev pub exact_rest : Year → (company : ℕ) → (f : TermsFigures) → Frac
exact_rest y company f = plus (exact_revenue y company f) (minus (exact_tariff y company))

-- how many figures of a company's year are rounded: 12 a locality, 4 for itself and 4 a point
abbrev pub rounded_figures : Year → (company : ℕ) → ℕ
rounded_figures y company = 12 * count_if (owns company) (localities y) + 4 + 4 * count_if (serves (localities y) company) (points y)

-- its advances and balances in the journal
abbrev pub paid : Year → (company : ℕ) → ℤ
paid y company = paid_to y.journal company

-- ---- The closing rule

-- a closed company with these terms
pub record ClosingRule (y : Year) (company : ℕ) (f : TermsFigures) : Type 0 where
  -- to the cent: lines 1 to 4 of its points, its advances and its balances make up its recognised revenue
  pub cents : pos (billed y company) +ℤ paid y company ≡ pos (recognised y company f)
  -- the same by its entries alone: what its bills charged, its advances and its balances
  pub entries : charged_to y.journal company +ℤ paid y company ≡ pos (recognised y company f)
  -- exactly: what is left of its exact revenue after the exact lines is its advances and balances, within half a cent for each rounded figure
  pub exact : Near (exact_rest y company f) (paid y company) (rounded_figures y company)

-- ---- The account rule

pub record AccountRule (y : Year) (account : ℤ) : Type 0 where
  -- the account that is told: the opening sum and the UG1 of every point at its journal volume, less every advance and balance
  pub points : account ≡ y.sum +ℤ pos (ug1_due y.tariff (points y)) -ℤ payments y.journal
  -- the same by the entries alone: the UG1 that they booked
  pub entries : account ≡ y.sum +ℤ ug1_booked y.journal -ℤ payments y.journal

-- ---- The advance rule

-- instalments 1 to k of a company's advance, each with its number
abbrev pub instalments : TermsFigures → (k : ℕ) → List Advanced
instalments f k = map (λ j. (j, record { 0 = instalment f.advance f.instalments j })) (range_with_len 1 k)

pub record AdvanceRule (y : Year) (company : ℕ) (f : TermsFigures) : Type 0 where
  -- its advances are its instalments 1, 2, .., k in order, where k is how often it confirmed one
  pub advances : advances_of y.journal company ≡ instalments f (confirmed y.history company)
  -- of no more instalments than it registered
  pub within : confirmed y.history company ≤ f.instalments
  -- no more than one order is out, and none while it is closed
  pub out : taken_back y.history company ≤ drawn y.history company
  pub one : drawn y.history company - taken_back y.history company ≤ 1
  pub closed : closed_in y.history company ≡ true → drawn y.history company ≡ taken_back y.history company

-- ---- What was charged

pub record ChargedRule (y : Year) : Type 0 where
  -- the bills of a company charged lines 1 to 4 of its points, no cent more or less
  pub lines : (company : ℕ) → charged_to y.journal company ≡ pos (billed y company)
  -- the entries booked the UG1 that is due, and line 5 of every point
  pub ug1 : ug1_booked y.journal ≡ pos (ug1_due y.tariff (points y))
  pub gs : gs_booked y.journal ≡ pos (gs_due y.tariff (points y))

-- ---- Nothing is passed over: the sums over rows that stand are over all that was enrolled or filed

pub record EnrolledRule (y : Year) (place : ℕ) (e : Enrolment) : Type 0 where
  -- an enrolled point has a place in the table, and its row stands
  pub within : place < y.point_places
  pub stands : point_stands (point y place) ≡ true
  -- its locality is filed
  pub filed : is_some (filing y e.locality) ≡ true

pub record FiledRule (y : Year) (place : ℕ) (row : LocalityRow) : Type 0 where
  -- a filed locality has a place in the table, and its row stands
  pub within : place < y.locality_places
  pub stands : locality_stands row ≡ true
  -- its company is registered
  pub owned : is_some (terms y row.company) ≡ true

pub record StandingRule (y : Year) : Type 0 where
  pub points : (place : ℕ) (e : Enrolment) → enrolment y place ≡ Some e → EnrolledRule y place e
  pub localities : (place : ℕ) (row : LocalityRow) → filing y place ≡ Some row → FiledRule y place row

-- ---- Strangers

-- a company that did not register
pub record Stranger (y : Year) (company : ℕ) : Type 0 where
  -- has no advance and no order
  pub advances : advances_of y.journal company ≡ []
  pub drawn : drawn y.history company ≡ 0
  pub taken_back : taken_back y.history company ≡ 0
  -- nor any other entry
  pub entries : entries_of y.journal company ≡ []
  -- nor a locality
  pub localities : (place : ℕ) (row : LocalityRow) → filing y place ≡ Some row → row.company ≢ company

pub record StrangerRule (y : Year) : Type 0 where
  pub companies : (company : ℕ) → terms y company ≡ None → Stranger y company
  -- a point that was not enrolled has no bill
  pub points : (place : ℕ) → enrolment y place ≡ None → bills_of y.journal place ≡ []

-- ---- All of them

pub record YearRules (y : Year) (told : ℤ) : Type 0 where
  pub close_decision : (company : ℕ) (f : TermsFigures) → terms y company ≡ Some f → closed_in y.history company ≡ true → ClosingRule y company f
  -- no company is closed that did not register
  pub registered : (company : ℕ) → terms y company ≡ None → closed_in y.history company ≢ true
  pub account : AccountRule y told
  pub advance : (company : ℕ) (f : TermsFigures) → terms y company ≡ Some f → AdvanceRule y company f
  -- the journal tells the calls: it is the entries of the granted bills, confirmings and closings, in their order
  pub entries : y.journal ≡ entries_booked y.filings y.history
  pub charged : ChargedRule y
  pub standing : StandingRule y
  pub strangers : StrangerRule y
  -- the volume and days of every point in the journal are 0 or more, so that the rows by them are what they say
  pub sound : (place : ℕ) → (pos (point y place).volume ≡ journal_volume y.journal place) × (pos (point y place).days ≡ journal_days y.journal place)
