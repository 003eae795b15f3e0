-- What is answered from what is on record in an opened book, with the lent tables.
use Rattle.std.specs.Prelude.{ℕ, List, length, pos, Ok, Result, nat_le}
use Rattle.units.specs.declared.amounts.Cents.{Cents}
use Rattle.units.specs.declared.refusal.Reason.TheVariants.{PastTable}
use Rattle.units.specs.declared.refusal.Refusal.{Refusal}
use Rattle.units.specs.Steps.{when, next}
use Rattle.tables.specs.declared.rows.LocalityRow.{LocalityRow}
use Rattle.tables.specs.declared.rows.PointRow.{PointRow}
use Rattle.tables.specs.declared.service.Service.{Service}
use Rattle.costs.specs.Costs as cost
use Rattle.revenue.specs.declared.parts.Revenue.{Revenue}
use Rattle.revenue.specs.Billed.{billed}
use Rattle.company.specs.declared.record.Company.{Company}
use Rattle.calls.specs.Decisions.{asked_locality}
use Rattle.opened.specs.declared.company_year.CompanyYear.{CompanyYear}
use Rattle.opened.specs.declared.record.Opened.{Opened}
use Rattle.opened.specs.Figures.{asked, served_of, price_for, revenue_of, due, account_of}

-- ---- A locality

abbrev pub capital_cost : Opened → List LocalityRow → (place : ℕ) → Service → Result ℕ Refusal
capital_cost o localities place service = next (asked_locality localities place) (λ l. Ok (cost.capital_cost o.tariff.figures service l))

-- refused by 17 without expected points
abbrev pub unit_component : Opened → List LocalityRow → (place : ℕ) → Service → Result ℕ Refusal
unit_component o localities place service = next (asked_locality localities place) (λ l. cost.unit_component o.tariff.figures service l place)

-- ---- A company

abbrev pub served : Opened → List LocalityRow → List PointRow → (company : ℕ) → Result (ℕ × ℕ) Refusal
served o localities points company = asked o localities points company (served_of o localities points company)

-- by what a management rule means
abbrev pub revenue : Opened → (price : ℕ → ℕ → ℕ → ℕ) → List LocalityRow → List PointRow → (company : ℕ) → Result Revenue Refusal
revenue o price localities points company =
    asked o localities points company (λ c. revenue_of o.tariff.figures (price_for price c) localities points company c)

-- lines 1 to 4 of the company's points
abbrev pub lines_billed : Opened → List LocalityRow → List PointRow → (company : ℕ) → Result Cents Refusal
lines_billed o localities points company =
    asked o localities points company (λ c. record { 0 = pos (billed o.tariff.figures localities points company) })

abbrev pub balance_due : Opened → (price : ℕ → ℕ → ℕ → ℕ) → List LocalityRow → List PointRow → (company : ℕ) → Result Cents Refusal
balance_due o price localities points company =
    asked o localities points company (λ c. due o.tariff.figures (price_for price c) localities points company c)

-- how a company stands, the points that it served, its recognised revenue, lines 1 to 4 of its points, and the balance due
abbrev pub company_year : Opened → (price : ℕ → ℕ → ℕ → ℕ) → List LocalityRow → List PointRow → (company : ℕ) → Result (Company × (ℕ × ℕ) × Revenue × Cents × Cents) Refusal
company_year o price localities points company =
    asked o localities points company (λ c.
    (c, served_of o localities points company c, revenue_of o.tariff.figures (price_for price c) localities points company c, record { 0 = pos (billed o.tariff.figures localities points company) }, due o.tariff.figures (price_for price c) localities points company c))

-- the figures of it
abbrev pub year_told : CompanyYear → Company × (ℕ × ℕ) × Revenue × Cents × Cents
year_told y = (y.company, (y.served.regime.0, y.served.startup.0), y.revenue, y.billed, y.due)

-- ---- The account

abbrev pub account : Opened → List PointRow → Result Cents Refusal
account o points = when (nat_le (length points) 65536) PastTable 0 (Ok (record { 0 = account_of o points }))
