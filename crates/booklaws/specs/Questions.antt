-- What the questions answer: 2 while the book is not open, then what is found from what is on record.
use Rattle.std.specs.Prelude.{ℕ, List, Result}
use Rattle.units.specs.declared.amounts.Cents.{Cents}
use Rattle.units.specs.declared.refusal.Refusal.{Refusal}
use Rattle.tables.specs.declared.rows.LocalityRow.{LocalityRow}
use Rattle.tables.specs.declared.rows.PointRow.{PointRow}
use Rattle.tables.specs.declared.service.Service.{Service}
use Rattle.revenue.specs.declared.parts.Revenue.{Revenue}
use Rattle.company.specs.declared.record.Company.{Company}
use Rattle.orders.specs.Registers.{asked_company}
use Rattle.opened.specs.Questions as opened
use Rattle.booklaws.specs.States.{BookState, when_open}

-- ---- A locality

abbrev pub capital_cost : BookState → List LocalityRow → (place : ℕ) → Service → Result ℕ Refusal
capital_cost b localities place service = when_open b.opened (λ o. opened.capital_cost o localities place service)

abbrev pub unit_component : BookState → List LocalityRow → (place : ℕ) → Service → Result ℕ Refusal
unit_component b localities place service = when_open b.opened (λ o. opened.unit_component o localities place service)

-- ---- A company

-- how the company at a place stands
abbrev pub company : BookState → (place : ℕ) → Result Company Refusal
company b place = when_open b.opened (λ o. asked_company o.register.companies place)

abbrev pub served : BookState → List LocalityRow → List PointRow → (company : ℕ) → Result (ℕ × ℕ) Refusal
served b localities points company = when_open b.opened (λ o. opened.served o localities points company)

abbrev pub revenue : BookState → List LocalityRow → List PointRow → (company : ℕ) → Result Revenue Refusal
revenue b localities points company = when_open b.opened (λ o. opened.revenue o b.price localities points company)

abbrev pub lines_billed : BookState → List LocalityRow → List PointRow → (company : ℕ) → Result Cents Refusal
lines_billed b localities points company = when_open b.opened (λ o. opened.lines_billed o localities points company)

abbrev pub balance_due : BookState → List LocalityRow → List PointRow → (company : ℕ) → Result Cents Refusal
balance_due b localities points company = when_open b.opened (λ o. opened.balance_due o b.price localities points company)

-- what its year comes to
abbrev pub company_year : BookState → List LocalityRow → List PointRow → (company : ℕ) → Result (Company × (ℕ × ℕ) × Revenue × Cents × Cents) Refusal
company_year b localities points company = when_open b.opened (λ o. opened.company_year o b.price localities points company)

-- ---- The account

abbrev pub account : BookState → List PointRow → Result Cents Refusal
account b points = when_open b.opened (λ o. opened.account o points)
