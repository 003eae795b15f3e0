-- The figures that are found from what is on record in an opened book. None is stored.
use Rattle.std.specs.Prelude.{ℕ, List, ℤ, pos, ◌+ℤ◌, ◌-ℤ◌, Some, None, Ok, Option, Result}
use Rattle.units.specs.declared.amounts.Cents.{Cents}
use Rattle.units.specs.declared.refusal.Reason.TheVariants.{PastTable}
use Rattle.units.specs.declared.refusal.Refusal.{Refusal}
use Rattle.units.specs.Steps.{when, next}
use Rattle.rounding.specs.Sums.{sum_z}
use Rattle.tariff.specs.declared.figures.TariffFigures.{TariffFigures}
use Rattle.tables.specs.declared.rows.LocalityRow.{LocalityRow}
use Rattle.tables.specs.declared.rows.PointRow.{PointRow}
use Rattle.tables.specs.declared.state.State.TheVariants.{Regime, StartUp}
use Rattle.tables.specs.Lengths.{tables_fit}
use Rattle.revenue.specs.declared.parts.Revenue.{Revenue}
use Rattle.revenue.specs.Billed.{billed}
use Rattle.revenue.specs.Served.{served as served_in}
use Rattle.revenue.specs.Recognised.{recognised, recognised_revenue}
use Rattle.revenue.specs.Ug1.{ug1_due}
use Rattle.company.specs.declared.record.Company.{Company}
use Rattle.company.specs.Events.{advances}
use Rattle.company.specs.declared.record.Event.TheVariants.{Close}
use Rattle.orders.specs.Registers.{asked_company, deciding}
use Rattle.orders.specs.Orders.{settled}
use Rattle.opened.specs.declared.record.Opened.{Opened}

-- a figure of the company that is asked about: 4 for a table too long, then 4 and 5 for the company
abbrev pub asked : {X : Type 0} → Opened → List LocalityRow → List PointRow → (company : ℕ) → (Company → X) → Result X Refusal
asked o localities points company figure =
    when (tables_fit localities points) PastTable 0
    (next (asked_company o.register.companies company) (λ c. Ok (figure c)))

-- the points served in regime and in start-up, in thousandths
abbrev pub served_of : Opened → List LocalityRow → List PointRow → (company : ℕ) → Company → ℕ × ℕ
served_of o ls ps company c = (served_in o.tariff.figures ls ps company Regime, served_in o.tariff.figures ls ps company StartUp)

-- the operating price that the rule means for a company, and the parts of recognised revenue at it
abbrev pub price_for : (price : ℕ → ℕ → ℕ → ℕ) → Company → ℕ
price_for price c = price c.terms.figures.points c.terms.figures.density c.terms.figures.year

abbrev pub revenue_of : TariffFigures → (price : ℕ) → List LocalityRow → List PointRow → (company : ℕ) → Company → Revenue
revenue_of t price localities points company c =
    recognised t price c.terms.figures.verification c.terms.figures.central localities points company

-- what bills and advances leave of the revenue that is recognised at an operating price
abbrev pub settlement : TariffFigures → (price : ℕ) → List LocalityRow → List PointRow → (company : ℕ) → Company → ℤ
settlement t price localities points company c =
    pos (recognised_revenue t price c.terms.figures.verification c.terms.figures.central localities points company) -ℤ pos (billed t localities points company) -ℤ advances c

-- the balance due: what of the settlement no closing has booked yet
abbrev pub due : TariffFigures → (price : ℕ) → List LocalityRow → List PointRow → (company : ℕ) → Company → Cents
due t price localities points company c = record { 0 = settlement t price localities points company c -ℤ c.balances }

-- the company after its closing, and the balance due
abbrev pub settling : TariffFigures → (price : ℕ) → List LocalityRow → List PointRow → (company : ℕ) → Company → Company × Cents
settling t price localities points company c =
    (settled c (settlement t price localities points company c), due t price localities points company c)

-- closing a company: 4 for a table too long and past the sixteen, 5 where none is registered, 9 where it is closed, 11 while an order is out
abbrev pub closing : Opened → (price : ℕ → ℕ → ℕ → ℕ) → List LocalityRow → List PointRow → (company : ℕ) → Result (Company × Cents) Refusal
closing o price localities points company =
    when (tables_fit localities points) PastTable 0
    (next (deciding o.register.companies o.register.number o.register.number company Close) (λ d.
    Ok (settling o.tariff.figures (price_for price d.0) localities points company d.0)))

-- what the account lost to the company at a place
abbrev pub paid_out : Option Company → ℤ
paid_out None = pos 0
paid_out (Some c) = advances c +ℤ c.balances

-- what the account was opened with and line 6 of the points brought, without what was paid out
abbrev pub account_of : Opened → List PointRow → ℤ
account_of o points = o.sum +ℤ pos (ug1_due o.tariff.figures points) -ℤ sum_z paid_out o.register.companies
