-- What the costs of a locality are, exact and as amounts.
use Rattle.std.specs.Prelude.{ℕ, ◌+◌, ◌-◌, ◌*◌, cond, List, [], ◌∷◌, pos, Ok, Err, Result, ◌==◌}
use Rattle.units.specs.declared.refusal.Refusal.{Refusal}
use Rattle.units.specs.declared.refusal.Reason.TheVariants.{NoExpectedPoints}
use Rattle.units.specs.Refusals.{refusal}
use Rattle.rounding.specs.Frac.{Frac, over, whole, plus}
use Rattle.rounding.specs.Rounding.{rounded}
use Rattle.rounding.specs.Sums.{sum_n}
use Rattle.tariff.specs.declared.figures.Life.{Life}
use Rattle.tariff.specs.declared.figures.TariffFigures.{TariffFigures}
use Rattle.tables.specs.declared.rows.AssetRow.{AssetRow}
use Rattle.tables.specs.declared.rows.LocalityRow.{LocalityRow}
use Rattle.tables.specs.declared.service.Service.{Service}
use Rattle.tables.specs.declared.service.Service.TheVariants.{Distribution, Metering}
use Rattle.tables.specs.Services.{of_service}

-- thousandths of a cent of the capital that a row invests: net and works, 0.8 % of gross and works, less 0.7 % of net and the
-- remaining contributions
abbrev pub invested : AssetRow → ℕ
invested a = (1000 * (a.net + a.works) + 8 * (a.gross + a.works)) - (7 * a.net + 1000 * a.remaining)

-- the return of rows at a rate in ten-thousandths
abbrev pub exact_return : ℕ → List AssetRow → Frac
exact_return rate rows = over (sum_n invested rows * rate) 10000000

-- the depreciation of a row over its life; over no life it is 0
abbrev pub exact_depreciation : AssetRow → Life → Frac
exact_depreciation a life = over (a.gross - a.contributions) life.0

-- rounded row by row
abbrev pub depreciation : List AssetRow → List Life → ℕ
depreciation [] lives = 0
depreciation (a ∷ rows) [] = 0
depreciation (a ∷ rows) (life ∷ lives) = rounded (exact_depreciation a life) + depreciation rows lives

abbrev pub exact_depreciations : List AssetRow → List Life → Frac
exact_depreciations [] lives = whole (pos 0)
exact_depreciations (a ∷ rows) [] = whole (pos 0)
exact_depreciations (a ∷ rows) (life ∷ lives) = plus (exact_depreciation a life) (exact_depreciations rows lives)

-- the capital cost of a service: its return and its depreciations
abbrev pub capital_cost : TariffFigures → Service → LocalityRow → ℕ
capital_cost t service l =
    rounded (exact_return t.rate.0 (of_service service l.rows)) + depreciation (of_service service l.rows) (of_service service t.lives)

abbrev pub exact_capital_cost : TariffFigures → Service → LocalityRow → Frac
exact_capital_cost t service l =
    plus (exact_return t.rate.0 (of_service service l.rows)) (exact_depreciations (of_service service l.rows) (of_service service t.lives))

-- the two fees: cou recovers what the contracting authority is paid once, coa what it is paid yearly, each for every expected point
abbrev pub exact_fees : TariffFigures → LocalityRow → Frac
exact_fees t l = over ((t.cou.0 + t.coa.0) * l.expected) 10000

-- remote reading: telcon for each smart point
abbrev pub exact_remote_reading : TariffFigures → LocalityRow → Frac
exact_remote_reading t l = over (t.telcon.0 * l.smart) 10000

-- what a locality in regime adds
abbrev pub additions : TariffFigures → LocalityRow → ℕ
additions t l = cond (l.state == 1) (rounded (exact_fees t l) + rounded (exact_remote_reading t l)) 0

abbrev pub exact_additions : TariffFigures → LocalityRow → Frac
exact_additions t l = cond (l.state == 1) (plus (exact_fees t l) (exact_remote_reading t l)) (whole (pos 0))

-- what a locality adds to recognised revenue
abbrev pub locality_figure : TariffFigures → LocalityRow → ℕ
locality_figure t l = capital_cost t Distribution l + capital_cost t Metering l + additions t l

abbrev pub exact_locality_figure : TariffFigures → LocalityRow → Frac
exact_locality_figure t l = plus (plus (exact_capital_cost t Distribution l) (exact_capital_cost t Metering l)) (exact_additions t l)

-- a service's capital cost for each expected point, in millionths of a euro; without expected points refusal 17 with the
-- locality's place
abbrev pub unit_component : TariffFigures → Service → LocalityRow → ℕ → Result ℕ Refusal
unit_component t service l place =
    cond (l.expected == 0)
    (Err (refusal NoExpectedPoints place))
    (Ok (rounded (over (capital_cost t service l * 10000) l.expected)))
