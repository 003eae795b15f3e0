-- The costs of a locality are near their exact values: a half for each rounded figure.
use Rattle.std.proofs.Common.{ℕ, ◌+◌, ◌-◌, ◌*◌, ◌≤◌, Bool, true, false, cond, eqb, List, [], ◌∷◌, length, drop, pos, arith, length-take}
use Rattle.rounding.specs.Frac.{Frac, whole, plus}
use Rattle.rounding.specs.Rounding.{rounded}
use Rattle.rounding.specs.Sums.{sum_n}
use Rattle.rounding.specs.Nearness.{Near}
use Rattle.rounding.proofs.HalfLaw.{near_round}
use Rattle.rounding.proofs.Nears.{near_whole, near_add, near_more}
use Rattle.tariff.specs.declared.figures.Life.{Life}
use Rattle.tariff.specs.declared.figures.TariffFigures.{TariffFigures}
use Rattle.tables.specs.declared.rows.AssetRow.{AssetRow}
use Rattle.tables.specs.declared.rows.LocalityRow.{LocalityRow}
use Rattle.tables.specs.declared.service.Service.{Service}
use Rattle.tables.specs.declared.service.Service.TheVariants.{Distribution, Metering}
use Rattle.tables.specs.Services.{of_service, row_count}
use Rattle.costs.specs.Costs.{invested, exact_return, exact_depreciation, depreciation, exact_depreciations, capital_cost, exact_capital_cost, exact_fees, exact_remote_reading, additions, exact_additions, locality_figure, exact_locality_figure}

near_depreciations : (rows : List AssetRow) (lives : List Life) → Near (exact_depreciations rows lives) (pos (depreciation rows lives)) (length rows)
near_depreciations [] lives = near_whole (pos 0)
near_depreciations (a ∷ rows) [] = near_more (whole (pos 0)) (pos 0) 0 (length (a ∷ rows)) (omega arith) (near_whole (pos 0))
near_depreciations (a ∷ rows) (life ∷ lives) =
    let here = near_round (a.gross - a.contributions) life.0 in
    near_more (exact_depreciations (a ∷ rows) (life ∷ lives)) (pos (depreciation (a ∷ rows) (life ∷ lives))) (1 + length rows) (length (a ∷ rows)) (omega arith)
    (near_add (exact_depreciation a life) (exact_depreciations rows lives) (pos (rounded (exact_depreciation a life))) (pos (depreciation rows lives)) 1 (length rows) here (near_depreciations rows lives))

short : {X : Type 0} (service : Service) (xs : List X) → length (of_service service xs) ≤ row_count service
short Distribution xs = let e = length-take 5 xs in omega arith
short Metering xs = let e = length-take 3 (drop 5 xs) in omega arith

-- a return, and a depreciation for each row
near_cost : (t : TariffFigures) (service : Service) (l : LocalityRow) → Near (exact_capital_cost t service l) (pos (capital_cost t service l)) (1 + row_count service)
near_cost t service l =
    let rows = of_service service l.rows in
    let lives = of_service service t.lives in
    let few = short service l.rows in
    near_more (exact_capital_cost t service l) (pos (capital_cost t service l)) (1 + length rows) (1 + row_count service) (omega arith)
    (near_add (exact_return t.rate.0 rows) (exact_depreciations rows lives) (pos (rounded (exact_return t.rate.0 rows))) (pos (depreciation rows lives)) 1 (length rows)
    (near_round (sum_n invested rows * t.rate.0) 10000000) (near_depreciations rows lives))

either : (b : Bool) (x y : Frac) (m n k : ℕ) → Near x (pos m) k → Near y (pos n) k → Near (cond b x y) (pos (cond b m n)) k
either true x y m n k p q = p
either false x y m n k p q = q

near_additions : (t : TariffFigures) (l : LocalityRow) → Near (exact_additions t l) (pos (additions t l)) 2
near_additions t l =
    either (eqb l.state 1) (plus (exact_fees t l) (exact_remote_reading t l)) (whole (pos 0)) (rounded (exact_fees t l) + rounded (exact_remote_reading t l)) 0 2
    (near_add (exact_fees t l) (exact_remote_reading t l) (pos (rounded (exact_fees t l))) (pos (rounded (exact_remote_reading t l))) 1 1
    (near_round ((t.cou.0 + t.coa.0) * l.expected) 10000) (near_round (t.telcon.0 * l.smart) 10000))
    (near_more (whole (pos 0)) (pos 0) 0 2 (omega arith) (near_whole (pos 0)))

-- 6 for distribution, 4 for metering, 2 for what a locality in regime adds
pub near_figure : (t : TariffFigures) (l : LocalityRow) → Near (exact_locality_figure t l) (pos (locality_figure t l)) 12
near_figure t l =
    near_add (plus (exact_capital_cost t Distribution l) (exact_capital_cost t Metering l)) (exact_additions t l) (pos (capital_cost t Distribution l + capital_cost t Metering l)) (pos (additions t l)) 10 2
    (near_add (exact_capital_cost t Distribution l) (exact_capital_cost t Metering l) (pos (capital_cost t Distribution l)) (pos (capital_cost t Metering l)) 6 4 (near_cost t Distribution l) (near_cost t Metering l))
    (near_additions t l)
