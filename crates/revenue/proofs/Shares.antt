-- The points that a company can have served: no line 3 amount stands for more than 2.006 points, so that no product is too large.
use Rattle.std.proofs.Common.{◌≡◌, ℕ, ◌*◌, ◌≤◌, true, cond, eqb, leb, ◌⊎◌, List, length, is_some, Some, None, sym, ap, ◌∙◌, subst, inl, inr, mul-le-mul_right, mul-le-mul_left, arith}
use Rattle.std.proofs.lemmas.Bool.{and_parts, cond_both, cond-true, le-leb}
use Rattle.rounding.proofs.HalfLaw.{rounded_twice, rounded_at_most}
use Rattle.rounding.proofs.SumLaws.{sum_n_share}
use Rattle.tariff.specs.declared.figures.TariffFigures.{TariffFigures}
use Rattle.tariff.specs.Limits.{Within}
use Rattle.tables.specs.declared.rows.LocalityRow.{LocalityRow}
use Rattle.tables.specs.declared.rows.PointRow.{PointRow}
use Rattle.tables.specs.declared.state.State.{State}
use Rattle.tables.specs.PointRows.{point_stands}
use Rattle.tables.specs.States.{state_number}
use Rattle.tables.proofs.Holding.{point_held}
use Rattle.revenue.specs.Owners.{owns, point_locality, serves, serves_in}
use Rattle.revenue.specs.Served.{point_commercial, commercial_cents, served_for, served, served_within}

a_year : (y : ℕ) → (y ≡ 365) ⊎ (y ≡ 366) → 365 ≤ y
a_year y (inl e) = omega arith
a_year y (inr e) = omega arith

-- 10,000 × 365 × amount ≤ 2 × price × 366
line_share : (t : TariffFigures) → Within t → (p : PointRow) → p.days ≤ 366 → point_commercial t p * 10000000 ≤ 2006 * t.commercial.0
line_share t w p d =
    let amount = point_commercial t p in
    let twice = rounded_twice (t.commercial.0 * p.days) (10000 * t.days) in
    let year = mul-le-mul_right amount (mul-le-mul_left 10000 (a_year t.days w.year)) in
    let days = mul-le-mul_left t.commercial.0 d in
    omega arith

cents_share : (t : TariffFigures) → Within t → (ls : List LocalityRow) (ps : List PointRow) (company : ℕ) (state : State) → commercial_cents t ls ps company state * 10000000 ≤ length ps * (2006 * t.commercial.0)
unfolding commercial_cents
cents_share t w ls ps company state =
    sum_n_share _ 10000000 (2006 * t.commercial.0)
    (λ p.
    cond_both (serves_in ls company state p) (point_commercial t p) 0 (λ n. n * 10000000 ≤ 2006 * t.commercial.0)
    (λ own.
    let serving = and_parts (serves ls company p) (eqb (point_locality ls p).state (state_number state)) own in
    let stands = and_parts (point_stands p) (owns company (point_locality ls p)) serving.0 in
    line_share t w p (point_held p stands.0).days)
    (λ _. omega arith))
    ps

-- 65,536 points at 2.006 each
served_small : (t : TariffFigures) → Within t → (ls : List LocalityRow) (ps : List PointRow) (company : ℕ) (state : State) → length ps ≤ 65536 → served t ls ps company state ≤ 131465216
served_small t w ls ps company state few =
    let share = cents_share t w ls ps company state in
    let rows = mul-le-mul_right (2006 * t.commercial.0) few in
    rounded_at_most (commercial_cents t ls ps company state * 10000000) t.commercial.0 131465216 (omega arith)

-- so the points that were served can always be told
pub served_fits : (t : TariffFigures) → Within t → (ls : List LocalityRow) (ps : List PointRow) (company : ℕ) (state : State) → length ps ≤ 65536 → (cents : ℕ) → cents ≡ commercial_cents t ls ps company state → cents ≤ 6571556864 → is_some (served_within t cents) ≡ true
served_fits t w ls ps company state few cents is fits =
    let small : served_for t cents ≤ 131465216 = subst (λ (n : ℕ). served_for t n ≤ 131465216) (sym is) (served_small t w ls ps company state few) in
    ap is_some
    (cond-true (leb cents 6571556864) (cond (leb (served_for t cents) 131465216) (Some (served_for t cents)) None) None (le-leb cents 6571556864 fits)
    ∙ cond-true (leb (served_for t cents) 131465216) (Some (served_for t cents)) None (le-leb (served_for t cents) 131465216 small))
