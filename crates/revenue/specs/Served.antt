-- How many points a company served in localities of a state.
use Rattle.std.specs.Prelude.{ℕ, ◌*◌, cond, List, Some, None, Option, nat_le}
use Rattle.rounding.specs.Frac.{over}
use Rattle.rounding.specs.Rounding.{rounded}
use Rattle.rounding.specs.Sums.{sum_if}
use Rattle.tariff.specs.declared.figures.TariffFigures.{TariffFigures}
use Rattle.tariff.specs.Lines.{exact_commercial}
use Rattle.tables.specs.declared.rows.LocalityRow.{LocalityRow}
use Rattle.tables.specs.declared.rows.PointRow.{PointRow}
use Rattle.tables.specs.declared.state.State.{State}
use Rattle.revenue.specs.Owners.{serves_in}

-- line 3 of a point, in cents
abbrev pub point_commercial : TariffFigures → PointRow → ℕ
point_commercial t p = rounded (exact_commercial t p.days)

-- what line 3 comes to over those points of a company whose localities are in a state
unfoldable pub commercial_cents : TariffFigures → List LocalityRow → List PointRow → (company : ℕ) → State → ℕ
commercial_cents t localities points company state = sum_if (serves_in localities company state) (point_commercial t) points

-- the points that so many cents of line 3 stand for at the commercial price, in thousandths
abbrev pub served_for : TariffFigures → (cents : ℕ) → ℕ
served_for t cents = rounded (over (cents * 10000000) t.commercial.0)

abbrev pub served : TariffFigures → List LocalityRow → List PointRow → (company : ℕ) → State → ℕ
served t localities points company state = served_for t (commercial_cents t localities points company state)

-- a book's 65,536 points have no more than 6,571,556,864 cents of line 3, and these stand for no more than 131,465.216 points
abbrev pub served_within : TariffFigures → (cents : ℕ) → Option ℕ
served_within t cents = cond (nat_le cents 6571556864) (cond (nat_le (served_for t cents) 131465216) (Some (served_for t cents)) None) None
