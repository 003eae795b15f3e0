-- What revenue is recognised to a company: each figure rounded once, and exact.
use Rattle.std.specs.Prelude.{ℕ, ◌+◌, ◌*◌, List, pos}
use Rattle.rounding.specs.Frac.{Frac, over, whole, plus}
use Rattle.rounding.specs.Rounding.{rounded}
use Rattle.rounding.specs.Sums.{sum_if, exact_sum_if}
use Rattle.tariff.specs.declared.figures.TariffFigures.{TariffFigures}
use Rattle.tables.specs.declared.rows.LocalityRow.{LocalityRow}
use Rattle.tables.specs.declared.rows.PointRow.{PointRow}
use Rattle.tables.specs.declared.state.State.TheVariants.{Regime, StartUp}
use Rattle.costs.specs.Costs.{locality_figure, exact_locality_figure}
use Rattle.revenue.specs.declared.parts.Revenue.{Revenue}
use Rattle.revenue.specs.Owners.{owns}
use Rattle.revenue.specs.Served.{served}

-- what a company's localities add
unfoldable pub locality_figures : TariffFigures → List LocalityRow → (company : ℕ) → ℕ
locality_figures t localities company = sum_if (owns company) (locality_figure t) localities

unfoldable pub exact_locality_figures : TariffFigures → List LocalityRow → (company : ℕ) → Frac
exact_locality_figures t localities company = exact_sum_if (owns company) (exact_locality_figure t) localities

-- a price for thousandths of points, in cents
abbrev pub exact_for_points : (price points : ℕ) → Frac
exact_for_points price points = over (price * points) 10000000

-- the parts, by the operating price and what the localities add, where so many points are served in regime and in start-up
abbrev pub parts_at : TariffFigures → (price verification central : ℕ) → (added regime startup : ℕ) → Revenue
parts_at t price verification central added regime startup =
    record {
      localities = added;
      operating = rounded (exact_for_points price regime);
      startup = rounded (exact_for_points t.avv.0 startup);
      readings = rounded (exact_for_points (t.ins.0 + t.rac.0) (regime + startup));
      commercial = rounded (exact_for_points t.commercial.0 (regime + startup));
      verification = verification;
      central = central;
    }

-- the same unrounded: four figures and two costs beside what the localities add
abbrev pub exact_at : TariffFigures → (price verification central : ℕ) → (added : Frac) → (regime startup : ℕ) → Frac
exact_at t price verification central added regime startup =
    plus
    (plus added
    (plus
    (plus (exact_for_points price regime) (exact_for_points t.avv.0 startup))
    (plus (exact_for_points (t.ins.0 + t.rac.0) (regime + startup)) (exact_for_points t.commercial.0 (regime + startup)))))
    (whole (pos (verification + central)))

abbrev pub total : Revenue → ℕ
total r = r.localities + (r.operating + r.startup + (r.readings + r.commercial)) + (r.verification + r.central)

-- the parts of a company's recognised revenue
unfoldable pub recognised : TariffFigures → (price verification central : ℕ) → List LocalityRow → List PointRow → (company : ℕ) → Revenue
recognised t price verification central localities points company =
    parts_at t price verification central (locality_figures t localities company) (served t localities points company Regime) (served t localities points company StartUp)

abbrev pub recognised_revenue : TariffFigures → (price verification central : ℕ) → List LocalityRow → List PointRow → (company : ℕ) → ℕ
recognised_revenue t price verification central localities points company = total (recognised t price verification central localities points company)

-- exact recognised revenue: nothing that the parts are made of is rounded but the served points, which count as they are told
unfoldable pub exact_revenue : TariffFigures → (price verification central : ℕ) → List LocalityRow → List PointRow → (company : ℕ) → Frac
exact_revenue t price verification central localities points company =
    exact_at t price verification central (exact_locality_figures t localities company) (served t localities points company Regime) (served t localities points company StartUp)
