use Rattle.std.proofs.Common.{◌≡◌, ◌+◌, ◌*◌, pos, sym, ◌∙◌, subst, arith}
use Rattle.rounding.specs.Nearness.{Near}
use Rattle.rounding.specs.Sums.{count_if}
use Rattle.revenue.specs.declared.parts.Revenue.{Revenue}
use Rattle.revenue.specs.Owners.{owns}
use Rattle.revenue.specs.Recognised.{parts_at, total, recognised, exact_revenue}
use Rattle.revenue.proofs.Nearing.{near_revenue}
use Rattle.revenue.proofs.book_tables.Tables.outcome.Goals as goal

pub returns : goal.returns
unfolding recognised
returns c =
    let t = c.args.tariff.now.figures in
    let costs = c.args.costs in
    let ls = c.args.self.localities.now in
    let ps = c.args.self.points.now in
    let company = c.args.company in
    let added = c.locality_figures-added.ensures.value in
    let served = c.served_and_billed-billed.ensures in
    let value : c.revenue.result ≡ recognised t costs.operating.0 costs.verification costs.central ls ps company = c.revenue.ensures.value ∙ (λ j. parts_at t costs.operating.0 costs.verification costs.central (added j) (served.regime j) (served.startup j)) in
    record {
      regime = served.regime;
      startup = served.startup;
      revenue = value;
      billed = served.billed;
      near = subst (λ (r : Revenue). Near (exact_revenue t costs.operating.0 costs.verification costs.central ls ps company) (pos (total r)) (12 * count_if (owns company) ls + 4)) (sym value) (near_revenue t costs.operating.0 costs.verification costs.central ls ps company);
      small = omega (arith, c.revenue.ensures.small, c.locality_figures-added.ensures.small);
    }
