use Rattle.std.proofs.Common.{ℕ, pos, rules}
use Rattle.units.specs.declared.amounts.Cents.{Cents}
use Rattle.revenue.specs.declared.parts.Revenue.{Revenue}
use Rattle.revenue.specs.Billed.{billed}
use Rattle.company.specs.declared.record.Company.{Company}
use Rattle.opened.specs.Figures.{served_of, revenue_of, price_for, due}
use Rattle.opened.proofs.Asking.{asked_by}
use Rattle.opened.proofs.record.Opened.company_year.Goals as goal

pub returns : goal.returns
returns g c =
    let o = c.args.self.now in
    let ls = c.args.localities.now in
    let ps = c.args.points.now in
    let company = c.args.company in
    let price = g.M.Management.price c.args.rule.now in
    let told : Company → Company × (ℕ × ℕ) × Revenue × Cents × Cents = λ f. (f, served_of o ls ps company f, revenue_of o.tariff.figures (price_for price f) ls ps company f, record { 0 = pos (billed o.tariff.figures ls ps company) }, due o.tariff.figures (price_for price f) ls ps company f) in
    let is = asked_by o ls ps company told in
    search (rules, is)
