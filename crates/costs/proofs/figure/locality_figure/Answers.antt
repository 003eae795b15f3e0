use Rattle.std.proofs.Common.{◌≡◌, ℕ, ◌+◌, pos, sym, subst, arith}
use Rattle.rounding.specs.Nearness.{Near}
use Rattle.costs.specs.Costs.{locality_figure, exact_locality_figure}
use Rattle.costs.proofs.Nearing.{near_figure}
use Rattle.costs.proofs.figure.locality_figure.Goals as goal

pub returns-clause-near : goal.returns-clause-near
returns-clause-near c =
    let t = c.args.tariff.now.figures in
    let l = c.args.locality.now.row in
    let e : (c.capital_cost.result + c.capital_cost-2.result) + c.additions.result ≡ locality_figure t l = omega (arith, c.capital_cost.ensures.value, c.capital_cost-2.ensures.value, c.additions.ensures.value) in
    subst (λ (n : ℕ). Near (exact_locality_figure t l) (pos n) 12) (sym e) (near_figure t l)
