use Rattle.std.proofs.Common.{◌≡◌, ℕ, Ok, rules}
use Rattle.company.specs.declared.record.Company.{Company}
use Rattle.orders.specs.Orders.{close_decision}
use Rattle.opened.proofs.record.Opened.closing.Goals as goal

pub returns-clause-answer : goal.returns-clause-answer
returns-clause-answer g c =
    let taken : Company × ℕ = (c.in_ok-found.found, c.in_ok-found.field-0-1) in
    let met : close_decision c.args.self.now.register c.args.company ≡ Ok taken = search rules in
    (taken, met, search (rules, met))
