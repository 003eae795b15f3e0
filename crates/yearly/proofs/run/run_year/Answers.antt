use Rattle.std.proofs.Common.{◌≡◌, Ok, to_z, of_z, w64, drop, length, rules, arith}
use borrow.Author.Differences.{ints}
use Rattle.book.specs.States.{state}
use Rattle.yearly.proofs.Running.{ran_in_order}
use Rattle.yearly.proofs.run.run_year.Goals as goal

pub returns-clause-rules : goal.returns-clause-rules
returns-clause-rules g c =
    let granted : c.open.result ≡ Ok tt = search rules in
    let same : to_z w64 (of_z w64 c.args.sum) ≡ c.args.sum = omega (arith, ints) in
    ran_in_order (state g.J.Journal g.M.Management c.args.book.now) c.args.tariff.now c.args.number c.args.sum c.args.filings.now c.args.localities.now c.args.points.now
    c.open.result (to_z w64 (of_z w64 c.args.sum)) (state g.J.Journal g.M.Management c.open.new.self) c.open.new.localities c.open.new.points
    c.args.calls.now c.run.new.answers (drop (length c.args.calls.now) c.args.answers.now)
    granted same c.open.ensures.answer c.open.ensures.after c.open.ensures.localities c.open.ensures.points c.run.ensures.answers
