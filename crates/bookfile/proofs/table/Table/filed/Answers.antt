use Rattle.std.proofs.Common.{rules}
use Rattle.bookfile.specs.Filed.{price, coefficient, life, bracket}
use Rattle.bookfile.proofs.Filling.{filled}
use Rattle.bookfile.proofs.table.Table.filed.Goals as goal

pub returns : goal.returns
returns c =
    let t = c.args.self.now in
    let distribution = filled (price t 11) (λ i y q called. search rules) _ 24 c.from_fn.ensures.items in
    let metering = filled (price t 35) (λ i y q called. search rules) _ 24 c.from_fn-2.ensures.items in
    let brackets = filled (bracket t) (λ i y q called. search rules) _ 8 c.from_fn-3.ensures.items in
    let coefficients = filled (coefficient t) (λ i y q called. search rules) _ 8 c.from_fn-4.ensures.items in
    let lives = filled (life t) (λ i y q called. search rules) _ 8 c.from_fn-5.ensures.items in
    cc
