use Rattle.std.proofs.Common.{sym, ◌∙◌, arith}
use Rattle.limits.proofs.Firsts.{of_found, of_more, of_end}
use Rattle.limits.proofs.first_of.Goals as goal

pub returns-then-is_some : goal.returns-then-is_some
returns-then-is_some c =
    sym (of_found c.args.found.now c.loop-number.number-index (omega arith) (sym c.if-is_some.ensures)) ∙ c.loop-number.invariant

pub loop-number-preserved : goal.loop-number-preserved
loop-number-preserved c =
    sym (of_more c.args.found.now c.loop-number.number-index (omega arith) (sym c.if-is_some.ensures)) ∙ c.loop-number.invariant

pub returns : goal.returns
returns c = sym (of_end c.args.found.now c.loop-number.number-index (omega arith)) ∙ c.loop-number.invariant
