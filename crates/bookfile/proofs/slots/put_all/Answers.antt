use Rattle.std.proofs.Common.{◌+◌, None, arith}
use Rattle.std.proofs.lemmas.Result.{err_from_is_err_and}
use Rattle.bookfile.proofs.Placing.{placed_more, placed_none}
use Rattle.bookfile.proofs.slots.put_all.Goals as goal

pub returns-in_err-put-clause-puts : goal.returns-in_err-put-clause-puts
returns-in_err-put-clause-puts c =
    let p = err_from_is_err_and c.from_residual.result c.from_residual.ensures.1 in
    let next = placed_more c.args.slots.now c.args.span.slot c.args.line.now.figures c.args.span.first c.loop-k.k c.loop-k.slots None c.loop-k.invariant c.in_err-put.ensures.puts in
    rw p.1 (placed_none c.args.slots.now c.args.span.slot c.args.line.now.figures c.args.span.first (c.loop-k.k + 1) c.args.span.count (omega arith) next)

pub returns-in_err-put-clause-err : goal.returns-in_err-put-clause-err
returns-in_err-put-clause-err c =
    let p = err_from_is_err_and c.from_residual.result c.from_residual.ensures.1 in
    rw (p.1, p.2)
    (record {
      n = c.loop-k.k;
      below = omega arith;
      held = c.loop-k.slots;
      before = c.loop-k.invariant;
      here = c.in_err-put.ensures.puts;
      is = c.in_err-put.ensures.err;
    })
