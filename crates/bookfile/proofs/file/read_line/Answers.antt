use Rattle.std.proofs.Common.{inl, inr, subst, true, ◌≡◌, arith}
use Rattle.std.proofs.lemmas.Result.{err_from_is_err_and}
use Rattle.bookfile.specs.Grammar.{SpeaksIf}
use Rattle.bookfile.proofs.file.read_line.Goals as goal

pub returns-in_err-read-clause-err : goal.returns-in_err-read-clause-err
returns-in_err-read-clause-err c =
    let p = err_from_is_err_and c.from_residual.result c.from_residual.ensures.1 in
    rw (p.1, p.2) (inl c.in_err-read.ensures.err)

pub returns-in_err-put-clause-err : goal.returns-in_err-put-clause-err
returns-in_err-put-clause-err c =
    let p = err_from_is_err_and c.from_residual-in_err-put.result c.from_residual-in_err-put.ensures.1 in
    let row = c.args.row.now in
    let line = c.read.new.self in
    let speaks : c.in_ok-read.field-0 ≡ true = grind arith in
    let says = subst (SpeaksIf row line.statement line.figures) speaks c.in_ok-read.ensures.ok in
    rw (p.1, p.2) (inr (line, says, c.in_err-put.ensures.err))
