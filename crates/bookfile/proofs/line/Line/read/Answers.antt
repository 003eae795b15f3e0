use Rattle.std.proofs.Common.{subst, inl, inr, ⊎_elim}
use Rattle.std.specs.Str.Iter.{split_whitespace_rest}
use Rattle.bookfile.specs.Grammar.{First}
use Rattle.bookfile.proofs.Figuring.{first_of, nothing_good, speaks}
use Rattle.bookfile.proofs.line.Line.read.Goals as goal

pub invariant_of-self-in-Err : goal.invariant_of-self-in-Err
invariant_of-self-in-Err c = record { good = nothing_good }

pub returns-in-Err-clause-err : goal.returns-in-Err-clause-err
returns-in-Err-clause-err c =
    let s = c.in_ok-statement.statement in
    let text = c.before_comment.result.now in
    let word = c.in-Some.keyword.now in
    let rest = split_whitespace_rest c.next.new.self in
    let is = c.in_ok-statement.ensures.value in
    let first = subst (λ text. First text word rest) c.split_whitespace-words.ensures.rest (first_of _ word rest c.in-Some.ensures.steps) in
    inr (
      s,
      ⊎_elim
          (λ bad. inl (text, rest, c.before_comment.ensures, subst (λ v. First text v rest) is first, bad))
          (λ bad. inr (_, speaks c.args.row.now text word rest s _ c.before_comment.ensures first is bad.0, bad.1))
          c.in-Err.ensures.err,
    )
