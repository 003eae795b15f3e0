use Rattle.std.specs.Str.Iter.{split_whitespace_rest}
use Rattle.bookfile.proofs.Figuring.{first_of, stored, read_more, read_all}
use Rattle.bookfile.proofs.line.reads.read_figures.Goals as goal

pub loop-word-preserved : goal.loop-word-preserved
loop-word-preserved c =
    let first = first_of _ c.in-Some.word.now _ c.in-Some.ensures.steps in
    read_more c.loop-word.invariant c.in-Some.word.now (split_whitespace_rest c.next.new.self) c.in_ok-place.place _ first (stored c.in_ok-place.n c.in_ok-place.ensures.ok.0) c.in_ok-place.ensures.ok.1

pub returns-clause-ok : goal.returns-clause-ok
returns-clause-ok c = read_all c.loop-word.invariant c.in-None.ensures.steps.1
