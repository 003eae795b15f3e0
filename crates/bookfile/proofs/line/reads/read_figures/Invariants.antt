use Rattle.std.specs.Str.Iter.{split_whitespace_rest}
use Rattle.bookfile.proofs.Figuring.{ReadTo}
use Rattle.bookfile.proofs.line.reads.read_figures.Given as goal

abbrev pub invariant-loop-word : goal.invariant-loop-word
invariant-loop-word l =
    ReadTo l.statement (split_whitespace_rest l.words) (split_whitespace_rest l.word-iterator) l.initial.figures l.figures
