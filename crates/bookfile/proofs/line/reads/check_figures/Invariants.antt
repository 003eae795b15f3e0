use Rattle.std.proofs.Common.{◌≡◌, ℕ, ◌<◌, true, get_or, None}
use Rattle.bookfile.specs.Syntax.{allowed}
use Rattle.bookfile.proofs.line.reads.check_figures.Given as goal

abbrev pub invariant-loop-place : goal.invariant-loop-place
invariant-loop-place l = (k : ℕ) → k < l.place → allowed l.statement k (get_or l.figures k None) ≡ true
