use Rattle.std.proofs.Common.{◌≡◌, length, sym, ap, ◌∙◌, arith}
use Rattle.std.proofs.lemmas.List.{length-map}
use Rattle.bookfile.specs.Grammar.{names_of}
use Rattle.bookfile.proofs.Figuring.{all_good}
use Rattle.bookfile.proofs.line.reads.check_figures.Goals as goal

pub returns-clause-ok : goal.returns-clause-ok
returns-clause-ok c =
    let long : length c.names.result.now ≡ length (names_of c.args.statement) = sym (length-map c.names.result.now (λ n. n.now)) ∙ ap length c.names.ensures.names in
    all_good c.args.statement c.args.figures.now c.requires (λ i h. c.loop-place.invariant i (omega (arith, long, h)))
