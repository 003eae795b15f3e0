use Rattle.std.proofs.Common.{None, replicate}
use Rattle.bookfile.proofs.Figuring.{none_beyond, nothing_given}
use Rattle.bookfile.proofs.line.reads.read_statement.Goals as goal

pub check_figures-requires : goal.check_figures-requires
check_figures-requires c =
    let read = c.in_ok-read_figures.ensures.ok in
    none_beyond c.args.statement read.0 (replicate 46 None) _ read.2 (nothing_given c.args.statement)
