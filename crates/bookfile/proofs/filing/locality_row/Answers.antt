use Rattle.std.proofs.Common.{rules}
use Rattle.bookfile.specs.Filings.{asset_row}
use Rattle.bookfile.proofs.Filling.{filled}
use Rattle.bookfile.proofs.filing.locality_row.Goals as goal

pub returns : goal.returns
returns c =
    let rows = filled (asset_row c.args.line.now.figures) (λ i y q called. search rules) _ 8 c.from_fn.ensures.items in
    cc
