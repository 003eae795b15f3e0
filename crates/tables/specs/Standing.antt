-- Which rows have no fault, without the number of one.
use Rattle.std.specs.Prelude.{Bool, true, ◌&&◌, List, [], ◌∷◌, nat_le}
use Rattle.tables.specs.declared.rows.AssetRow.{AssetRow}
use Rattle.tables.specs.Filings.{asset_fits}

abbrev pub row_stands : AssetRow → Bool
row_stands a =
    asset_fits a.gross && asset_fits a.works && nat_le a.remaining a.net && nat_le a.net a.gross && nat_le a.remaining a.contributions && nat_le a.contributions a.gross

abbrev pub rows_stand : List AssetRow → Bool
rows_stand [] = true
rows_stand (a ∷ more) = row_stands a && rows_stand more
