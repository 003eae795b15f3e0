-- What row each statement files, by its figures.
use Rattle.std.specs.Prelude.{ℕ, ◌+◌, ◌*◌, List, map, ℤ, Some, None, Option}
use Rattle.std.specs.List.{range_with_len}
use Rattle.tables.specs.declared.rows.AssetRow.{AssetRow}
use Rattle.tables.specs.declared.rows.LocalityRow.{LocalityRow}
use Rattle.bookfile.specs.declared.statement.Statement.{Statement}
use Rattle.bookfile.specs.declared.statement.Statement.TheVariants.{File}
use Rattle.bookfile.specs.Numbers.{whole_at}

-- an asset row, from 0, has five figures, after the six that are needed
abbrev pub asset_row : List (Option ℤ) → ℕ → AssetRow
asset_row zs i =
    record {
      gross = whole_at zs (6 + 5 * i);
      net = whole_at zs (6 + 5 * i + 1);
      works = whole_at zs (6 + 5 * i + 2);
      contributions = whole_at zs (6 + 5 * i + 3);
      remaining = whole_at zs (6 + 5 * i + 4);
    }

abbrev pub locality_row : List (Option ℤ) → LocalityRow
locality_row zs =
    record {
      company = whole_at zs 1;
      state = whole_at zs 2;
      area = whole_at zs 3;
      expected = whole_at zs 4;
      smart = whole_at zs 5;
      rows = map (asset_row zs) (range_with_len 0 8);
    }

abbrev pub filing_of : Statement → List (Option ℤ) → Option LocalityRow
filing_of File zs = Some (locality_row zs)
filing_of other zs = None
