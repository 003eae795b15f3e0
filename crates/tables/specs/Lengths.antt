-- How long the two lent tables may be.
use Rattle.std.specs.Prelude.{Bool, ◌&&◌, List, length, nat_le}
use Rattle.tables.specs.declared.rows.LocalityRow.{LocalityRow}
use Rattle.tables.specs.declared.rows.PointRow.{PointRow}

abbrev pub localities_fit : List LocalityRow → Bool
localities_fit localities = nat_le (length localities) 256

-- neither table is longer than it may be
abbrev pub tables_fit : List LocalityRow → List PointRow → Bool
tables_fit localities points = localities_fit localities && nat_le (length points) 65536
