-- What stands at a place of a table: nothing past its end, nor in a row outside its limits.
use Rattle.std.specs.Prelude.{ℕ, Bool, cond, List, Some, None, Option, slice_index_or}
use Rattle.tables.specs.declared.rows.LocalityRow.{LocalityRow}
use Rattle.tables.specs.declared.rows.PointRow.{PointRow}
use Rattle.tables.specs.Blank.{no_point, past_table}
use Rattle.tables.specs.Filings.{locality_stands}
use Rattle.tables.specs.PointRows.{point_stands}

-- a row, if it stands
abbrev pub standing : {R : Type 0} → (R → Bool) → R → Option R
standing stands row = cond (stands row) (Some row) None

-- the row that stands at a place; past the end of the table, `past` is read
abbrev pub row_at : {R : Type 0} → (R → Bool) → R → List R → ℕ → Option R
row_at stands past rows place = standing stands (slice_index_or rows place past)

abbrev pub locality_at : List LocalityRow → ℕ → Option LocalityRow
locality_at = row_at locality_stands past_table

abbrev pub point_at : List PointRow → ℕ → Option PointRow
point_at = row_at point_stands no_point
