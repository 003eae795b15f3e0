-- Which localities and which points are a company's.
use Rattle.std.specs.Prelude.{ℕ, Bool, ◌&&◌, List, ◌==◌, slice_index_or}
use Rattle.tables.specs.declared.rows.LocalityRow.{LocalityRow}
use Rattle.tables.specs.declared.rows.PointRow.{PointRow}
use Rattle.tables.specs.declared.state.State.{State}
use Rattle.tables.specs.Blank.{past_table}
use Rattle.tables.specs.Filings.{locality_stands}
use Rattle.tables.specs.PointRows.{point_stands}
use Rattle.tables.specs.States.{state_number}

-- a locality is a company's if it stands and names the company
abbrev pub owns : ℕ → LocalityRow → Bool
owns company l = locality_stands l && l.company == company

-- the row of a point's locality
abbrev pub point_locality : List LocalityRow → PointRow → LocalityRow
point_locality localities p = slice_index_or localities p.locality past_table

-- a point is a company's if it stands in a locality that is the company's
abbrev pub serves : List LocalityRow → ℕ → PointRow → Bool
serves localities company p = point_stands p && owns company (point_locality localities p)

-- and this locality is in a state
abbrev pub serves_in : List LocalityRow → ℕ → State → PointRow → Bool
serves_in localities company state p = serves localities company p && (point_locality localities p).state == state_number state
