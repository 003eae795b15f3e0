-- Which record a row makes: one exactly if the row stands.
use Rattle.std.specs.Prelude.{◌≡◌, Bool, true, false, Some, None, Option, refl}
use Rattle.tables.specs.declared.rows.LocalityRow.{LocalityRow}
use Rattle.tables.specs.declared.rows.PointRow.{PointRow}
use Rattle.tables.specs.declared.locality.Locality.{Locality}
use Rattle.tables.specs.declared.point.Point.{Point}
use Rattle.tables.specs.Filings.{locality_stands}
use Rattle.tables.specs.PointRows.{point_stands}

module _ {R X : Type 0} (stands : R → Bool) (make : (row : R) → stands row ≡ true → X) where
  abbrev pub record_if : (row : R) (b : Bool) → stands row ≡ b → Option X
  record_if row true e = Some (make row e)
  record_if row false e = None

  -- the record of a row
  abbrev pub record_of : R → Option X
  record_of row = record_if row (stands row) refl

-- the locality of a row
abbrev pub locality_of : LocalityRow → Option Locality
locality_of = record_of locality_stands (λ l e. record { row = l; stands = e })

-- the point of a row
abbrev pub point_of : PointRow → Option Point
point_of = record_of point_stands (λ p e. record { row = p; stands = e })
