-- A row that stands makes its record.
use Rattle.std.proofs.Common.{◌≡◌, Bool, true, false, Some, Option, sym, refl, ◌∙◌}
use mathlib.Core.Bool.{Bool-set}
use Rattle.std.proofs.lemmas.Bool.{false≢true}
use Rattle.tables.specs.declared.rows.LocalityRow.{LocalityRow}
use Rattle.tables.specs.declared.rows.PointRow.{PointRow}
use Rattle.tables.specs.declared.locality.Locality.{Locality}
use Rattle.tables.specs.declared.point.Point.{Point}
use Rattle.tables.specs.Filings.{locality_stands}
use Rattle.tables.specs.PointRows.{point_stands}
use Rattle.tables.specs.Records.{record_if, record_of, locality_of, point_of}

module _ {R X : Type 0} (stands : R → Bool) (make : (row : R) → stands row ≡ true → X) where
  made : (row : R) (b : Bool) (e : stands row ≡ b) (s : stands row ≡ true) → ◌≡◌ {A = Option X} (record_if stands make row b e) (Some (make row s))
  made row true e s = λ j. Some (make row (Bool-set _ _ e s j))
  made row false e s = absurd (false≢true (sym e ∙ s))

  read : (row : R) (s : stands row ≡ true) → ◌≡◌ {A = Option X} (record_of stands make row) (Some (make row s))
  read row s = made row (stands row) refl s

pub locality_read : (l : LocalityRow) (s : locality_stands l ≡ true) → ◌≡◌ {A = Option Locality} (locality_of l) (Some (record { row = l; stands = s }))
locality_read = read locality_stands _

pub point_read : (p : PointRow) (s : point_stands p ≡ true) → ◌≡◌ {A = Option Point} (point_of p) (Some (record { row = p; stands = s }))
point_read = read point_stands _
