-- Past the locality table no locality stands.
use Rattle.std.proofs.Common.{◌≡◌, ℕ, Bool, true, false, ◌&&◌, List, ◌==◌, refl, ap, ◌∙◌}
use Rattle.tables.specs.declared.rows.LocalityRow.{LocalityRow}
use Rattle.tables.specs.declared.rows.PointRow.{PointRow}
use Rattle.tables.specs.Blank.{past_table, past_table_blank}
use Rattle.tables.specs.PointRows.{point_stands}
use Rattle.revenue.specs.Owners.{owns, point_locality, serves}

nor_this : (b : Bool) → (b && false) ≡ false
nor_this true = refl
nor_this false = refl

-- a point in a locality past the table is nobody's
pub without_locality : (ls : List LocalityRow) (company : ℕ) (p : PointRow) → point_locality ls p ≡ past_table → serves ls company p ≡ false
without_locality ls company p past =
    ap (λ (l : LocalityRow). point_stands p && owns company l) past
    ∙ ap (λ (b : Bool). point_stands p && (b && past_table.company == company)) past_table_blank
    ∙ nor_this (point_stands p)
