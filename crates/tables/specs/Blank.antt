-- What a blank row is: one with no figures, which does not stand.
use Rattle.std.specs.Prelude.{◌≡◌, false, [], replicate, refl}
use Rattle.tables.specs.declared.rows.LocalityRow.{LocalityRow}
use Rattle.tables.specs.declared.rows.PointRow.{PointRow}
use Rattle.tables.specs.Filings.{no_asset, limit_fault, locality_stands}
use Rattle.tables.specs.PointRows.{point_stands}

abbrev pub no_point : PointRow
no_point = record { locality = 0; class = 0; domestic = 0; volume = 0; days = 0 }

abbrev pub no_locality : LocalityRow
no_locality = record { company = 0; state = 0; area = 0; expected = 0; smart = 0; rows = replicate 8 no_asset }

-- what is read past the locality table, which does not stand either
abbrev pub past_table : LocalityRow
past_table = record { company = 0; state = 0; area = 0; expected = 0; smart = 0; rows = [] }

pub no_point_blank : point_stands no_point ≡ false
unfolding point_stands
no_point_blank = refl

pub past_table_blank : locality_stands past_table ≡ false
unfolding locality_stands limit_fault
past_table_blank = refl
