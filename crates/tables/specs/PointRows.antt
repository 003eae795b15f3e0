-- Which row of the point table counts as a point.
use Rattle.std.specs.Prelude.{◌≤◌, Bool, ◌&&◌, nat_le}
use Rattle.tariff.specs.declared.bill.Bill.{Bill}
use Rattle.tables.specs.declared.rows.PointRow.{PointRow}

-- a locality's place, class 1 to 3, domestic 0 or 1, at most 10^9 Smc and 366 days
unfoldable pub point_stands : PointRow → Bool
point_stands p =
    nat_le p.locality 255 && nat_le 1 p.class && nat_le p.class 3 && nat_le p.domestic 1 && nat_le p.volume 1000000000 && nat_le p.days 366

-- The limits of a point, one by one.
pub record PointHeld (p : PointRow) : Type 0 where
  pub locality : p.locality ≤ 255
  pub class : (1 ≤ p.class) × (p.class ≤ 3)
  pub domestic : p.domestic ≤ 1
  pub volume : p.volume ≤ 1000000000
  pub days : p.days ≤ 366

-- a bill brings its point to the volume and days after it
abbrev pub billed_row : PointRow → Bill → PointRow
billed_row p bill = record { locality = p.locality; class = p.class; domestic = p.domestic; volume = bill.volume; days = bill.days }
