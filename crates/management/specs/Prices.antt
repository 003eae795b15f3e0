-- Which nine prices make a management rule, and which of them is that of a size and a density.
use Rattle.std.specs.Prelude.{ℕ, ◌-◌, List, Result, slice_index_or}
use Rattle.limits.specs.Checked.{unless_bad}
use Rattle.limits.specs.First.{point_price_fits, first_beyond}
use Rattle.units.specs.declared.amounts.PointPrice.{PointPrice}
use Rattle.units.specs.declared.refusal.Refusal.{Refusal}
use Rattle.units.specs.declared.refusal.Reason.TheVariants.{FigureLimit}
use Rattle.management.specs.declared.size.Size.{Size}
use Rattle.management.specs.Sizes.{figure}

-- these prices, or the refusal of the first one beyond the limit; the figures count from 1
abbrev pub checked : List PointPrice → Result (List PointPrice) Refusal
checked prices = unless_bad FigureLimit prices (first_beyond point_price_fits 1 prices)

-- the price with this number, in millionths of a euro
abbrev pub price_at : List PointPrice → ℕ → ℕ
price_at prices n = (slice_index_or prices (n - 1) (record { 0 = 0 })).0

-- the price of this size and density
abbrev pub price_of : List PointPrice → Size → ℕ → ℕ
price_of prices size density = price_at prices (figure size density)
