-- What the two management rules answer.
use Rattle.std.specs.Prelude.{ℕ, cond, List, nat_le}
use Rattle.units.specs.declared.amounts.PointPrice.{PointPrice}
use Rattle.management.specs.declared.size.Size.TheVariants.{Medium, Large}
use Rattle.management.specs.Sizes.{size_of}
use Rattle.management.specs.Prices.{price_of}
use Rattle.management.specs.Weights.{weights_of, mean}

-- municipal: the price of the company's own size and density
abbrev pub municipal_price : List PointPrice → ℕ → ℕ → ℕ
municipal_price prices points density = price_of prices (size_of points) density

-- area-wide: beyond 300,000 points the large price; up to there a mean of medium and large, by the award year
abbrev pub area_wide_price : List PointPrice → ℕ → ℕ → ℕ → ℕ
area_wide_price prices points density year =
    cond (nat_le points 300000)
    (mean (weights_of year) (price_of prices Medium density) (price_of prices Large density))
    (price_of prices Large density)
