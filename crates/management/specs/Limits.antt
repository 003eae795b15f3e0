-- That no rule answers more than 10^9: no definition, only the facts that the rules' ghost members cite.
use Rattle.std.specs.Prelude.{◌≡◌, ℕ, ◌+◌, ◌-◌, ◌≤◌, false, List, is_some, nat_le, slice_index_or, refl}
use Rattle.std.proofs.Common.{mul-le-mul_right, arith}
use Rattle.std.proofs.lemmas.Bool.{leb-true, cond_both}
use Rattle.limits.specs.First.{point_price_fits, first_beyond}
use Rattle.limits.proofs.Firsts.{fits_at}
use Rattle.rounding.proofs.HalfLaw.{rounded_at_most}
use Rattle.units.specs.declared.amounts.PointPrice.{PointPrice}
use Rattle.management.specs.declared.size.Size.{Size}
use Rattle.management.specs.declared.size.Size.TheVariants.{Medium, Large}
use Rattle.management.specs.declared.weights.Weights.{Weights}
use Rattle.management.specs.Prices.{price_of}
use Rattle.management.specs.Sizes.{figure, size_of}
use Rattle.management.specs.Weights.{weights_of, weighed, mean}
use Rattle.management.specs.Rules.{municipal_price, area_wide_price}

pub at_limited : (prices : List PointPrice) → is_some (first_beyond point_price_fits 1 prices) ≡ false → (k : ℕ) → (slice_index_or prices k (record { 0 = 0 })).0 ≤ 1000000000
at_limited prices within k = leb-true _ _ (fits_at point_price_fits (record { 0 = 0 }) refl 1 prices within k)

pub four_quarters : (year : ℕ) → (weights_of year).0 + (weights_of year).1 ≡ 4
four_quarters year = grind arith

pub mean_limited : (w : Weights) (medium large : ℕ) → w.0 + w.1 ≡ 4 → medium ≤ 1000000000 → large ≤ 1000000000 → mean w medium large ≤ 1000000000
mean_limited w medium large four m l =
    rounded_at_most (weighed w medium large) 4 1000000000 (omega (arith, mul-le-mul_right w.0 m, mul-le-mul_right w.1 l))

module _ (prices : List PointPrice) (within : is_some (first_beyond point_price_fits 1 prices) ≡ false) where
  pub price_limited : (size : Size) (density : ℕ) → price_of prices size density ≤ 1000000000
  price_limited size density = at_limited prices within (figure size density - 1)

  pub municipal_limited : (points density : ℕ) → municipal_price prices points density ≤ 1000000000
  municipal_limited points density = price_limited (size_of points) density

  pub area_wide_limited : (points density year : ℕ) → area_wide_price prices points density year ≤ 1000000000
  area_wide_limited points density year =
      let large = price_limited Large density in
      let mixed = mean_limited (weights_of year) _ _ (four_quarters year) (price_limited Medium density) large in
      cond_both (nat_le points 300000) _ _ (λ x. x ≤ 1000000000) (λ _. mixed) (λ _. large)
