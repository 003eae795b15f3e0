-- What the limits of a tariff table are, and which of its figures is the first beyond them.
use Rattle.std.specs.Prelude.{◌≡◌, ℕ, suc, ◌+◌, ◌*◌, ◌<◌, ◌≤◌, Bool, cond, ◌&&◌, ◌||◌, ◌⊎◌, List, [], ◌∷◌, length, take, Some, None, Option, ◌==◌, nat_le, nat_lt, slice_index_or}
use Rattle.units.specs.declared.amounts.PointPrice.{PointPrice}
use Rattle.units.specs.declared.amounts.VolumePrice.{VolumePrice}
use Rattle.limits.specs.First.{point_price_fits, volume_price_fits, unless, first_beyond, first_of}
use Rattle.tariff.specs.declared.figures.Bracket.{Bracket}
use Rattle.tariff.specs.declared.figures.Coefficient.{Coefficient}
use Rattle.tariff.specs.declared.figures.Life.{Life}
use Rattle.tariff.specs.declared.figures.Rate.{Rate}
use Rattle.tariff.specs.declared.figures.TariffFigures.{TariffFigures}

-- a year has 365 or 366 days
abbrev pub days_fit : ℕ → Bool
days_fit y = y == 365 || y == 366

-- the commercial price divides the served points, so it is never 0
abbrev pub commercial_fits : PointPrice → Bool
commercial_fits p = nat_le 1 p.0 && nat_le p.0 1000000000

abbrev pub count_fits : ℕ → Bool
count_fits k = nat_le 1 k && nat_le k 8

abbrev pub coefficient_fits : Coefficient → Bool
coefficient_fits c = nat_le c.0 2000000

abbrev pub rate_fits : Rate → Bool
rate_fits r = nat_le r.0 2000

abbrev pub life_fits : Life → Bool
life_fits l = nat_le l.0 60

abbrev pub reference_fits : Bracket → Bool
reference_fits b = volume_price_fits b.reference

-- the first end that is not above the one before it, or the last end if it is not 10^9
abbrev pub first_bad_end : ℕ → List Bracket → Option ℕ
first_bad_end n [] = None
first_bad_end n (b ∷ []) = unless (b.end == 1000000000) n
first_bad_end n (b ∷ (c ∷ bs)) = cond (nat_lt b.end c.end) (first_bad_end (n + 1) (c ∷ bs)) (Some (n + 1))

-- the brackets of a table
abbrev pub brackets_of : TariffFigures → List Bracket
brackets_of f = take f.count f.brackets

-- the prices of lines 5 and 6
abbrev pub components_of : TariffFigures → List VolumePrice
components_of f = f.gs ∷ f.ug1 ∷ []

-- the prices that make up recognised revenue
abbrev pub costs_of : TariffFigures → List PointPrice
costs_of f = f.cou ∷ f.coa ∷ f.telcon ∷ f.avv ∷ f.ins ∷ f.rac ∷ []

abbrev pub no_bracket : Bracket
no_bracket = record { end = 0; reference = record { 0 = 0 } }

-- the reference prices of brackets keep their limit
abbrev pub Priced : List Bracket → Type 0
Priced bs = (i : ℕ) → (slice_index_or bs i no_bracket).reference.0 ≤ 100000000

abbrev pub end_at : TariffFigures → ℕ → ℕ
end_at f i = (slice_index_or (brackets_of f) i no_bracket).end

-- the tests of figures 1 to 51: the days, line 1 from 2, line 2 from 26, line 3, and the number of brackets
unfoldable pub fixed_tests : TariffFigures → List (Option ℕ)
fixed_tests f =
    unless (days_fit f.days) 1
    ∷ first_beyond point_price_fits 2 f.distribution
    ∷ first_beyond point_price_fits 26 f.metering
    ∷ unless (commercial_fits f.commercial) 50
    ∷ unless (count_fits f.count) 51
    ∷ []

-- then, with k brackets, their ends from 52, their prices from 52 + k, the coefficients from 52 + 2k, GS and UG1
unfoldable pub variable_tests : TariffFigures → List (Option ℕ)
variable_tests f =
    first_bad_end 52 (brackets_of f)
    ∷ first_beyond reference_fits (52 + f.count) (brackets_of f)
    ∷ first_beyond coefficient_fits (52 + 2 * f.count) f.coefficients
    ∷ first_beyond volume_price_fits (60 + 2 * f.count) (components_of f)
    ∷ []

-- then the rate of return, 62 + 2k, the lives from 63 + 2k, and the six prices from cou to rac from 71 + 2k
unfoldable pub cost_tests : TariffFigures → List (Option ℕ)
cost_tests f =
    unless (rate_fits f.rate) (62 + 2 * f.count)
    ∷ first_beyond life_fits (63 + 2 * f.count) f.lives
    ∷ first_beyond point_price_fits (71 + 2 * f.count) (costs_of f)
    ∷ []

-- the first bad figure of a table, in that order; none where every limit is kept
unfoldable pub first_bad_figure : TariffFigures → Option ℕ
first_bad_figure f = first_of (first_of (fixed_tests f) ∷ first_of (variable_tests f) ∷ first_of (cost_tests f) ∷ [])

-- the prices of a list keep the limit of a point price
abbrev pub PointPriced : List PointPrice → Type 0
PointPriced prices = (i : ℕ) → (slice_index_or prices i (record { 0 = 0 })).0 ≤ 1000000000

-- The same limits, one by one. A place past the end of a list reads as 0.
pub record Within (f : TariffFigures) : Type 0 where
  pub year : (f.days ≡ 365) ⊎ (f.days ≡ 366)
  pub distribution : PointPriced f.distribution
  pub metering : PointPriced f.metering
  pub commercial : (1 ≤ f.commercial.0) × (f.commercial.0 ≤ 1000000000)
  pub count : (1 ≤ f.count) × (f.count ≤ 8)
  pub rises : (i : ℕ) → suc i < length (brackets_of f) → end_at f i < end_at f (suc i)
  pub last : (i : ℕ) → suc i ≡ length (brackets_of f) → end_at f i ≡ 1000000000
  pub reference : Priced (brackets_of f)
  pub coefficients : (i : ℕ) → (slice_index_or f.coefficients i (record { 0 = 0 })).0 ≤ 2000000
  pub components : (i : ℕ) → (slice_index_or (components_of f) i (record { 0 = 0 })).0 ≤ 100000000
  pub rate : f.rate.0 ≤ 2000
  pub lives : (i : ℕ) → (slice_index_or f.lives i (record { 0 = 0 })).0 ≤ 60
  pub costs : (i : ℕ) → (slice_index_or (costs_of f) i (record { 0 = 0 })).0 ≤ 1000000000
