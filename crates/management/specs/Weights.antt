-- How much of the medium and of the large price counts.
use Rattle.std.specs.Prelude.{ℕ, ◌+◌, ◌*◌, cond, ◌==◌, nat_le}
use Rattle.rounding.specs.Frac.{over}
use Rattle.rounding.specs.Rounding.{rounded}
use Rattle.management.specs.declared.weights.Weights.{Weights}

-- so many quarters of the medium and of the large price
abbrev pub quarters : ℕ → ℕ → Weights
quarters medium large = record { 0 = medium; 1 = large }

-- by award year: four years half of each, one year a quarter and three, then the large price alone
abbrev pub weights_of : ℕ → Weights
weights_of year = cond (nat_le year 4) (quarters 2 2) (cond (year == 5) (quarters 1 3) (quarters 0 4))

-- the mix of both prices, in quarters
abbrev pub weighed : Weights → ℕ → ℕ → ℕ
weighed w medium large = medium * w.0 + large * w.1

-- the weighed price: a quarter of that sum, rounded once
abbrev pub mean : Weights → ℕ → ℕ → ℕ
mean w medium large = rounded (over (weighed w medium large) 4)
