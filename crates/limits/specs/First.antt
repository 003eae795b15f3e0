-- What the first bad one of numbered figures is.
use Rattle.std.specs.Prelude.{ℕ, ◌+◌, Bool, cond, ◌&&◌, List, [], ◌∷◌, Some, None, Option, nat_le}
use Rattle.units.specs.declared.amounts.PointPrice.{PointPrice}
use Rattle.units.specs.declared.amounts.VolumePrice.{VolumePrice}

-- a point price is at most 10^9
abbrev pub point_price_fits : PointPrice → Bool
point_price_fits p = nat_le p.0 1000000000

-- a volume price is at most 10^8
abbrev pub volume_price_fits : VolumePrice → Bool
volume_price_fits p = nat_le p.0 100000000

-- n is one of 1 to most
abbrev pub among : ℕ → ℕ → Bool
among most n = nat_le 1 n && nat_le n most

-- figure n, if it is bad
abbrev pub unless : Bool → ℕ → Option ℕ
unless fits n = cond fits None (Some n)

-- the first bad one of figures n, n + 1 and so on
abbrev pub first_beyond : {X : Type 0} → (X → Bool) → ℕ → List X → Option ℕ
first_beyond fits n [] = None
first_beyond fits n (x ∷ xs) = cond (fits x) (first_beyond fits (n + 1) xs) (Some n)

-- the first that there is
abbrev pub first_of : List (Option ℕ) → Option ℕ
first_of [] = None
first_of (None ∷ os) = first_of os
first_of (Some n ∷ os) = Some n
