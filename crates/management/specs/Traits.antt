-- What figures the traits of a company may have.
use Rattle.std.specs.Prelude.{ℕ, Bool, ◌&&◌, nat_le}
use Rattle.limits.specs.First.{among}

-- at most 10^8 points for class, density 1 to 3, award year 1 to 12
abbrev pub within_limits : ℕ → ℕ → ℕ → Bool
within_limits points density year = nat_le points 100000000 && among 3 density && among 12 year
