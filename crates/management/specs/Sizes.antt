-- What size a company has, and how the nine prices are numbered.
use Rattle.std.specs.Prelude.{ℕ, ◌+◌, ◌-◌, ◌*◌, cond, nat_le}
use Rattle.management.specs.declared.size.Size.{Size}
use Rattle.management.specs.declared.size.Size.TheVariants.{Small, Medium, Large}

-- by points for class: 50,000 are still small, and 300,000 still medium
abbrev pub size_of : ℕ → Size
size_of points = cond (nat_le points 50000) Small (cond (nat_le points 300000) Medium Large)

abbrev pub size_number : Size → ℕ
size_number Small = 1
size_number Medium = 2
size_number Large = 3

-- the number of a price among the nine: small first, and within a size by density
abbrev pub figure : Size → ℕ → ℕ
figure size density = 3 * (size_number size - 1) + density
