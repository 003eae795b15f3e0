-- Which figure of a statement a refusal means by its number.
use Rattle.std.specs.Prelude.{ℕ, ◌+◌, ◌-◌, ◌^◌, min}
use Rattle.bookfile.specs.declared.statement.Statement.{Statement}
use Rattle.bookfile.specs.declared.statement.Statement.TheVariants.{Opening, File, Enrol}

-- how many of a statement's names stand before its figure 1
abbrev pub names_before : Statement → ℕ
names_before Opening = 0
names_before File = 2
names_before Enrol = 2
names_before other = 1

-- the place of a figure among a statement's names, from 0, in 64 bits
abbrev pub place_of : Statement → (figure : ℕ) → ℕ
place_of s figure = min (names_before s + figure - 1) (2 ^ 64 - 1)
