-- What number each figure of a tariff table has.
use Rattle.std.specs.Prelude.{◌≡◌, ℕ, ◌+◌, ◌-◌, ◌*◌, ◌≤◌}
use Rattle.bookfile.specs.declared.naming.Figure.{Figure}
use Rattle.bookfile.specs.declared.naming.Figure.TheVariants.{Days, Distribution, Metering, Commercial, BracketCount, BracketEnd, BracketPrice, Coefficient, Gs, Ug1, Rate, Life, Cou, Coa, Telcon, Avv, Ins, Rac}

-- the number of a figure in a table of k brackets: the table's order, from 1
abbrev pub figure_number : Figure → ℕ → ℕ
figure_number Days k = 1
figure_number (Distribution area class) k = 1 + (3 * (area - 1) + class)
figure_number (Metering area class) k = 25 + (3 * (area - 1) + class)
figure_number Commercial k = 50
figure_number BracketCount k = 51
figure_number (BracketEnd bracket) k = 51 + bracket
figure_number (BracketPrice bracket) k = 51 + (k + bracket)
figure_number (Coefficient area) k = 51 + (2 * k + area)
figure_number Gs k = 60 + 2 * k
figure_number Ug1 k = 61 + 2 * k
figure_number Rate k = 62 + 2 * k
figure_number (Life row) k = 62 + (2 * k + row)
figure_number Cou k = 71 + 2 * k
figure_number Coa k = 72 + 2 * k
figure_number Telcon k = 73 + 2 * k
figure_number Avv k = 74 + 2 * k
figure_number Ins k = 75 + 2 * k
figure_number Rac k = 76 + 2 * k

-- n is one of 1 to most
abbrev pub Among : ℕ → ℕ → Type 0
Among most n = (1 ≤ n) × (n ≤ most)

-- a table of k brackets has the figure: areas 1 to 8, classes 1 to 3, brackets 1 to k, asset rows 1 to 8
abbrev pub Has : ℕ → Figure → Type 0
Has k Days = Unit {0}
Has k (Distribution area class) = Among 8 area × Among 3 class
Has k (Metering area class) = Among 8 area × Among 3 class
Has k Commercial = Unit {0}
Has k BracketCount = Unit {0}
Has k (BracketEnd bracket) = Among k bracket
Has k (BracketPrice bracket) = Among k bracket
Has k (Coefficient area) = Among 8 area
Has k Gs = Unit {0}
Has k Ug1 = Unit {0}
Has k Rate = Unit {0}
Has k (Life row) = Among 8 row
Has k Cou = Unit {0}
Has k Coa = Unit {0}
Has k Telcon = Unit {0}
Has k Avv = Unit {0}
Has k Ins = Unit {0}
Has k Rac = Unit {0}

-- f is a figure of a table of k brackets, and has this number
pub record Named (f : Figure) (number k : ℕ) : Type 0 where
  pub has : Has k f
  pub is : figure_number f k ≡ number

-- no figure of a table of k brackets has this number
abbrev pub Nameless : ℕ → ℕ → Type 0
Nameless number k = (f : Figure) → Named f number k → ⊥
