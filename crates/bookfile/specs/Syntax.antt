-- Which figures each statement has to give, and what numbers they may be.
use Rattle.std.specs.Prelude.{◌≡◌, ℕ, ◌<◌, Bool, true, false, cond, not, ◌&&◌, List, ℤ, pos, negsuc, Some, None, Option, ◌==◌, int_le, nat_lt, slice_index_or}
use Rattle.bookfile.specs.declared.statement.Kind.{Kind}
use Rattle.bookfile.specs.declared.statement.Kind.TheVariants.{Whole, Byte, Change, OneOfEight, OneOrTwo, ZeroOrOne}
use Rattle.bookfile.specs.declared.statement.Statement.{Statement}
use Rattle.bookfile.specs.declared.statement.Statement.TheVariants.{Tariff, Distribution, Metering, Bracket, Coefficient, Life, Management, Opening, Journal, Register, File, Enrol, Bill, Draw, Cancel, Send, Confirm, Bounce, Close, Reopen, Cost, Component, Served, Revenue, Balance, Account}

-- what number the figure at a place may be
abbrev pub kind_of : Statement → ℕ → Kind
kind_of Distribution i = cond (i == 0) OneOfEight Whole
kind_of Metering i = cond (i == 0) OneOfEight Whole
kind_of Coefficient i = cond (i == 0) OneOfEight Whole
kind_of Life i = cond (i == 0) OneOfEight Whole
kind_of Management i = cond (i == 0) ZeroOrOne Whole
kind_of Opening i = cond (i == 1) Change Whole
kind_of Register i = cond (i == 1) Change Whole
kind_of Bill i = cond (i == 0) Whole Change
kind_of Cancel i = cond (i == 2) Byte Whole
kind_of Send i = cond (i == 2) Byte Whole
kind_of Confirm i = cond (i == 2) Byte Whole
kind_of Bounce i = cond (i == 2) Byte Whole
kind_of Cost i = cond (i == 1) OneOrTwo Whole
kind_of Component i = cond (i == 1) OneOrTwo Whole
kind_of other i = Whole

-- the figures that have to be given: all but those of the tariff, of the management rule, of the opening and of asset rows
abbrev pub needed : Statement → ℕ → Bool
needed Tariff i = false
needed Distribution i = nat_lt i 4
needed Metering i = nat_lt i 4
needed Bracket i = nat_lt i 2
needed Coefficient i = nat_lt i 2
needed Life i = nat_lt i 2
needed Management i = false
needed Opening i = false
needed Journal i = nat_lt i 1
needed Register i = nat_lt i 8
needed File i = nat_lt i 6
needed Enrol i = nat_lt i 4
needed Bill i = nat_lt i 3
needed Draw i = nat_lt i 1
needed Cancel i = nat_lt i 3
needed Send i = nat_lt i 3
needed Confirm i = nat_lt i 3
needed Bounce i = nat_lt i 3
needed Close i = nat_lt i 1
needed Reopen i = nat_lt i 1
needed Cost i = nat_lt i 2
needed Component i = nat_lt i 2
needed Served i = nat_lt i 1
needed Revenue i = nat_lt i 1
needed Balance i = nat_lt i 1
needed Account i = false

abbrev pub least : Kind → ℤ
least Whole = pos 0
least Byte = pos 0
least Change = negsuc 9223372036854775807
least OneOfEight = pos 1
least OneOrTwo = pos 1
least ZeroOrOne = pos 0

abbrev pub most : Kind → ℤ
most Whole = pos 18446744073709551615
most Byte = pos 255
most Change = pos 9223372036854775807
most OneOfEight = pos 8
most OneOrTwo = pos 2
most ZeroOrOne = pos 1

-- a figure may be so: given within its bounds, or left out where it is not needed
abbrev pub allowed : Statement → ℕ → Option ℤ → Bool
allowed s i None = not (needed s i)
allowed s i (Some z) = int_le (least (kind_of s i)) z && int_le z (most (kind_of s i))

-- every figure of a statement may be so; there are 46 places
abbrev pub Good : Statement → List (Option ℤ) → Type 0
Good s zs = (i : ℕ) → i < 46 → allowed s i (slice_index_or zs i None) ≡ true
