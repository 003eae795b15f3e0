-- How calls are counted.
use Rattle.std.specs.Prelude.{ℕ, Bool, true, false, cond, ◌+◌, ◌^◌, ◌-◌, min, nat_lt, slice_set}
use Rattle.told.specs.declared.summary.Summary.{Summary}

-- one more, up to the most that a word holds
abbrev pub one_more : ℕ → ℕ
one_more n = min (n + 1) (2 ^ 64 - 1)

-- a granted call is one granted more, a refused one is one refused more, and the lines of the first ten stand in their order
abbrev pub counted : Summary → (line : ℕ) → (is_granted : Bool) → Summary
counted s line true = record { granted = one_more s.granted; refused = s.refused; lines = s.lines }
counted s line false =
    record { granted = s.granted; refused = one_more s.refused; lines = cond (nat_lt s.refused 10) (slice_set s.lines s.refused line) s.lines }
