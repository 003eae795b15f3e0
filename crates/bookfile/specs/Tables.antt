-- What table the statements make.
use Rattle.std.specs.Prelude.{ℕ, ◌+◌, ◌-◌, ◌*◌, cond, List, replicate, ℤ, Some, None, Option, nat_lt}
use Rattle.bookfile.specs.declared.statement.Statement.{Statement}
use Rattle.bookfile.specs.declared.statement.Statement.TheVariants.{Tariff, Distribution, Metering, Bracket, Coefficient, Life, Management, Opening, Journal}
use Rattle.bookfile.specs.declared.table.Table.{Table}
use Rattle.bookfile.specs.declared.slots.Span.{Span}
use Rattle.bookfile.specs.Numbers.{whole_at}
use Rattle.bookfile.specs.Slots.{and_then, placed_all}

-- a table without figures
abbrev pub empty_table : Table
empty_table = record { slots = replicate 104 None; brackets = 0 }

-- no figures
abbrev pub no_span : ℕ → Span
no_span k = record { slot = 0; first = 0; count = 0; brackets = k }

-- the figures of the next bracket, after k of them: there is no ninth
abbrev pub next_bracket : ℕ → Option Span
next_bracket k = cond (nat_lt k 8) (Some (record { slot = 75 + 2 * k; first = 0; count = 2; brackets = k + 1 })) None

-- the figures of a statement that go into a table of k brackets, to which slots, and how many brackets it has then:
-- a row's figures follow those of the row before
abbrev pub span_of : Statement → List (Option ℤ) → ℕ → Option Span
span_of Tariff zs k = Some (record { slot = 0; first = 0; count = 11; brackets = k })
span_of Distribution zs k = Some (record { slot = 11 + 3 * (whole_at zs 0 - 1); first = 1; count = 3; brackets = k })
span_of Metering zs k = Some (record { slot = 35 + 3 * (whole_at zs 0 - 1); first = 1; count = 3; brackets = k })
span_of Coefficient zs k = Some (record { slot = 59 + 1 * (whole_at zs 0 - 1); first = 1; count = 1; brackets = k })
span_of Life zs k = Some (record { slot = 67 + 1 * (whole_at zs 0 - 1); first = 1; count = 1; brackets = k })
span_of Bracket zs k = next_bracket k
span_of Management zs k = Some (record { slot = 91; first = 0; count = 10; brackets = k })
span_of Opening zs k = Some (record { slot = 101; first = 0; count = 2; brackets = k })
span_of Journal zs k = Some (record { slot = 103; first = 0; count = 1; brackets = k })
span_of call zs k = Some (no_span k)

-- the table after a statement
abbrev pub table_after : Statement → List (Option ℤ) → Table → Option Table
table_after s zs t =
    and_then (span_of s zs t.brackets) (λ p.
    and_then (placed_all t.slots p.slot zs p.first p.count) (λ slots.
    Some (record { slots = slots; brackets = p.brackets })))
