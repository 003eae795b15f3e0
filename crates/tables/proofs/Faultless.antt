-- A row stands exactly where its figures keep every limit.
use Rattle.std.proofs.Common.{◌≡◌, ℕ, ◌+◌, not, ◌&&◌, List, [], ◌∷◌, is_some, nat_le, refl, arith}
use Rattle.limits.specs.First.{among}
use Rattle.tables.specs.declared.rows.AssetRow.{AssetRow}
use Rattle.tables.specs.declared.rows.LocalityRow.{LocalityRow}
use Rattle.tables.specs.Standing.{row_stands, rows_stand}
use Rattle.tables.specs.Filings.{Limits, Odds, row_fault, rows_fault, limit_fault, odds_fault, locality_stands}

row : (n m : ℕ) (a : AssetRow) → row_stands a ≡ (not (is_some (row_fault Limits n a)) && not (is_some (row_fault Odds m a)))
row n m a = grind arith

rows : (n : ℕ) (xs : List AssetRow) → rows_stand xs ≡ (not (is_some (rows_fault Limits n xs)) && not (is_some (rows_fault Odds n xs)))
rows n [] = refl
rows n (a ∷ more) = grind (arith, row n n a, rows (n + 5) more)

pub stands : (l : LocalityRow) → locality_stands l ≡ (nat_le l.company 15 && (among 2 l.state && (among 8 l.area && (nat_le l.expected 10000000 && (nat_le l.smart 10000000 && rows_stand l.rows)))))
unfolding locality_stands limit_fault odds_fault
stands l = grind (arith, rows 5 l.rows)
