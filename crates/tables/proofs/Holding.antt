-- A row that stands keeps every limit.
use Rattle.std.proofs.Common.{◌≡◌, ℕ, zero, suc, ◌+◌, true, false, List, [], ◌∷◌, get_or, is_some, refl, arith}
use Rattle.tables.specs.declared.rows.AssetRow.{AssetRow}
use Rattle.tables.specs.declared.rows.LocalityRow.{LocalityRow}
use Rattle.tables.specs.declared.rows.PointRow.{PointRow}
use Rattle.tables.specs.PointRows.{point_stands, PointHeld}
use Rattle.tables.specs.Filings.{Test, Limits, Odds, row_fault, rows_fault, limit_fault, odds_fault, locality_stands, no_asset, AssetHeld, Held}

-- no fault in the rows, so none in any of them, whatever numbers its figures have
row_good : (test : Test) → ((m : ℕ) → is_some (row_fault test m no_asset) ≡ false) → (n : ℕ) (rows : List AssetRow) → is_some (rows_fault test n rows) ≡ false → (i : ℕ) → (m : ℕ) × (is_some (row_fault test m (get_or rows i no_asset)) ≡ false)
row_good test blank n [] h i = (n, blank n)
row_good test blank n (a ∷ more) h zero = (n, grind arith)
row_good test blank n (a ∷ more) h (suc i) = row_good test blank (n + 5) more (grind arith) i

module _ (a : AssetRow) (m k : ℕ) (fits : is_some (row_fault Limits m a) ≡ false) (even : is_some (row_fault Odds k a) ≡ false) where
  asset_held : AssetHeld a
  asset_held =
      record { gross = grind arith; works = grind arith; net = grind arith; contributions = grind arith; remaining = (grind arith, grind arith) }

pub held : (l : LocalityRow) → locality_stands l ≡ true → Held l
unfolding locality_stands limit_fault odds_fault
held l h =
    let fits : is_some (rows_fault Limits 5 l.rows) ≡ false = grind arith in
    let even : is_some (rows_fault Odds 5 l.rows) ≡ false = grind arith in
    record {
      company = grind arith;
      state = (grind arith, grind arith);
      area = (grind arith, grind arith);
      expected = grind arith;
      smart = grind arith;
      rows =
          λ i.
          let limits = row_good Limits (λ m. refl) 5 l.rows fits i in
          let odds = row_good Odds (λ m. refl) 5 l.rows even i in
          asset_held (get_or l.rows i no_asset) limits.0 odds.0 limits.1 odds.1;
    }

pub point_held : (p : PointRow) → point_stands p ≡ true → PointHeld p
unfolding point_stands
point_held p h = record { locality = grind arith; class = (grind arith, grind arith); domestic = grind arith; volume = grind arith; days = grind arith }
