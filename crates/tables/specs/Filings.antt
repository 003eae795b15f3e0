-- What is wrong with the figures of a locality, and which row counts as one.
use Rattle.std.specs.Prelude.{ℕ, ◌+◌, ◌≤◌, Bool, not, ◌&&◌, List, [], ◌∷◌, is_some, Some, None, Option, ◌==◌, nat_le, slice_index_or}
use Rattle.limits.specs.First.{among, unless, first_of}
use Rattle.units.specs.declared.refusal.Refusal.{Refusal}
use Rattle.units.specs.declared.refusal.Reason.TheVariants.{FigureLimit, FiguresAtOdds}
use Rattle.units.specs.Refusals.{refusal}
use Rattle.tables.specs.declared.rows.AssetRow.{AssetRow}
use Rattle.tables.specs.declared.rows.LocalityRow.{LocalityRow}

-- the two tests of an asset row: its figures against their limit, and against one another
pub data Test : Type 0 where
  Limits : Test
  Odds : Test

-- no figure of an asset row exceeds 10^10 cents
abbrev pub asset_fits : ℕ → Bool
asset_fits cents = nat_le cents 10000000000

-- the first fault of an asset row whose figures are n to n + 4: gross, net, works, contributions, remaining contributions.
-- Assets are worth no more net than gross, and nobody contributed more than they cost; what is left of the contributions is no more than
-- was contributed, nor than the assets are still worth.
abbrev pub row_fault : Test → ℕ → AssetRow → Option ℕ
row_fault Limits n a =
    first_of
    (unless (asset_fits a.gross) n
    ∷ unless (asset_fits a.net) (n + 1)
    ∷ unless (asset_fits a.works) (n + 2)
    ∷ unless (asset_fits a.contributions) (n + 3)
    ∷ unless (asset_fits a.remaining) (n + 4)
    ∷ [])
row_fault Odds n a =
    first_of
    (unless (nat_le a.net a.gross) (n + 1)
    ∷ unless (nat_le a.contributions a.gross) (n + 3)
    ∷ unless (nat_le a.remaining a.net && nat_le a.remaining a.contributions) (n + 4)
    ∷ [])

-- the first fault of asset rows, five figures each
abbrev pub rows_fault : Test → ℕ → List AssetRow → Option ℕ
rows_fault test n [] = None
rows_fault test n (a ∷ more) = first_of (row_fault test n a ∷ rows_fault test (n + 5) more ∷ [])

-- the first figure beyond its limit: state 1, area 2, expected points 3, smart points 4, row r from 5r
unfoldable pub limit_fault : LocalityRow → Option ℕ
limit_fault l =
    first_of
    (unless (among 2 l.state) 1
    ∷ unless (among 8 l.area) 2
    ∷ unless (nat_le l.expected 10000000) 3
    ∷ unless (nat_le l.smart 10000000) 4
    ∷ rows_fault Limits 5 l.rows
    ∷ [])

-- what filing again may not change: the company is 0, the state 1, the area 2
abbrev pub change_fault : Option LocalityRow → LocalityRow → Option ℕ
change_fault None new = None
change_fault (Some old) new =
    first_of
    (unless (new.company == old.company) 0
    ∷ unless (new.state == old.state) 1
    ∷ unless (new.area == old.area) 2
    ∷ [])

-- the first figure at odds with the record, or with an earlier figure of its row
unfoldable pub odds_fault : Option LocalityRow → LocalityRow → Option ℕ
odds_fault old new = first_of (change_fault old new ∷ rows_fault Odds 5 new.rows ∷ [])

-- refusal 7 at the first figure beyond its limit, or else 8 at the first at odds
abbrev pub fault_of : Option ℕ → Option ℕ → Option Refusal
fault_of (Some n) odds = Some (refusal FigureLimit n)
fault_of None (Some n) = Some (refusal FiguresAtOdds n)
fault_of None None = None

-- what filing figures over those on record meets
abbrev pub filing_fault : Option LocalityRow → LocalityRow → Option Refusal
filing_fault old new = fault_of (limit_fault new) (odds_fault old new)

-- a row stands if its company is one of 0 to 15 and its figures have no fault
unfoldable pub locality_stands : LocalityRow → Bool
locality_stands l = nat_le l.company 15 && not (is_some (filing_fault None l))

abbrev pub no_asset : AssetRow
no_asset = record { gross = 0; net = 0; works = 0; contributions = 0; remaining = 0 }

-- The limits of an asset row, one by one.
pub record AssetHeld (a : AssetRow) : Type 0 where
  pub gross : a.gross ≤ 10000000000
  pub works : a.works ≤ 10000000000
  pub net : a.net ≤ a.gross
  pub contributions : a.contributions ≤ a.gross
  pub remaining : (a.remaining ≤ a.net) × (a.remaining ≤ a.contributions)

abbrev pub AllHeld : List AssetRow → Type 0
AllHeld rows = (i : ℕ) → AssetHeld (slice_index_or rows i no_asset)

-- The limits of a locality, one by one.
pub record Held (l : LocalityRow) : Type 0 where
  pub company : l.company ≤ 15
  pub state : (1 ≤ l.state) × (l.state ≤ 2)
  pub area : (1 ≤ l.area) × (l.area ≤ 8)
  pub expected : l.expected ≤ 10000000
  pub smart : l.smart ≤ 10000000
  pub rows : AllHeld l.rows
