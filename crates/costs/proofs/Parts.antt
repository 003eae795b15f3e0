-- A part of rows that keep their limits keeps them too.
use Rattle.std.proofs.Common.{ℕ, zero, suc, ◌+◌, List, [], ◌∷◌, take, drop, arith}
use Rattle.std.proofs.lemmas.List.{get_or-drop}
use Rattle.tables.specs.declared.rows.AssetRow.{AssetRow}
use Rattle.tables.specs.declared.service.Service.{Service}
use Rattle.tables.specs.declared.service.Service.TheVariants.{Distribution, Metering}
use Rattle.tables.specs.Services.{of_service}
use Rattle.tables.specs.Filings.{no_asset, AssetHeld, AllHeld}

no_asset_held : AssetHeld no_asset
no_asset_held = record { gross = omega arith; works = omega arith; net = omega arith; contributions = omega arith; remaining = (omega arith, omega arith) }

held_front : (n : ℕ) (rows : List AssetRow) → AllHeld rows → AllHeld (take n rows)
held_front zero rows h i = no_asset_held
held_front (suc n) [] h i = no_asset_held
held_front (suc n) (a ∷ rows) h zero = h 0
held_front (suc n) (a ∷ rows) h (suc i) = held_front n rows (λ j. h (suc j)) i

held_back : (n : ℕ) (rows : List AssetRow) → AllHeld rows → AllHeld (drop n rows)
held_back n rows h i = rw (get_or-drop n rows i no_asset) (h (n + i))

pub held_of_service : (service : Service) (rows : List AssetRow) → AllHeld rows → AllHeld (of_service service rows)
held_of_service Distribution rows h = held_front 5 rows h
held_of_service Metering rows h = held_front 3 (drop 5 rows) (held_back 5 rows h)
