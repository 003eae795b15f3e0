-- What belongs to a service of things by asset row.
use Rattle.std.specs.Prelude.{ℕ, List, take, drop}
use Rattle.tables.specs.declared.service.Service.{Service}
use Rattle.tables.specs.declared.service.Service.TheVariants.{Distribution, Metering}

-- the first five asset rows belong to distribution, the last three to metering
abbrev pub of_service : {X : Type 0} → Service → List X → List X
of_service Distribution xs = take 5 xs
of_service Metering xs = take 3 (drop 5 xs)

abbrev pub row_count : Service → ℕ
row_count Distribution = 5
row_count Metering = 3
