-- What a refusal is, and what number and which layer each has.
use Rattle.std.specs.Prelude.{ℕ, Ok, Err, Result}
use Rattle.units.specs.declared.refusal.Reason.{Reason}
use Rattle.units.specs.declared.refusal.Reason.TheVariants.{TariffLimit, BookNotOpen, BookInUse, PastTable, NothingThere, PlaceTaken, FigureLimit, FiguresAtOdds, CompanyClosed, CompanyOpen, OrderOut, AllPaid, NotTheOrderOut, VolumeRange, DaysRange, JournalFull, NoExpectedPoints}
use Rattle.units.specs.declared.refusal.Refusal.{Refusal}
use Rattle.units.specs.declared.refusal.Layer.{Layer}
use Rattle.units.specs.declared.refusal.Layer.TheVariants.{Tariff, Tables, Book, Journal}

-- the seventeen reasons, in the order in which a call is tested
abbrev pub reason_number : Reason → ℕ
reason_number TariffLimit = 1
reason_number BookNotOpen = 2
reason_number BookInUse = 3
reason_number PastTable = 4
reason_number NothingThere = 5
reason_number PlaceTaken = 6
reason_number FigureLimit = 7
reason_number FiguresAtOdds = 8
reason_number CompanyClosed = 9
reason_number CompanyOpen = 10
reason_number OrderOut = 11
reason_number AllPaid = 12
reason_number NotTheOrderOut = 13
reason_number VolumeRange = 14
reason_number DaysRange = 15
reason_number JournalFull = 16
reason_number NoExpectedPoints = 17

-- the layer that answers for each reason
abbrev pub reason_layer : Reason → Layer
reason_layer TariffLimit = Tariff
reason_layer BookNotOpen = Book
reason_layer BookInUse = Book
reason_layer PastTable = Tables
reason_layer NothingThere = Tables
reason_layer PlaceTaken = Tables
reason_layer FigureLimit = Tables
reason_layer FiguresAtOdds = Tables
reason_layer CompanyClosed = Book
reason_layer CompanyOpen = Book
reason_layer OrderOut = Book
reason_layer AllPaid = Book
reason_layer NotTheOrderOut = Book
reason_layer VolumeRange = Tables
reason_layer DaysRange = Tables
reason_layer JournalFull = Journal
reason_layer NoExpectedPoints = Tables

abbrev pub layer_number : Layer → ℕ
layer_number Tariff = 1
layer_number Tables = 2
layer_number Book = 3
layer_number Journal = 4

-- a refusal by a reason, at a place
abbrev pub refusal : Reason → ℕ → Refusal
refusal reason place = record { reason = reason; place = place }

-- a refusal that names its reason alone names this place
abbrev pub refused_at : {X : Type 0} → ℕ → Result X Reason → Result X Refusal
refused_at place (Ok x) = Ok x
refused_at place (Err reason) = Err (refusal reason place)
