-- What the number of a refusal's place counts, by the call that is refused.
use Rattle.std.specs.Prelude.{ℕ, cond, ◌==◌, nat_lt}
use Rattle.units.specs.declared.refusal.Reason.{Reason}
use Rattle.units.specs.declared.refusal.Reason.TheVariants as reason
use Rattle.units.specs.declared.refusal.Refusal.{Refusal}
use Rattle.calls.specs.declared.call.Call.{Call}
use Rattle.calls.specs.declared.call.Call.TheVariants as call
use Rattle.calls.specs.declared.call.Question.TheVariants as question
use Rattle.told.specs.declared.thing.Thing.{Thing}
use Rattle.told.specs.declared.thing.Thing.TheVariants.{Place, Company, Locality, Point, Figure, JournalLength}

-- what the place counts that a call is about: the account is at none
abbrev pub subject : Call → Thing
subject (call.File l i) = Locality
subject (call.Enrol p e) = Point
subject (call.Bill p change) = Point
subject (call.Ask (question.CapitalCost l s)) = Locality
subject (call.Ask (question.UnitComponent l s)) = Locality
subject (call.Ask question.Account) = Place
subject other = Company

-- which place lies past its table: a filing names its locality and then its company, an enrolling its point and then its locality, and any other call one place
abbrev pub past : Call → Thing
past (call.File l i) = cond (nat_lt l 256) Company Locality
past (call.Enrol p e) = cond (nat_lt p 65536) Locality Point
past other = subject other

-- at which place nothing stands: a filing needs its company, an enrolling its locality, a bill its point, and any other call what it is about. Where only a row leads, no word is said
abbrev pub missing : Call → (place : ℕ) → Thing
missing (call.File l i) place = Company
missing (call.Enrol p e) place = cond (place == e.locality) Locality Place
missing (call.Bill p change) place = cond (place == p) Point Place
missing other place = subject other

abbrev pub thing_by : Call → (place : ℕ) → Reason → Thing
thing_by c place reason.BookNotOpen = Place
thing_by c place reason.BookInUse = Place
thing_by c place reason.PastTable = past c
thing_by c place reason.NothingThere = missing c place
thing_by c place reason.PlaceTaken = subject c
thing_by c place reason.TariffLimit = Figure
thing_by c place reason.FigureLimit = Figure
thing_by c place reason.FiguresAtOdds = Figure
thing_by c place reason.VolumeRange = Point
thing_by c place reason.DaysRange = Point
thing_by c place reason.JournalFull = JournalLength
thing_by c place reason.NoExpectedPoints = Locality
thing_by c place company = Company

-- what the place of a call's refusal counts
abbrev pub thing_of : Call → Refusal → Thing
thing_of c r = thing_by c r.place r.reason
