-- What the calls that were told leave on record: each point's year to date, and which localities are filed.
use Rattle.std.specs.Prelude.{List, Bool, true, Ok, Result, slice_set}
use Rattle.units.specs.declared.refusal.Refusal.{Refusal}
use Rattle.calls.specs.declared.call.Call.{Call}
use Rattle.calls.specs.declared.call.Call.TheVariants.{Bill, File}
use Rattle.booklaws.specs.declared.answer.Granted.{Granted}
use Rattle.booklaws.specs.declared.answer.Granted.TheVariants.{Billed}
use Rattle.told.specs.declared.so_far.YearToDate.{YearToDate}

-- no bill yet
abbrev pub unread : YearToDate
unread = record { volume = 0; days = 0 }

-- a granted bill leaves the year to date that it tells
abbrev pub readings_after : List YearToDate → Call → Result Granted Refusal → List YearToDate
readings_after rs (Bill point change) (Ok (Billed b)) = slice_set rs point (record { volume = b.volume; days = b.days })
readings_after rs call answer = rs

-- a locality that was filed is filed
abbrev pub filed_after : List Bool → Call → Result Granted Refusal → List Bool
filed_after fs (File locality i) (Ok granted) = slice_set fs locality true
filed_after fs call answer = fs
