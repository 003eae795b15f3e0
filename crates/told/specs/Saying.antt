-- What is told of a call's answer.
use Rattle.std.specs.Prelude.{Bool, false, Ok, Err, Result, slice_index_or}
use Rattle.units.specs.declared.refusal.Refusal.{Refusal}
use Rattle.bookfile.specs.declared.file.NumberedCall.{NumberedCall}
use Rattle.calls.specs.declared.call.Call.{Call}
use Rattle.calls.specs.declared.call.Call.TheVariants.{Bill, File}
use Rattle.booklaws.specs.declared.answer.Granted.{Granted as Grant}
use Rattle.told.specs.declared.so_far.YearToDate.{YearToDate}
use Rattle.told.specs.declared.so_far.SoFar.{SoFar}
use Rattle.told.specs.declared.saying.Said.{Said}
use Rattle.told.specs.declared.saying.Said.TheVariants.{Granted, Refused}
use Rattle.told.specs.SoFar.{unread}

-- the year to date of the point that a call bills
abbrev pub read_by : SoFar → Call → YearToDate
read_by s (Bill point change) = slice_index_or s.readings.items point unread
read_by s other = unread

-- a call files a locality that is filed
abbrev pub filed_by : SoFar → Call → Bool
filed_by s (File locality i) = slice_index_or s.filed.items locality false
filed_by s other = false

-- a refused call is told with its own line, and with the year to date before it
abbrev pub said_of : SoFar → NumberedCall → Result Grant Refusal → Said
said_of s n (Ok granted) = Granted granted (filed_by s n.call)
said_of s n (Err refusal) = Refused (record { line = n.line; call = n.call; refusal = refusal; on_record = read_by s n.call })
