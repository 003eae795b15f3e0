-- Which statement makes a call.
use Rattle.std.specs.Prelude.{◌≡◌, ℕ, List, ℤ, Some, Option}
use Rattle.calls.specs.declared.call.Call.{Call}
use Rattle.bookfile.specs.declared.statement.Statement.{Statement}
use Rattle.bookfile.specs.Calls.{call_of}

-- no statement but this one makes the call, whatever its figures
abbrev pub OnlyMaker : Call → Statement → Type 0
OnlyMaker call statement = (filings : ℕ) (s : Statement) (zs : List (Option ℤ)) → call_of filings s zs ≡ Some call → s ≡ statement
