-- A call tells the statement that makes it.
use Rattle.std.proofs.Common.{◌≡◌, ℕ, List, ℤ, Some, None, Option, refl, ap, ◌∙◌}
use Rattle.calls.specs.declared.call.Call.{Call}
use Rattle.calls.specs.declared.call.Call.TheVariants as call
use Rattle.calls.specs.declared.call.Question.{Question}
use Rattle.calls.specs.declared.call.Question.TheVariants as question
use Rattle.bookfile.specs.declared.statement.Statement.{Statement}
use Rattle.bookfile.specs.declared.statement.Statement.TheVariants.{Tariff, Distribution, Metering, Bracket, Coefficient, Life, Management, Opening, Journal, Register, File, Enrol, Bill, Draw, Cancel, Send, Confirm, Bounce, Close, Reopen, Cost, Component, Served, Revenue, Balance, Account}
use Rattle.bookfile.specs.Calls.{call_of}
use Rattle.told.specs.Makers.{OnlyMaker}

abbrev pub asking : Question → Statement
asking (question.CapitalCost place service) = Cost
asking (question.UnitComponent place service) = Component
asking (question.Served company) = Served
asking (question.Revenue company) = Revenue
asking (question.BalanceDue company) = Balance
asking question.Account = Account

abbrev pub maker : Call → Statement
maker (call.Register company terms) = Register
maker (call.File locality filing) = File
maker (call.Enrol point enrolment) = Enrol
maker (call.Bill point change) = Bill
maker (call.Draw company) = Draw
maker (call.Cancel order) = Cancel
maker (call.Send order) = Send
maker (call.Confirm order) = Confirm
maker (call.Bounce order) = Bounce
maker (call.Close company) = Close
maker (call.Reopen company) = Reopen
maker (call.Ask q) = asking q

-- of a statement that makes no call, the statement itself
abbrev pub maker_or : Statement → Option Call → Statement
maker_or s None = s
maker_or s (Some c) = maker c

made : (filings : ℕ) (s : Statement) (zs : List (Option ℤ)) → s ≡ maker_or s (call_of filings s zs)
made filings Tariff zs = refl
made filings Distribution zs = refl
made filings Metering zs = refl
made filings Bracket zs = refl
made filings Coefficient zs = refl
made filings Life zs = refl
made filings Management zs = refl
made filings Opening zs = refl
made filings Journal zs = refl
made filings Register zs = refl
made filings File zs = refl
made filings Enrol zs = refl
made filings Bill zs = refl
made filings Draw zs = refl
made filings Cancel zs = refl
made filings Send zs = refl
made filings Confirm zs = refl
made filings Bounce zs = refl
made filings Close zs = refl
made filings Reopen zs = refl
made filings Cost zs = refl
made filings Component zs = refl
made filings Served zs = refl
made filings Revenue zs = refl
made filings Balance zs = refl
made filings Account zs = refl

pub only_maker : (c : Call) → OnlyMaker c (maker c)
only_maker c filings s zs e = made filings s zs ∙ ap (maker_or s) e
