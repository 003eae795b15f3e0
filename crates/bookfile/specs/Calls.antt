-- What call each statement makes, by its figures.
use Rattle.std.specs.Prelude.{ℕ, cond, List, ℤ, Some, None, Option, ◌==◌}
use Rattle.std.specs.Option.{option_map}
use Rattle.company.specs.declared.figures.TermsFigures.{TermsFigures}
use Rattle.tariff.specs.declared.supply.Change.{Change}
use Rattle.calls.specs.declared.enrolling.Enrolment.{Enrolment}
use Rattle.calls.specs.declared.call.Call.{Call}
use Rattle.calls.specs.declared.call.Call.TheVariants as call
use Rattle.orders.specs.declared.order.Order.{Order}
use Rattle.calls.specs.declared.call.Question.{Question}
use Rattle.calls.specs.declared.call.Question.TheVariants as question
use Rattle.tables.specs.declared.service.Service.{Service}
use Rattle.tables.specs.declared.service.Service.TheVariants.{Distribution, Metering}
use Rattle.bookfile.specs.declared.statement.Statement.{Statement}
use Rattle.bookfile.specs.declared.statement.Statement.TheVariants.{Register, File, Enrol, Bill, Draw, Cancel, Send, Confirm, Bounce, Close, Reopen, Cost, Component, Served, Revenue, Balance, Account}
use Rattle.bookfile.specs.Numbers.{whole_at, byte_at, change_at}

abbrev pub terms_of : List (Option ℤ) → TermsFigures
terms_of zs =
    record {
      advance = change_at zs 1;
      instalments = byte_at zs 2;
      verification = whole_at zs 3;
      central = whole_at zs 4;
      points = whole_at zs 5;
      density = byte_at zs 6;
      year = byte_at zs 7;
    }

abbrev pub enrolment_of : List (Option ℤ) → Enrolment
enrolment_of zs = record { locality = whole_at zs 1; class = whole_at zs 2; domestic = whole_at zs 3 }

abbrev pub bill_change : List (Option ℤ) → Change
bill_change zs = record { volume = change_at zs 1; days = change_at zs 2 }

abbrev pub order_of : List (Option ℤ) → Order
order_of zs = record { book = whole_at zs 0; company = whole_at zs 1; instalment = byte_at zs 2 }

-- 1 is distribution, 2 metering
abbrev pub service_of : List (Option ℤ) → Service
service_of zs = cond (whole_at zs 1 == 2) Metering Distribution

-- the question of a statement
abbrev pub question_of : Statement → List (Option ℤ) → Option Question
question_of Cost zs = Some (question.CapitalCost (whole_at zs 0) (service_of zs))
question_of Component zs = Some (question.UnitComponent (whole_at zs 0) (service_of zs))
question_of Served zs = Some (question.Served (whole_at zs 0))
question_of Revenue zs = Some (question.Revenue (whole_at zs 0))
question_of Balance zs = Some (question.BalanceDue (whole_at zs 0))
question_of Account zs = Some question.Account
question_of other zs = None

-- the call of a statement that comes after so many filings
abbrev pub call_of : ℕ → Statement → List (Option ℤ) → Option Call
call_of filings Register zs = Some (call.Register (whole_at zs 0) (terms_of zs))
call_of filings File zs = Some (call.File (whole_at zs 0) filings)
call_of filings Enrol zs = Some (call.Enrol (whole_at zs 0) (enrolment_of zs))
call_of filings Bill zs = Some (call.Bill (whole_at zs 0) (bill_change zs))
call_of filings Draw zs = Some (call.Draw (whole_at zs 0))
call_of filings Cancel zs = Some (call.Cancel (order_of zs))
call_of filings Send zs = Some (call.Send (order_of zs))
call_of filings Confirm zs = Some (call.Confirm (order_of zs))
call_of filings Bounce zs = Some (call.Bounce (order_of zs))
call_of filings Close zs = Some (call.Close (whole_at zs 0))
call_of filings Reopen zs = Some (call.Reopen (whole_at zs 0))
call_of filings other zs = option_map call.Ask (question_of other zs)
