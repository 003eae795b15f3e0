-- What any call is answered, and what stands after it.
use Rattle.std.specs.Prelude.{ℕ, List, Ok, Result, slice_index_or}
use Rattle.units.specs.declared.refusal.Refusal.{Refusal}
use Rattle.tables.specs.declared.rows.LocalityRow.{LocalityRow}
use Rattle.tables.specs.declared.rows.PointRow.{PointRow}
use Rattle.tables.specs.Blank.{no_locality, no_point}
use Rattle.calls.specs.declared.call.Call.{Call}
use Rattle.calls.specs.declared.call.Call.TheVariants as call
use Rattle.calls.specs.declared.call.Question.{Question}
use Rattle.calls.specs.declared.call.Question.TheVariants as question
use Rattle.units.specs.Steps.{next}
use Rattle.booklaws.specs.declared.answer.Granted.{Granted}
use Rattle.booklaws.specs.declared.answer.Granted.TheVariants as granted
use Rattle.booklaws.specs.States.{BookState}
use Rattle.tables.specs.PointRows.{billed_row}
use Rattle.booklaws.specs.Tables.{written}
use Rattle.orders.specs.Payments.{amount_paid}
use Rattle.booklaws.specs.Companies.{number_of, register_answer, draw_decision, cancel_decision, send_decision, confirm_decision, bounce_decision, after_register, after_draw, after_cancel, after_send, after_confirm, after_bounce}
use Rattle.booklaws.specs.Rows.{filing, enrolling, bill_answer, after_bill}
use Rattle.booklaws.specs.Questions as asked
use Rattle.booklaws.specs.Closings.{close_answer, reopen_decision, after_close, after_reopen}

-- a book and the two tables that are lent to it
pub record State : Type 0 where
  pub book : BookState
  pub localities : List LocalityRow
  pub points : List PointRow

abbrev pub with_tables : BookState → List LocalityRow → List PointRow → State
with_tables b localities points = record { book = b; localities = localities; points = points }

-- what a granted answer is called
abbrev pub grants : {X : Type 0} → Result X Refusal → (X → Granted) → Result Granted Refusal
grants answer f = next answer (λ x. Ok (f x))

abbrev pub drawn_answer : (number company k : ℕ) → Granted
drawn_answer number company k = granted.Drawn (record { book = number; company = company; instalment = k })

-- the row that a filing names
abbrev pub filed_row : List LocalityRow → ℕ → LocalityRow
filed_row filings i = slice_index_or filings i no_locality

abbrev pub answer_asked : State → Question → Result Granted Refusal
answer_asked s (question.CapitalCost locality service) = grants (asked.capital_cost s.book s.localities locality service) granted.CapitalCost
answer_asked s (question.UnitComponent locality service) = grants (asked.unit_component s.book s.localities locality service) granted.UnitComponent
answer_asked s (question.Served company) =
    grants (asked.served s.book s.localities s.points company) (λ n. granted.Served (record { 0 = n.0 }) (record { 0 = n.1 }))
answer_asked s (question.Revenue company) = grants (asked.revenue s.book s.localities s.points company) granted.Revenue
answer_asked s (question.BalanceDue company) = grants (asked.balance_due s.book s.localities s.points company) granted.BalanceDue
answer_asked s question.Account = grants (asked.account s.book s.points) granted.Account

-- what a call is answered
abbrev pub answer_to : List LocalityRow → State → Call → Result Granted Refusal
answer_to filings s (call.Register company terms) = grants (register_answer s.book company terms) (λ t. granted.Registered)
answer_to filings s (call.File locality i) = grants (filing s.book s.localities locality (filed_row filings i)) (λ l. granted.Filed)
answer_to filings s (call.Enrol point e) = grants (enrolling s.book s.localities s.points point e) (λ p. granted.Enrolled)
answer_to filings s (call.Bill point change) = grants (bill_answer s.book s.localities s.points point change) granted.Billed
answer_to filings s (call.Draw company) =
    grants (draw_decision s.book company) (λ d. drawn_answer (number_of s.book.opened) company d.1)
answer_to filings s (call.Cancel o) = grants (cancel_decision s.book o) (λ d. granted.Cancelled)
answer_to filings s (call.Send o) = grants (send_decision s.book o) (λ d. granted.Sent)
answer_to filings s (call.Confirm o) = grants (confirm_decision s.book o) (λ d. granted.Paid (amount_paid d))
answer_to filings s (call.Bounce o) = grants (bounce_decision s.book o) (λ d. granted.Bounced)
answer_to filings s (call.Close company) = grants (close_answer s.book s.localities s.points company) granted.Closed
answer_to filings s (call.Reopen company) = grants (reopen_decision s.book company) (λ d. granted.Reopened)
answer_to filings s (call.Ask q) = answer_asked s q

-- the book after a call
abbrev pub book_after : State → Call → BookState
book_after s (call.Register company terms) = after_register s.book company terms
book_after s (call.File locality i) = s.book
book_after s (call.Enrol point e) = s.book
book_after s (call.Bill point change) = after_bill s.book s.localities s.points point change
book_after s (call.Draw company) = after_draw s.book company
book_after s (call.Cancel o) = after_cancel s.book o
book_after s (call.Send o) = after_send s.book o
book_after s (call.Confirm o) = after_confirm s.book o
book_after s (call.Bounce o) = after_bounce s.book o
book_after s (call.Close company) = after_close s.book s.localities s.points company
book_after s (call.Reopen company) = after_reopen s.book company
book_after s (call.Ask q) = s.book

-- the locality table after a call: filing alone writes it
abbrev pub localities_after : List LocalityRow → State → Call → List LocalityRow
localities_after filings s (call.File locality i) = written (λ l. l) s.localities locality (filing s.book s.localities locality (filed_row filings i))
localities_after filings s other = s.localities

-- the point table after a call: enrolling and billing write it
abbrev pub points_after : State → Call → List PointRow
points_after s (call.Enrol point e) = written (λ p. p) s.points point (enrolling s.book s.localities s.points point e)
points_after s (call.Bill point change) =
    written (billed_row (slice_index_or s.points point no_point)) s.points point (bill_answer s.book s.localities s.points point change)
points_after s other = s.points

-- all that stands after a call
abbrev pub after_call : List LocalityRow → State → Call → State
after_call filings s c =
    record { book = book_after s c; localities = localities_after filings s c; points = points_after s c }
