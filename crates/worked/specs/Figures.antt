-- What the figures of the worked year are, one by one.
use Rattle.std.specs.Prelude.{◌≡◌, true, List, [], ◌∷◌, ℤ, pos, neg_ℤ, None, Ok, Err}
use Rattle.units.specs.declared.refusal.Reason.TheVariants.{CompanyClosed}
use Rattle.units.specs.Refusals.{refusal}
use Rattle.tariff.specs.Limits.{first_bad_figure}
use Rattle.tariff.specs.Bills.{amounts_of}
use Rattle.tables.specs.Filings.{locality_stands}
use Rattle.costs.specs.Costs.{capital_cost, locality_figure}
use Rattle.tables.specs.declared.service.Service.TheVariants.{Distribution, Metering}
use Rattle.tables.specs.declared.state.State.TheVariants.{Regime}
use Rattle.revenue.specs.Served.{served}
use Rattle.revenue.specs.Recognised.{recognised_revenue}
use Rattle.company.specs.Instalments.{instalment}
use Rattle.calls.specs.declared.call.Call.TheVariants.{Register, File, Draw, Send, Confirm, Close, Reopen, Ask}
use Rattle.calls.specs.declared.call.Question.TheVariants as question
use Rattle.booklaws.specs.declared.answer.Granted.TheVariants.{Registered, Filed, Enrolled, Billed, Drawn, Sent, Paid, Closed, Reopened, Revenue, BalanceDue, Account}
use Rattle.worked.specs.Calls.{worked_opening, bill, enrol, first_order, answer_after, cents, first_bill, second_bill, correction}
use Rattle.sample.specs.Year.{worked_table, worked_figures, worked_supply, worked_locality, worked_point}

-- a yearly advance in three instalments
abbrev thirds : ℤ → List ℤ
thirds advance = instalment advance 3 1 ∷ instalment advance 3 2 ∷ instalment advance 3 3 ∷ []

pub record Worked : Type 0 where
  -- the table keeps every limit
  pub lawful : first_bad_figure worked_table ≡ None
  -- a book over an empty journal is opened; a company registers, its locality is filed, and a point is enrolled in it
  pub opened : worked_opening ≡ Ok tt
  pub registered : answer_after 0 (Register 0 worked_figures) ≡ Ok Registered
  pub filed : answer_after 1 (File 0 0) ≡ Ok Filed
  pub enrolled : answer_after 2 enrol ≡ Ok Enrolled
  -- the first bill, 500 Smc and 73 days: the call is answered by a bill with these six lines, and with the sums 4,112 and 70
  pub first_answer : answer_after 3 (bill (pos 500) (pos 73)) ≡ Ok (Billed first_bill)
  pub first_lines : first_bill.after ≡ record { distribution = 730; metering = 365; commercial = 37; variable = 2980; gs = 50; ug1 = 20 }
  pub first_tariff : first_bill.charge.tariff.0 ≡ pos 4112
  pub first_components : first_bill.charge.components.0 ≡ pos 70
  -- and the definition of the six amounts gives these lines
  pub first_amounts : amounts_of worked_table worked_supply 500 73 ≡ first_bill.after
  -- the second bill, 0 Smc and 73 days: the call is answered by a bill in which line 3 gains 36, with the sums 1,131 and 0
  pub second_answer : answer_after 4 (bill (pos 0) (pos 73)) ≡ Ok (Billed second_bill)
  pub second_commercial : second_bill.charge.commercial.0 ≡ pos 36
  pub second_tariff : second_bill.charge.tariff.0 ≡ pos 1131
  pub second_components : second_bill.charge.components.0 ≡ pos 0
  -- the locality stands; its capital costs, and what it adds to recognised revenue
  pub stands : locality_stands worked_locality ≡ true
  pub distribution_cost : capital_cost worked_table Distribution worked_locality ≡ 83813
  pub metering_cost : capital_cost worked_table Metering worked_locality ≡ 23135
  pub locality : locality_figure worked_table worked_locality ≡ 138948
  -- 73 cents of line 3 stand for 0.400 points served, 37 cents for 0.203
  pub served_146_days : served worked_table (worked_locality ∷ []) (worked_point 500 146 ∷ []) 0 Regime ≡ 400
  pub served_73_days : served worked_table (worked_locality ∷ []) (worked_point 500 73 ∷ []) 0 Regime ≡ 203
  -- revenue at an operating price of 30,000,000, without verification and at a central cost of 1,000
  pub revenue : recognised_revenue worked_table 30000000 0 1000 (worked_locality ∷ []) (worked_point 500 146 ∷ []) 0 ≡ 141421
  -- the book answers its parts when it is asked after the two bills
  pub revenue_parts :
      answer_after 5 (Ask (question.Revenue 0))
      ≡ Ok (Revenue (record { localities = 138948; operating = 1200; startup = 0; readings = 200; commercial = 73; verification = 0; central = 1000 }))
  -- an advance that does not divide by three: the instalments are cut downwards, on either side of 0
  pub thirds_paid_out : thirds (pos 100000) ≡ pos 33333 ∷ pos 33333 ∷ pos 33334 ∷ []
  pub thirds_paid_in : thirds (neg_ℤ (pos 100000)) ≡ neg_ℤ (pos 33334) ∷ neg_ℤ (pos 33333) ∷ neg_ℤ (pos 33333) ∷ []
  -- the first instalment is drawn, sent and confirmed, which pays 33,333; then 102,845 are due, and the account stands at -33,313
  pub drawn : answer_after 5 (Draw 0) ≡ Ok (Drawn first_order)
  pub sent : answer_after 6 (Send first_order) ≡ Ok Sent
  pub advance : answer_after 7 (Confirm first_order) ≡ Ok (Paid (cents (pos 33333)))
  pub due : answer_after 8 (Ask (question.BalanceDue 0)) ≡ Ok (BalanceDue (cents (pos 102845)))
  pub account_open : answer_after 8 (Ask question.Account) ≡ Ok (Account (cents (neg_ℤ (pos 33313))))
  -- the year is closed: the balance is 102,845, the account stands at -136,158, and a bill is refused by 9
  pub balance : answer_after 8 (Close 0) ≡ Ok (Closed (cents (pos 102845)))
  pub account_closed : answer_after 9 (Ask question.Account) ≡ Ok (Account (cents (neg_ℤ (pos 136158))))
  pub closed : answer_after 9 (bill (neg_ℤ (pos 20)) (pos 0)) ≡ Err (refusal CompanyClosed 0)
  -- reopened, 20 Smc less, and closed again: the balance is 100, and the account stands at -136,259
  pub reopened : answer_after 9 (Reopen 0) ≡ Ok Reopened
  pub corrected : answer_after 10 (bill (neg_ℤ (pos 20)) (pos 0)) ≡ Ok (Billed correction)
  pub second_balance : answer_after 11 (Close 0) ≡ Ok (Closed (cents (pos 100)))
  pub account_closed_again : answer_after 12 (Ask question.Account) ≡ Ok (Account (cents (neg_ℤ (pos 136259))))
