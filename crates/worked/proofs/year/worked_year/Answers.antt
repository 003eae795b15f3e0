use Rattle.std.proofs.Common.{refl}
use Rattle.rounding.specs.Rounding.{rounded, half_up}
use Rattle.tariff.specs.Limits.{fixed_tests, variable_tests, cost_tests, first_bad_figure}
use Rattle.tables.specs.Filings.{limit_fault, odds_fault, locality_stands}
use Rattle.tables.specs.PointRows.{point_stands}
use Rattle.revenue.specs.Served.{commercial_cents}
use Rattle.revenue.specs.Recognised.{locality_figures, recognised}
use Rattle.revenue.specs.Billed.{billed}
use Rattle.revenue.specs.Ug1.{ug1_due}
use Rattle.company.specs.Instalments.{paid_up_to}
use Rattle.company.specs.Terms.{payment_tests, trait_tests, first_bad_term}
use Rattle.worked.specs.Calls.{worked_tariff}
use Rattle.worked.proofs.year.worked_year.Goals as goal

pub returns : goal.returns
unfolding rounded half_up fixed_tests variable_tests cost_tests first_bad_figure limit_fault odds_fault locality_stands point_stands commercial_cents locality_figures recognised billed ug1_due paid_up_to payment_tests trait_tests first_bad_term worked_tariff
returns c =
    record {
      lawful = refl;
      opened = refl;
      registered = refl;
      filed = refl;
      enrolled = refl;
      first_answer = refl;
      first_lines = refl;
      first_tariff = refl;
      first_components = refl;
      first_amounts = refl;
      second_answer = refl;
      second_commercial = refl;
      second_tariff = refl;
      second_components = refl;
      stands = refl;
      distribution_cost = refl;
      metering_cost = refl;
      locality = refl;
      served_146_days = refl;
      served_73_days = refl;
      revenue = refl;
      revenue_parts = refl;
      thirds_paid_out = refl;
      thirds_paid_in = refl;
      drawn = refl;
      sent = refl;
      advance = refl;
      due = refl;
      account_open = refl;
      balance = refl;
      account_closed = refl;
      closed = refl;
      reopened = refl;
      corrected = refl;
      second_balance = refl;
      account_closed_again = refl;
    }
