-- The worked year as calls of a book: what is opened, which calls follow, what a call is answered between them, and what the bills answer.
use Rattle.std.specs.Prelude.{ℕ, List, [], ◌∷◌, take, ℤ, pos, neg_ℤ, replicate, None, Result, refl}
use Rattle.units.specs.declared.amounts.Cents.{Cents}
use Rattle.units.specs.declared.amounts.PointPrice.{PointPrice}
use Rattle.units.specs.declared.refusal.Refusal.{Refusal}
use Rattle.tariff.specs.declared.bill.Bill.{Bill}
use Rattle.tariff.specs.declared.table.Tariff.{Tariff}
use Rattle.tariff.specs.Limits.{fixed_tests, variable_tests, cost_tests, first_bad_figure}
use Rattle.tables.specs.declared.rows.LocalityRow.{LocalityRow}
use Rattle.tables.specs.declared.rows.PointRow.{PointRow}
use Rattle.tables.specs.Blank.{no_locality, no_point}
use Rattle.management.specs.Rules.{municipal_price}
use Rattle.calls.specs.declared.call.Call.{Call}
use Rattle.calls.specs.declared.call.Call.TheVariants.{Register, File, Enrol, Bill as BillCall, Draw, Send, Confirm, Close, Reopen}
use Rattle.orders.specs.declared.order.Order.{Order}
use Rattle.booklaws.specs.declared.answer.Granted.{Granted}
use Rattle.booklaws.specs.Calls.{State, answer_to, after_call}
use Rattle.booklaws.specs.Openings.{opening, opened_by, blanked}
use Rattle.booklaws.specs.States.{BookState}
use Rattle.sample.specs.Year.{point_price, worked_table, worked_figures, worked_locality}

-- ---- The opening

-- the worked tariff table, which keeps every limit
unfoldable pub worked_tariff : Tariff
unfolding fixed_tests variable_tests cost_tests first_bad_figure
worked_tariff = record { figures = worked_table; lawful = refl }

-- the nine operating prices: those of small, medium and large companies, each at three densities
abbrev pub nine_prices : List PointPrice
nine_prices =
    point_price 30000000 ∷ point_price 28000000 ∷ point_price 26000000
    ∷ point_price 27000000 ∷ point_price 25000000 ∷ point_price 23000000
    ∷ point_price 24000000 ∷ point_price 22000000 ∷ point_price 20000000
    ∷ []

-- a book that was never opened, by the municipal rule; its journal is empty, with room for 256 entries
abbrev pub empty_book : BookState
empty_book =
    record {
      opened = None;
      entries = [];
      capacity = 256;
      price = λ points density year. municipal_price nine_prices points density;
    }

-- two blank rows of each table are lent to it
abbrev pub lent_localities : List LocalityRow
lent_localities = replicate 2 no_locality

abbrev pub lent_points : List PointRow
lent_points = replicate 2 no_point

-- opening it with number 7 and 0 cents
abbrev pub worked_opening : Result (Unit {0}) Refusal
worked_opening = opening empty_book 7 (pos 0) lent_localities lent_points

-- what stands after it
abbrev pub after_opening : State
after_opening =
    record {
      book = opened_by empty_book worked_tariff 7 (pos 0) worked_opening;
      localities = blanked no_locality lent_localities worked_opening;
      points = blanked no_point lent_points worked_opening;
    }

-- ---- The calls

-- a bill of point 0 that changes its volume and its days by these
abbrev pub bill : (volume days : ℤ) → Call
bill volume days = BillCall 0 (record { volume = volume; days = days })

-- the order for the first instalment of company 0, of the book with number 7
abbrev pub first_order : Order
first_order = record { book = 7; company = 0; instalment = 1 }

-- the one row that is filed
abbrev pub filings : List LocalityRow
filings = worked_locality ∷ []

-- point 0 is enrolled in locality 0, of class 1 and not domestic
abbrev pub enrol : Call
enrol = Enrol 0 (record { locality = 0; class = 1; domestic = 0 })

-- the calls that are granted, in their order; questions, which alter nothing, can be asked at any time
abbrev pub worked_calls : List Call
worked_calls =
    Register 0 worked_figures
    ∷ File 0 0
    ∷ enrol
    ∷ bill (pos 500) (pos 73)
    ∷ bill (pos 0) (pos 73)
    ∷ Draw 0
    ∷ Send first_order
    ∷ Confirm first_order
    ∷ Close 0
    ∷ Reopen 0
    ∷ bill (neg_ℤ (pos 20)) (pos 0)
    ∷ Close 0
    ∷ []

-- what stands after calls, one after another
abbrev pub after_calls : List Call → State → State
after_calls [] s = s
after_calls (c ∷ cs) s = after_calls cs (after_call filings s c)

-- what a call is answered after the first n of the worked calls
abbrev pub answer_after : ℕ → Call → Result Granted Refusal
answer_after n c = answer_to filings (after_calls (take n worked_calls) after_opening) c

-- ---- The three bills, written out

abbrev pub cents : ℤ → Cents
cents z = record { 0 = z }

-- 500 Smc and 73 days
abbrev pub first_bill : Bill
first_bill =
    record {
      volume = 500;
      days = 73;
      before = record { distribution = 0; metering = 0; commercial = 0; variable = 0; gs = 0; ug1 = 0 };
      after = record { distribution = 730; metering = 365; commercial = 37; variable = 2980; gs = 50; ug1 = 20 };
      charge =
          record {
            distribution = cents (pos 730);
            metering = cents (pos 365);
            commercial = cents (pos 37);
            variable = cents (pos 2980);
            gs = cents (pos 50);
            ug1 = cents (pos 20);
            tariff = cents (pos 4112);
            components = cents (pos 70);
          };
    }

-- 0 Smc and 73 days more
abbrev pub second_bill : Bill
second_bill =
    record {
      volume = 500;
      days = 146;
      before = first_bill.after;
      after = record { distribution = 1460; metering = 730; commercial = 73; variable = 2980; gs = 50; ug1 = 20 };
      charge =
          record {
            distribution = cents (pos 730);
            metering = cents (pos 365);
            commercial = cents (pos 36);
            variable = cents (pos 0);
            gs = cents (pos 0);
            ug1 = cents (pos 0);
            tariff = cents (pos 1131);
            components = cents (pos 0);
          };
    }

-- 20 Smc less, after the company is reopened
abbrev pub correction : Bill
correction =
    record {
      volume = 480;
      days = 146;
      before = second_bill.after;
      after = record { distribution = 1460; metering = 730; commercial = 73; variable = 2880; gs = 48; ug1 = 19 };
      charge =
          record {
            distribution = cents (pos 0);
            metering = cents (pos 0);
            commercial = cents (pos 0);
            variable = cents (neg_ℤ (pos 100));
            gs = cents (neg_ℤ (pos 2));
            ug1 = cents (neg_ℤ (pos 1));
            tariff = cents (neg_ℤ (pos 100));
            components = cents (neg_ℤ (pos 3));
          };
    }
