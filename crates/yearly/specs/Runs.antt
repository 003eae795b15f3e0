-- What a list of calls is answered, and what stands after it: one call after another.
use Rattle.std.specs.Prelude.{◌≡◌, ℕ, List, [], ◌∷◌, length, take, ℤ, Ok, Result, nat_le}
use Rattle.units.specs.declared.amounts.Cents.{Cents}
use Rattle.units.specs.declared.refusal.Reason.TheVariants.{PastTable}
use Rattle.units.specs.declared.refusal.Refusal.{Refusal}
use Rattle.tariff.specs.declared.table.Tariff.{Tariff}
use Rattle.tables.specs.declared.rows.LocalityRow.{LocalityRow}
use Rattle.tables.specs.declared.rows.PointRow.{PointRow}
use Rattle.tables.specs.Blank.{no_locality, no_point}
use Rattle.calls.specs.declared.call.Call.{Call}
use Rattle.units.specs.Steps.{when, next}
use Rattle.booklaws.specs.declared.answer.Granted.{Granted}
use Rattle.booklaws.specs.States.{BookState}
use Rattle.booklaws.specs.Openings.{unused, opening, opened_by, blanked}
use Rattle.booklaws.specs.Questions.{account}
use Rattle.booklaws.specs.Calls.{State, answer_to, after_call, with_tables}
use Rattle.yearly.specs.Histories.{History}
use Rattle.yearly.specs.YearRules.{Year, YearRules}

-- beginning a year that needs so many places of answers and has so many: 3 where the book is in use, 4 where the places are too few, and then
-- what opening meets
abbrev pub beginning : BookState → (number : ℕ) → (sum : ℤ) → List LocalityRow → List PointRow → (needed places : ℕ) → Result (Unit {0}) Refusal
beginning b number sum localities points needed places =
    next (unused b) (λ _. when (nat_le needed places) PastTable 0 (opening b number sum localities points))

-- what stands after a granted opening
abbrev pub begun : BookState → Tariff → (number : ℕ) → (sum : ℤ) → List LocalityRow → List PointRow → State
begun b tariff number sum localities points =
    with_tables (opened_by b tariff number sum (Ok tt)) (blanked no_locality localities (Ok tt)) (blanked no_point points (Ok tt))

abbrev pub run_answers : List LocalityRow → State → List Call → List (Result Granted Refusal)
run_answers filings s [] = []
run_answers filings s (c ∷ cs) = answer_to filings s c ∷ run_answers filings (after_call filings s c) cs

abbrev pub run_after : List LocalityRow → State → List Call → State
run_after filings s [] = s
run_after filings s (c ∷ cs) = run_after filings (after_call filings s c) cs

-- the history of calls and their answers after an earlier one, the latest first
abbrev pub history_after : History → List Call → List (Result Granted Refusal) → History
history_after h [] answers = h
history_after h (c ∷ cs) [] = h
history_after h (c ∷ cs) (a ∷ answers) = history_after ((c, a) ∷ h) cs answers

-- ---- The rules of a run

-- the year of calls that were answered so, from a state in which the book had just opened
abbrev pub year_of : Tariff → (sum : ℤ) → List LocalityRow → State → List Call → List (Result Granted Refusal) → Year
year_of tariff sum filings s calls answers =
    record {
      tariff = tariff.figures;
      sum = sum;
      price = s.book.price;
      point_places = length s.points;
      locality_places = length s.localities;
      filings = filings;
      history = history_after [] calls answers;
      journal = (run_after filings s calls).book.entries;
    }

-- the rules hold then, of the account that the book tells
abbrev pub InOrder : Tariff → (sum : ℤ) → List LocalityRow → State → List Call → List (Result Granted Refusal) → Type 0
InOrder tariff sum filings s calls answers =
    (told : Cents) × (account (run_after filings s calls).book (run_after filings s calls).points ≡ Ok told) × YearRules (year_of tariff sum filings s calls answers) told.0

-- at every time of the year: after each number of the calls
abbrev pub AlwaysInOrder : Tariff → (sum : ℤ) → List LocalityRow → State → List Call → List (Result Granted Refusal) → Type 0
AlwaysInOrder tariff sum filings s calls answers = (n : ℕ) → InOrder tariff sum filings s (take n calls) answers
