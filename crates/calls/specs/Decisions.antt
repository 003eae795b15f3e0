-- What the calls on lent tables meet: what each is granted, or the first refusal that applies.
use Rattle.std.specs.Prelude.{ℕ, not, List, length, ℤ, is_some, Ok, Result, ◌==◌, nat_le, nat_lt}
use Rattle.units.specs.declared.refusal.Reason.TheVariants.{PastTable, PlaceTaken, FigureLimit}
use Rattle.units.specs.declared.refusal.Refusal.{Refusal}
use Rattle.units.specs.Refusals.{refused_at}
use Rattle.units.specs.Steps.{when, found, next}
use Rattle.limits.specs.First.{among}
use Rattle.limits.specs.Checked.{faultless}
use Rattle.tariff.specs.declared.figures.TariffFigures.{TariffFigures}
use Rattle.tariff.specs.Bills.{bill_at}
use Rattle.tables.specs.declared.rows.LocalityRow.{LocalityRow}
use Rattle.tables.specs.declared.rows.PointRow.{PointRow}
use Rattle.tables.specs.Filings.{filing_fault}
use Rattle.tables.specs.Lengths.{localities_fit, tables_fit}
use Rattle.tables.specs.Lookups.{locality_at, point_at}
use Rattle.company.specs.declared.record.Event.TheVariants.{File, Enrol, Bill as BillEvent}
use Rattle.orders.specs.Registers.{Companies, company_at, after_event}
use Rattle.calls.specs.declared.billing.Charged.{Charged}

-- filing a locality: 4 for a table too long, a place past it or a company past the sixteen, 5 for a company that is not registered, then
-- 7 or 8 at the figure at fault, and 9 for a closed company
abbrev pub filing : Companies → List LocalityRow → (place : ℕ) → LocalityRow → Result LocalityRow Refusal
filing companies localities place row =
    when (localities_fit localities) PastTable 0
    (when (nat_lt place (length localities)) PastTable place
    (when (nat_lt row.company 16) PastTable row.company
    (found (company_at companies row.company) row.company (λ c.
    next (faultless (filing_fault (locality_at localities place) row) row) (λ filed.
    next (after_event c row.company File) (λ _. Ok filed))))))

-- the row of a new point, of which nothing is billed yet: 7 for the class and then for domestic
abbrev pub enrolled_within : (locality class domestic : ℕ) → Result PointRow Refusal
enrolled_within locality class domestic =
    when (among 3 class) FigureLimit 1
    (when (nat_le domestic 1) FigureLimit 2
    (Ok (record { locality = locality; class = class; domestic = domestic; volume = 0; days = 0 })))

-- enrolling a point: 4 for a table too long, then for the point's and the locality's place, 5 for the locality and then its company, 6 where a
-- point stands, then 7, and 9 for a closed company
abbrev pub enrolling : Companies → List LocalityRow → List PointRow → (point locality class domestic : ℕ) → Result PointRow Refusal
enrolling companies localities points point locality class domestic =
    when (tables_fit localities points) PastTable 0
    (when (nat_lt point (length points)) PastTable point
    (when (nat_lt locality (length localities)) PastTable locality
    (found (locality_at localities locality) locality (λ l.
    found (company_at companies l.company) l.company (λ c.
    when (not (is_some (point_at points point))) PlaceTaken point
    (next (enrolled_within locality class domestic) (λ row.
    next (after_event c l.company Enrol) (λ _. Ok row))))))))

-- the point at a place with its locality, to bill it: 4 for a table too long, then for the place, 5 for the point, its locality and the company
-- in turn, 9 for a closed company
abbrev pub point_to_bill : Companies → List LocalityRow → List PointRow → (point : ℕ) → Result (PointRow × LocalityRow) Refusal
point_to_bill companies localities points point =
    when (tables_fit localities points) PastTable 0
    (when (nat_lt point (length points)) PastTable point
    (found (point_at points point) point (λ p.
    found (locality_at localities p.locality) p.locality (λ l.
    found (company_at companies l.company) l.company (λ c.
    next (after_event c l.company BillEvent) (λ _. Ok (p, l)))))))

-- a bill of the point in the locality: 14 or 15 with the point's place
abbrev pub charged : TariffFigures → PointRow → LocalityRow → (point : ℕ) → (dv dd : ℤ) → Result Charged Refusal
charged t p l point dv dd =
    next (refused_at point (bill_at t l.area p.class (p.domestic == 1) p.volume p.days dv dd)) (λ bill.
    Ok (record { company = l.company; bill = bill }))

-- billing a point
abbrev pub billing : TariffFigures → Companies → List LocalityRow → List PointRow → (point : ℕ) → (dv dd : ℤ) → Result Charged Refusal
billing t companies localities points point dv dd =
    next (point_to_bill companies localities points point) (λ found. charged t found.0 found.1 point dv dd)

-- the locality at a place, for a question: 4 for a table too long, then for the place, 5 where none stands
abbrev pub asked_locality : List LocalityRow → (place : ℕ) → Result LocalityRow Refusal
asked_locality localities place =
    when (localities_fit localities) PastTable 0
    (when (nat_lt place (length localities)) PastTable place
    (found (locality_at localities place) place (λ l. Ok l)))
