-- What the entries of a journal come to.
use Rattle.std.specs.Prelude.{ℕ, Bool, true, false, cond, ◌&&◌, List, [], ◌∷◌, ◌++◌, ℤ, pos, ◌==◌}
use Rattle.units.specs.declared.amounts.Cents.{Cents}
use Rattle.std.specs.List.{filter}
use Rattle.journal.specs.declared.entry.Entry.{Entry}
use Rattle.journal.specs.declared.entry.Kind.{Kind}
use Rattle.journal.specs.declared.entry.Kind.TheVariants.{Bill, Advance, Balance}
use Rattle.rounding.specs.Sums.{sum_z}

abbrev pub is_bill : Kind → Bool
is_bill Bill = true
is_bill Advance = false
is_bill Balance = false

abbrev pub is_advance : Kind → Bool
is_advance Bill = false
is_advance Advance = true
is_advance Balance = false

-- a change that an entry brings to a point: none where it is no bill of this point
abbrev pub change_at : (point : ℕ) → (Entry → ℤ) → Entry → ℤ
change_at point change e = cond (is_bill e.kind && e.place == point) (change e) (pos 0)

-- the volume and the days that the bills of a point add up to
abbrev pub journal_volume : List Entry → (point : ℕ) → ℤ
journal_volume es point = sum_z (change_at point (λ e. e.volume)) es

abbrev pub journal_days : List Entry → (point : ℕ) → ℤ
journal_days es point = sum_z (change_at point (λ e. e.days)) es

-- an instalment that is advanced: its number and its amount
abbrev pub Advanced : Type 0
Advanced = ℕ × Cents

-- the advance to a company in an entry, if it is one
abbrev pub advance_in : (company : ℕ) → Entry → List Advanced
advance_in company e = cond (is_advance e.kind && e.company == company) ((e.place, e.amount) ∷ []) []

-- the advances to a company, the first one first
abbrev pub advances_of : List Entry → (company : ℕ) → List Advanced
advances_of [] company = []
advances_of (e ∷ es) company = advance_in company e ++ advances_of es company

-- what an entry pays: an advance or a balance
abbrev pub payment_in : Entry → ℤ
payment_in e = cond (is_bill e.kind) (pos 0) e.amount.0

-- all advances and balances, added up
abbrev pub payments : List Entry → ℤ
payments es = sum_z payment_in es

-- what an entry pays to a company
abbrev pub payment_to : (company : ℕ) → Entry → ℤ
payment_to company e = cond (e.company == company) (payment_in e) (pos 0)

-- all that a company was paid
abbrev pub paid_to : List Entry → (company : ℕ) → ℤ
paid_to es company = sum_z (payment_to company) es

-- what an entry charges to the points of a company in lines 1 to 4: only a bill charges
abbrev pub charge_to : (company : ℕ) → Entry → ℤ
charge_to company e = cond (is_bill e.kind && e.company == company) e.amount.0 (pos 0)

-- what the bills of a company charged in lines 1 to 4, added up
abbrev pub charged_to : List Entry → (company : ℕ) → ℤ
charged_to es company = sum_z (charge_to company) es

-- what all entries booked as UG1, and what they booked as line 5
abbrev pub ug1_booked : List Entry → ℤ
ug1_booked es = sum_z (λ e. e.ug1.0) es

abbrev pub gs_booked : List Entry → ℤ
gs_booked es = sum_z (λ e. e.other.0) es

-- the entries that name a company, whatever their kind, and the bills of a point
abbrev pub entries_of : List Entry → (company : ℕ) → List Entry
entries_of es company = filter (λ e. e.company == company) es

abbrev pub bills_of : List Entry → (point : ℕ) → List Entry
bills_of es point = filter (λ e. is_bill e.kind && e.place == point) es
