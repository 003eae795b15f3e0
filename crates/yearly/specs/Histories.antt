-- What a year's history says: the calls with their answers, the latest first. A refused call says nothing.
use Rattle.std.specs.Prelude.{ℕ, ◌+◌, Bool, true, false, cond, ◌&&◌, List, [], ◌∷◌, Some, None, Option, Result, ◌==◌, is_ok}
use Rattle.units.specs.declared.refusal.Refusal.{Refusal}
use Rattle.tables.specs.declared.rows.LocalityRow.{LocalityRow}
use Rattle.company.specs.declared.figures.TermsFigures.{TermsFigures}
use Rattle.calls.specs.declared.call.Call.{Call}
use Rattle.calls.specs.declared.call.Call.TheVariants.{Register, File, Enrol, Draw, Cancel, Confirm, Bounce, Close, Reopen}
use Rattle.calls.specs.declared.enrolling.Enrolment.{Enrolment}
use Rattle.booklaws.specs.declared.answer.Granted.{Granted}
use Rattle.booklaws.specs.Calls.{filed_row}

-- a call, and what it was answered
abbrev pub Told : Type 0
Told = Call × Result Granted Refusal

abbrev pub History : Type 0
History = List Told

-- what a granted call says, before what was said earlier
abbrev pub or_else : {X : Type 0} → Option X → Option X → Option X
or_else (Some x) earlier = Some x
or_else None earlier = earlier

-- the latest that the granted calls say
abbrev pub latest : {X : Type 0} → (Call → Option X) → History → Option X
latest says [] = None
latest says (told ∷ h) = cond (is_ok told.1) (or_else (says told.0) (latest says h)) (latest says h)

-- how many granted calls pass a test
abbrev pub times : (Call → Bool) → History → ℕ
times test [] = 0
times test (told ∷ h) = cond (is_ok told.1 && test told.0) (1 + times test h) (times test h)

-- ---- What a call says

abbrev pub registers : (company : ℕ) → Call → Option TermsFigures
registers company (Register c figures) = cond (c == company) (Some figures) None
registers company other = None

abbrev pub files : List LocalityRow → (place : ℕ) → Call → Option LocalityRow
files filings place (File p i) = cond (p == place) (Some (filed_row filings i)) None
files filings place other = None

abbrev pub enrols : (point : ℕ) → Call → Option Enrolment
enrols point (Enrol p e) = cond (p == point) (Some e) None
enrols point other = None

-- whether the company is closed after the call
abbrev pub closes : (company : ℕ) → Call → Option Bool
closes company (Close c) = cond (c == company) (Some true) None
closes company (Reopen c) = cond (c == company) (Some false) None
closes company other = None

abbrev pub draws : (company : ℕ) → Call → Bool
draws company (Draw c) = c == company
draws company other = false

abbrev pub confirms : (company : ℕ) → Call → Bool
confirms company (Confirm o) = o.company == company
confirms company other = false

-- cancelling, confirming and bouncing take an order back
abbrev pub takes_back : (company : ℕ) → Call → Bool
takes_back company (Cancel o) = o.company == company
takes_back company (Confirm o) = o.company == company
takes_back company (Bounce o) = o.company == company
takes_back company other = false

-- ---- What a history says

-- the terms that a company registered
abbrev pub terms_of : History → (company : ℕ) → Option TermsFigures
terms_of h company = latest (registers company) h

-- the latest filing of a locality
abbrev pub filing_of : List LocalityRow → History → (place : ℕ) → Option LocalityRow
filing_of filings h place = latest (files filings place) h

-- the enrolment of a point
abbrev pub enrolment_of : History → (point : ℕ) → Option Enrolment
enrolment_of h point = latest (enrols point) h

-- a company is closed where no reopening followed its latest closing
abbrev pub is_true : Option Bool → Bool
is_true (Some b) = b
is_true None = false

abbrev pub closed_in : History → (company : ℕ) → Bool
closed_in h company = is_true (latest (closes company) h)

-- how many of its orders were drawn, confirmed, and taken back
abbrev pub drawn : History → (company : ℕ) → ℕ
drawn h company = times (draws company) h

abbrev pub confirmed : History → (company : ℕ) → ℕ
confirmed h company = times (confirms company) h

abbrev pub taken_back : History → (company : ℕ) → ℕ
taken_back h company = times (takes_back company) h
