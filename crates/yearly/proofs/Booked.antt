-- What ties the entries of the journal to the history and to the tables. It holds after every list of calls.
use Rattle.std.proofs.Common.{◌≡◌, ℕ, ◌<◌, Bool, true, false, cond, ◌&&◌, eqb, List, [], ◌∷◌, ◌++◌, get_or, pos, is_some, Some, None, Ok, Err, Option, Result, refl, sym, ap, ◌∙◌, ⊎_elim, arith}
use Rattle.std.specs.List.{filter}
use Rattle.std.proofs.lemmas.Bool.{cases_Bool, and_parts, eqb-true, false≢true}
use Rattle.std.proofs.lemmas.List.{append-nil}
use Rattle.std.proofs.lemmas.List.Elements.{filter-append}
use borrow.Author.Differences.{ints}
use Rattle.units.specs.declared.refusal.Refusal.{Refusal}
use Rattle.rounding.proofs.SumLaws.{sum_z_push}
use Rattle.journal.specs.declared.entry.Entry.{Entry}
use Rattle.tariff.specs.declared.figures.TariffFigures.{TariffFigures}
use Rattle.tables.specs.declared.rows.LocalityRow.{LocalityRow}
use Rattle.tables.specs.declared.rows.PointRow.{PointRow}
use Rattle.tables.specs.Blank.{no_point}
use Rattle.tables.specs.Filings.{locality_stands}
use Rattle.tables.specs.PointRows.{point_stands}
use Rattle.revenue.specs.Billed.{billed}
use Rattle.revenue.specs.Gs.{gs_due}
use Rattle.revenue.specs.Ug1.{ug1_due}
use Rattle.calls.specs.declared.call.Call.{Call}
use Rattle.calls.specs.declared.enrolling.Enrolment.{Enrolment}
use Rattle.booklaws.specs.declared.answer.Granted.{Granted}
use Rattle.booklaws.specs.Calls.{State}
use Rattle.booklaws.specs.JournalSums.{is_bill, charge_to, charged_to, ug1_booked, gs_booked, entries_of, bills_of}
use Rattle.yearly.specs.Histories.{Told, History, or_else, registers, files, enrols, terms_of, filing_of, enrolment_of}
use Rattle.yearly.specs.Entries.{entry_of, entry_booked, entries_booked}
use Rattle.yearly.proofs.Ties.{Fixed}

-- ---- What holds

-- an enrolled point stands, and its locality is filed
pub record Enrolled (y : Fixed) (h : History) (ps : List PointRow) (place : ℕ) (e : Enrolment) : Type 0 where
  pub within : place < y.point_places
  pub stands : point_stands (get_or ps place no_point) ≡ true
  pub filed : is_some (filing_of y.filings h e.locality) ≡ true

-- a filed locality stands, and its company is registered
pub record Filed (y : Fixed) (h : History) (place : ℕ) (row : LocalityRow) : Type 0 where
  pub within : place < y.locality_places
  pub stands : locality_stands row ≡ true
  pub owned : is_some (terms_of h row.company) ≡ true

pub record Standing (y : Fixed) (h : History) (ps : List PointRow) : Type 0 where
  pub points : (place : ℕ) (e : Enrolment) → enrolment_of h place ≡ Some e → Enrolled y h ps place e
  pub localities : (place : ℕ) (row : LocalityRow) → filing_of y.filings h place ≡ Some row → Filed y h place row

-- the entries add up to what the points come to
pub record Adds (t : TariffFigures) (es : List Entry) (ls : List LocalityRow) (ps : List PointRow) : Type 0 where
  pub lines : (company : ℕ) → charged_to es company ≡ pos (billed t ls ps company)
  pub ug1 : ug1_booked es ≡ pos (ug1_due t ps)
  pub gs : gs_booked es ≡ pos (gs_due t ps)

-- the entries are those that the history tells, and name nobody else
pub record Tells (y : Fixed) (h : History) (es : List Entry) : Type 0 where
  pub entries : es ≡ entries_booked y.filings h
  pub companies : (company : ℕ) → terms_of h company ≡ None → entries_of es company ≡ []
  pub points : (point : ℕ) → enrolment_of h point ≡ None → bills_of es point ≡ []

pub record Booked (y : Fixed) (h : History) (es : List Entry) (ls : List LocalityRow) (ps : List PointRow) : Type 0 where
  pub standing : Standing y h ps
  pub adds : Adds y.tariff.figures es ls ps
  pub tells : Tells y h es

-- in a state
abbrev pub BookedIn : Fixed → History → State → Type 0
BookedIn y h s = Booked y h s.book.entries s.localities s.points

-- ---- Options

pub there : {X : Type 0} (o : Option X) → is_some o ≡ true → (x : X) × (o ≡ Some x)
there (Some x) some = (x, refl)
there None some = absurd (false≢true some)

-- what was something and does not become nothing still is something
pub still : {X Y : Type 0} (a : Option X) (b : Option Y) → (b ≡ None → a ≡ None) → is_some a ≡ true → is_some b ≡ true
still a (Some y) back some = refl
still a None back some = absurd (false≢true (sym (ap is_some (back refl)) ∙ some))

pub none_before : {X : Type 0} (says earlier : Option X) → or_else says earlier ≡ None → earlier ≡ None
none_before None earlier none = none
none_before (Some x) earlier none = cc

pub not_none : {X : Type 0} (o : Option X) → is_some o ≡ true → o ≡ None → ⊥
not_none o some none = false≢true (sym (ap is_some none) ∙ some)

-- ---- A history that goes on

-- what was told is not forgotten
pub record Later (h h' : History) : Type 0 where
  pub registered : (company : ℕ) → terms_of h' company ≡ None → terms_of h company ≡ None
  pub enrolled : (point : ℕ) → enrolment_of h' point ≡ None → enrolment_of h point ≡ None

-- no locality is filed and no point is enrolled
pub record Same (y : Fixed) (h h' : History) : Type 0 where
  pub filed : (place : ℕ) → filing_of y.filings h' place ≡ filing_of y.filings h place
  pub enrolled : (point : ℕ) → enrolment_of h' point ≡ enrolment_of h point

pub standing_later : (y : Fixed) (h h' : History) (ps : List PointRow) → Later h h' → Same y h h' → Standing y h ps → Standing y h' ps
standing_later y h h' ps later same s =
    record {
      points = λ place e is.
          let old = s.points place e (sym (same.enrolled place) ∙ is) in
          record { within = old.within; stands = old.stands; filed = ap is_some (same.filed e.locality) ∙ old.filed };
      localities = λ place row is.
          let old = s.localities place row (sym (same.filed place) ∙ is) in
          record { within = old.within; stands = old.stands; owned = still _ _ (later.registered row.company) old.owned };
    }

-- ---- A call that books nothing

module _ (y : Fixed) (h : History) (x : Told) (es : List Entry) (later : Later h (x ∷ h)) (T : Tells y h es) where
  pub tells_later : entry_booked y.filings h x.0 x.1 ≡ [] → Tells y (x ∷ h) es
  tells_later none =
      record {
        entries = T.entries ∙ sym (append-nil (entries_booked y.filings h)) ∙ ap (λ (more : List Entry). entries_booked y.filings h ++ more) (sym none);
        companies = λ company no. T.companies company (later.registered company no);
        points = λ point no. T.points point (later.enrolled point no);
      }

  -- ---- A call that books an entry

  -- an entry that passes no test adds nothing to those that do
  not_passed : (test : Entry → Bool) (e : Entry) → filter test es ≡ [] → (test e ≡ true → ⊥) → filter test (es ++ e ∷ []) ≡ []
  not_passed test e none fails =
      let fresh : filter test (e ∷ []) ≡ [] = ⊎_elim (λ (passes : test e ≡ true). absurd (fails passes)) (λ (no : test e ≡ false). ap (λ (b : Bool). cond b (e ∷ []) []) no) (cases_Bool (test e)) in
      filter-append test es (e ∷ []) ∙ ap (λ (xs : List Entry). xs ++ filter test (e ∷ [])) none ∙ fresh

  pub tells_more : (e : Entry) → entry_booked y.filings h x.0 x.1 ≡ e ∷ [] → is_some (terms_of h e.company) ≡ true → (is_bill e.kind ≡ true → is_some (enrolment_of h e.place) ≡ true) → Tells y (x ∷ h) (es ++ e ∷ [])
  tells_more e one owner place =
      record {
        entries = (λ z. T.entries z ++ sym one z);
        companies = λ company no.
            let none = later.registered company no in
            not_passed (λ (a : Entry). eqb a.company company) e (T.companies company none)
            (λ its. not_none (terms_of h e.company) owner (ap (terms_of h) (eqb-true e.company company its) ∙ none));
        points = λ point no.
            let none = later.enrolled point no in
            not_passed (λ (a : Entry). is_bill a.kind && eqb a.place point) e (T.points point none)
            (λ its.
            let parts = and_parts (is_bill e.kind) (eqb e.place point) its in
            not_none (enrolment_of h e.place) (place parts.0) (ap (enrolment_of h) (eqb-true e.place point parts.1) ∙ none));
      }

-- an advance or a balance charges nothing
pub adds_payment : (t : TariffFigures) (es : List Entry) (ls : List LocalityRow) (ps : List PointRow) (e : Entry) → ((company : ℕ) → charge_to company e ≡ pos 0) → e.ug1.0 ≡ pos 0 → e.other.0 ≡ pos 0 → Adds t es ls ps → Adds t (es ++ e ∷ []) ls ps
adds_payment t es ls ps e no_lines no_ug1 no_gs A =
    record {
      lines = λ company.
          let more = sum_z_push (charge_to company) es e in
          let old = A.lines company in
          let none = no_lines company in
          omega (arith, ints, more, old, none);
      ug1 = let more = sum_z_push (λ (a : Entry). a.ug1.0) es e in omega (arith, ints, more, A.ug1);
      gs = let more = sum_z_push (λ (a : Entry). a.other.0) es e in omega (arith, ints, more, A.gs);
    }

-- ---- Calls that only speak, whatever they are answered: they book nothing, file nothing, enrol nothing and register nobody
pub record Silent (y : Fixed) (h : History) (c : Call) : Type 0 where
  pub entry : (granted : Granted) → entry_of y.filings h c granted ≡ []
  pub files : (place : ℕ) → files y.filings place c ≡ None
  pub enrols : (point : ℕ) → enrols point c ≡ None
  pub registers : (company : ℕ) → registers company c ≡ None

module _ (y : Fixed) (h : History) (es : List Entry) (ls : List LocalityRow) (ps : List PointRow) (B : Booked y h es ls ps) where
  -- nothing of the sort is told by a call
  pub unaltered : (x : Told) → Later h (x ∷ h) → Same y h (x ∷ h) → entry_booked y.filings h x.0 x.1 ≡ [] → Booked y (x ∷ h) es ls ps
  unaltered x later same none =
      record { standing = standing_later y h (x ∷ h) ps later same B.standing; adds = B.adds; tells = tells_later y h x es later B.tells none }

  pub refused : (c : Call) (refusal : Refusal) → Booked y ((c, Err refusal) ∷ h) es ls ps
  refused c refusal =
      unaltered (c, Err refusal) (record { registered = λ company none. none; enrolled = λ point none. none })
      (record { filed = λ place. refl; enrolled = λ point. refl }) refl

  pub spoken : (c : Call) (answer : Result Granted Refusal) → Silent y h c → Booked y ((c, answer) ∷ h) es ls ps
  spoken c (Err refusal) s = refused c refusal
  spoken c (Ok granted) s =
      unaltered (c, Ok granted)
      (record {
        registered = λ company. none_before (registers company c) (terms_of h company);
        enrolled = λ point. none_before (enrols point c) (enrolment_of h point);
      })
      (record {
        filed = λ place. ap (λ (says : Option LocalityRow). or_else says (filing_of y.filings h place)) (s.files place);
        enrolled = λ point. ap (λ (says : Option Enrolment). or_else says (enrolment_of h point)) (s.enrols point);
      })
      (s.entry granted)
