-- What ties a book to its history and its journal. It holds after every list of calls.
use Rattle.std.proofs.Common.{◌≡◌, ℕ, ◌<◌, Bool, true, false, eqb, List, ◌∷◌, length, get_or, set, ℤ, pos, ◌+ℤ◌, Some, None, Ok, Err, Option, Result, refl, sym, ap, subst, ◌∙◌, length-set, arith}
use Rattle.std.proofs.lemmas.Bool.{eq-eqb, ne_eqb}
use borrow.Author.Differences.{ints}
use Rattle.units.specs.declared.refusal.Refusal.{Refusal}
use Rattle.rounding.specs.Sums.{sum_z}
use Rattle.rounding.proofs.SumLaws.{sum_z_set}
use Rattle.journal.specs.declared.entry.Entry.{Entry}
use Rattle.tariff.specs.declared.table.Tariff.{Tariff}
use Rattle.tables.specs.declared.rows.LocalityRow.{LocalityRow}
use Rattle.tables.specs.declared.rows.PointRow.{PointRow}
use Rattle.tables.specs.Blank.{no_locality, no_point}
use Rattle.tables.specs.PointRows.{point_stands}
use Rattle.company.specs.declared.record.Company.{Company}
use Rattle.company.specs.declared.record.Phase.TheVariants.{Closed}
use Rattle.calls.specs.declared.call.Call.{Call}
use Rattle.calls.specs.declared.call.Call.TheVariants.{Ask}
use Rattle.calls.specs.declared.call.Question.{Question}
use Rattle.calls.specs.declared.enrolling.Enrolment.{Enrolment}
use Rattle.orders.specs.Registers.{Companies}
use Rattle.booklaws.specs.declared.answer.Granted.{Granted}
use Rattle.booklaws.specs.States.{BookState}
use Rattle.booklaws.specs.Calls.{State}
use Rattle.opened.specs.Figures.{settlement, price_for, paid_out}
use Rattle.booklaws.specs.JournalSums.{journal_volume, journal_days, advances_of, payments, paid_to}
use Rattle.yearly.specs.Histories.{Told, History, terms_of, filing_of, enrolment_of, closed_in, drawn, confirmed, taken_back}
use Rattle.yearly.specs.Entries.{locality_in}
use Rattle.yearly.specs.YearRules.{point_in}
use Rattle.yearly.proofs.Writing.{each_after_set}
use Rattle.yearly.proofs.Stories.{Story, HeldBy, Held}

-- what no call alters
pub record Fixed : Type 0 where
  pub tariff : Tariff
  pub number : ℕ
  pub sum : ℤ
  pub capacity : ℕ
  pub price : ℕ → ℕ → ℕ → ℕ
  pub filings : List LocalityRow
  pub locality_places : ℕ
  pub point_places : ℕ

-- what calls alter
pub record Moving : Type 0 where
  pub companies : Companies
  pub entries : List Entry
  pub localities : List LocalityRow
  pub points : List PointRow

abbrev pub book_at : Fixed → Companies → List Entry → BookState
book_at y companies entries =
    record { opened = Some (record { tariff = y.tariff; sum = y.sum; register = record { number = y.number; companies = companies } }); entries = entries; capacity = y.capacity; price = y.price }

abbrev pub state_at : Fixed → Moving → State
state_at y m = record { book = book_at y m.companies m.entries; localities = m.localities; points = m.points }

-- ---- The tie

abbrev pub story : History → List Entry → (company : ℕ) → Story
story h es company =
    record {
      terms = terms_of h company;
      advances = advances_of es company;
      paid = paid_to es company;
      drawn = drawn h company;
      confirmed = confirmed h company;
      taken_back = taken_back h company;
      closed = closed_in h company;
    }

pub record PointTied (row : PointRow) (e : Option Enrolment) (v d : ℤ) : Type 0 where
  pub is : row ≡ point_in e v d
  pub volume : pos row.volume ≡ v
  pub days : pos row.days ≡ d
  pub blank : point_stands row ≡ false → (row.volume ≡ 0) × (row.days ≡ 0)

-- a closed company's balances are its settlement
abbrev pub Settled : Fixed → List LocalityRow → List PointRow → (company : ℕ) → Option Company → Type 0
Settled y localities points company None = Unit {0}
Settled y localities points company (Some c) = c.phase ≡ Closed → c.balances ≡ settlement y.tariff.figures (price_for y.price c) localities points company c

pub record Tied (y : Fixed) (h : History) (m : Moving) : Type 0 where
  pub long : length m.companies ≡ 16
  pub locality_places : length m.localities ≡ y.locality_places
  pub point_places : length m.points ≡ y.point_places
  pub companies : (i : ℕ) → Held (get_or m.companies i None) (story h m.entries i)
  pub localities : (i : ℕ) → get_or m.localities i no_locality ≡ locality_in (filing_of y.filings h i)
  pub points : (i : ℕ) → PointTied (get_or m.points i no_point) (enrolment_of h i) (journal_volume m.entries i) (journal_days m.entries i)
  pub settled : (i : ℕ) → Settled y m.localities m.points i (get_or m.companies i None)
  pub spent : sum_z paid_out m.companies ≡ payments m.entries

-- a state that is tied to a history
pub record Stands (y : Fixed) (h : History) (s : State) : Type 0 where
  pub m : Moving
  pub is : s ≡ state_at y m
  pub tied : Tied y h m

-- ---- What keeps it

pub point_same : (row : PointRow) (e e' : Option Enrolment) (volume volume' days days' : ℤ) → e' ≡ e → volume' ≡ volume → days' ≡ days → PointTied row e volume days → PointTied row e' volume' days'
point_same row e e' volume volume' days days' p q r tied =
    subst (λ (T : Type 0). T) (λ z. PointTied row (sym p z) (sym q z) (sym r z)) tied

module _ (y : Fixed) (h : History) (m : Moving) (T : Tied y h m) where
  -- a refused call
  pub kept : (c : Call) (refused : Refusal) → Tied y ((c, Err refused) ∷ h) m
  kept c refused =
      record { long = T.long; locality_places = T.locality_places; point_places = T.point_places; companies = T.companies; localities = T.localities; points = T.points; settled = T.settled; spent = T.spent }

  -- a question
  pub asked : (q : Question) (answer : Result Granted Refusal) → Tied y ((Ask q, answer) ∷ h) m
  asked q (Ok granted) =
      record { long = T.long; locality_places = T.locality_places; point_places = T.point_places; companies = T.companies; localities = T.localities; points = T.points; settled = T.settled; spent = T.spent }
  asked q (Err refused) = kept (Ask q) refused

  -- a company's record is replaced, and entries may be booked: F tells of each company after the call, by whether it is the one
  module _ (x : Told) (place : ℕ) (old : Option Company) (new : Company) (es : List Entry) (stood : get_or m.companies place None ≡ old) (within : place < length m.companies) (F : Bool → ℕ → Story) where
    held_after : ((i : ℕ) → story (x ∷ h) es i ≡ F (eqb place i) i) → ((i : ℕ) → F false i ≡ story h m.entries i) → (Held old (story h m.entries place) → HeldBy new (F true place)) → (i : ℕ) → Held (get_or (set m.companies place (Some new)) i None) (story (x ∷ h) es i)
    held_after after others moves =
        each_after_set (λ (i : ℕ) (c : Option Company). Held c (story (x ∷ h) es i)) m.companies place (Some new) None within
        (λ i other.
        subst (Held (get_or m.companies i None)) (sym (after i ∙ ap (λ (b : Bool). F b i) (ne_eqb place i other) ∙ others i)) (T.companies i))
        (subst (HeldBy new) (sym (after place ∙ ap (λ (b : Bool). F b place) (eq-eqb place place refl)))
        (moves (subst (λ (c : Option Company). Held c (story h m.entries place)) stood (T.companies place))))

    spent_after : payments es +ℤ paid_out old ≡ payments m.entries +ℤ paid_out (Some new) → sum_z paid_out (set m.companies place (Some new)) ≡ payments es
    spent_after pays =
        let replaced = sum_z_set paid_out m.companies place (Some new) None within in
        let before = ap paid_out stood in
        omega (arith, ints, replaced, before, pays, T.spent)

    pub replaced : ((i : ℕ) → story (x ∷ h) es i ≡ F (eqb place i) i) → ((i : ℕ) → F false i ≡ story h m.entries i) → (Held old (story h m.entries place) → HeldBy new (F true place)) → Settled y m.localities m.points place (Some new) → payments es +ℤ paid_out old ≡ payments m.entries +ℤ paid_out (Some new) → ((i : ℕ) → journal_volume es i ≡ journal_volume m.entries i) → ((i : ℕ) → journal_days es i ≡ journal_days m.entries i) → ((i : ℕ) → filing_of y.filings (x ∷ h) i ≡ filing_of y.filings h i) → ((i : ℕ) → enrolment_of (x ∷ h) i ≡ enrolment_of h i) → Tied y (x ∷ h) (record { companies = set m.companies place (Some new); entries = es; localities = m.localities; points = m.points })
    replaced after others moves settles pays volume days filed enrolled =
        record {
          long = length-set m.companies place (Some new) ∙ T.long;
          locality_places = T.locality_places;
          point_places = T.point_places;
          companies = held_after after others moves;
          localities = λ i. T.localities i ∙ ap locality_in (sym (filed i));
          points = λ i. point_same _ _ _ _ _ _ _ (enrolled i) (volume i) (days i) (T.points i);
          settled = each_after_set (Settled y m.localities m.points) m.companies place (Some new) None within (λ i other. T.settled i) settles;
          spent = spent_after pays;
        }
