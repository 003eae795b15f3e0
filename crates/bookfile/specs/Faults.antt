-- What is wrong with a row that is malformed: the first thing from its left, and then what the table does not take.
use Rattle.std.specs.Prelude.{◌≡◌, ℕ, ◌+◌, ◌<◌, ◌≤◌, true, false, ◌⊎◌, List, [], ◌∷◌, ◌++◌, length, replicate, ℤ, Some, None, is_some, Option, ◌≢◌, slice_index, slice_index_or}
use Rattle.bookfile.specs.declared.line.Line.{Line}
use Rattle.bookfile.specs.declared.malformed.Malformed.{Malformed}
use Rattle.bookfile.specs.declared.malformed.Malformed.TheVariants.{Keyword, Word, Name, Missing, Repeated, Number, NinthBracket}
use Rattle.bookfile.specs.declared.slots.Span.{Span}
use Rattle.bookfile.specs.declared.statement.Field.{Field}
use Rattle.bookfile.specs.declared.statement.Statement.{Statement}
use Rattle.bookfile.specs.declared.statement.Statement.TheVariants.{Bracket}
use Rattle.bookfile.specs.declared.table.Table.{Table}
use Rattle.bookfile.specs.Grammar.{keyword_of, names_of, Plain, First, Filled, Before, Speaks}
use Rattle.bookfile.specs.Slots.{placed, placed_all}
use Rattle.bookfile.specs.Syntax.{allowed}
use Rattle.bookfile.specs.Tables.{span_of}

-- the figure at a place of a statement
abbrev pub field : Statement → ℕ → Field
field s i = record { statement = s; place = i }

-- a row begins with no keyword
pub record NoKeyword (row : List ℕ) (what : Malformed) : Type 0 where
  pub is : what ≡ Keyword
  pub text : List ℕ
  pub before : Before row text
  pub word : List ℕ
  pub rest : List ℕ
  pub first : First text word rest
  pub none : (s : Statement) → word ≢ keyword_of s

-- bs begins with these words, and rest is left
abbrev pub Opens : List ℕ → List (List ℕ) → List ℕ → Type 0
Opens bs [] rest = rest ≡ bs
Opens bs (w ∷ ws) rest = (more : List ℕ) × First bs w more × Opens more ws rest

-- a word is cut at its first equals sign
pub record Cut (w name numeral : List ℕ) : Type 0 where
  pub cut : w ≡ name ++ (61 ∷ numeral)
  pub first : (i : ℕ) → i < length name → slice_index name i ≢ 61

-- a word names the figure at a place of a statement, and a text for it
pub record Spells (s : Statement) (w : List ℕ) (i : ℕ) (numeral : List ℕ) : Type 0 where
  pub place : i < length (names_of s)
  pub cut : w ≡ slice_index_or (names_of s) i [] ++ (61 ∷ numeral)

-- what is wrong with a word of a statement after words that give these figures: it has no equals sign, its name is none of the statement's,
-- its figure is given before, or its text is no plain number
abbrev pub WordFault : Statement → List (Option ℤ) → List ℕ → Malformed → Type 0
WordFault s given w Word = (i : ℕ) → i < length w → slice_index w i ≢ 61
WordFault s given w (Name t) =
    (t ≡ s) × (name : List ℕ) × (numeral : List ℕ) × Cut w name numeral × ((i : ℕ) → i < length (names_of s) → slice_index_or (names_of s) i [] ≢ name)
WordFault s given w (Repeated f) =
    (i : ℕ) × (numeral : List ℕ) × (f ≡ field s i) × Spells s w i numeral × (is_some (slice_index_or given i None) ≡ true)
WordFault s given w (Number f) =
    (i : ℕ) × (numeral : List ℕ) × (f ≡ field s i) × Spells s w i numeral × (slice_index_or given i None ≡ None) × (Plain numeral → ⊥)
WordFault s given w other = ⊥

-- of the words of a statement one is at fault, and those before it are not
pub record BadWord (s : Statement) (bs : List ℕ) (what : Malformed) : Type 0 where
  pub before : List (List ℕ)
  pub rest : List ℕ
  pub opens : Opens bs before rest
  pub given : List (Option ℤ)
  pub filled : Filled s before (replicate 46 None) given
  pub word : List ℕ
  pub more : List ℕ
  pub next : First rest word more
  pub fault : WordFault s given word what

-- what is wrong with a figure that may not be so: it is missing, or no number of its kind
abbrev pub figure_fault : Field → Option ℤ → Malformed
figure_fault f None = Missing f
figure_fault f (Some z) = Number f

-- the first figure of a statement that may not be so
pub record BadFigure (s : Statement) (zs : List (Option ℤ)) (what : Malformed) : Type 0 where
  pub place : ℕ
  pub within : place < 46
  pub before : (k : ℕ) → k < place → allowed s k (slice_index_or zs k None) ≡ true
  pub here : allowed s place (slice_index_or zs place None) ≡ false
  pub is : what ≡ figure_fault (field s place) (slice_index_or zs place None)

-- after its keyword, a row has a word that is at fault, or a figure that may not be so
abbrev pub BadRest : List ℕ → Statement → Malformed → Type 0
BadRest row s what =
    ((text : List ℕ) × (rest : List ℕ) × Before row text × First text (keyword_of s) rest × BadWord s rest what) ⊎
    ((zs : List (Option ℤ)) × Speaks row s zs × BadFigure s zs what)

-- a row says no statement with its figures
abbrev pub Misread : List ℕ → Malformed → Type 0
Misread row what = NoKeyword row what ⊎ ((s : Statement) × BadRest row s what)

-- of so many figures, put one by one, the first whose slot is taken
pub record SlotTaken (s : Statement) (zs slots : List (Option ℤ)) (at first count : ℕ) (what : Malformed) : Type 0 where
  pub n : ℕ
  pub below : n < count
  pub held : List (Option ℤ)
  pub before : placed_all slots at zs first n ≡ Some held
  pub here : placed held (at + n) (slice_index_or zs (first + n) None) ≡ None
  pub is : what ≡ Repeated (field s (first + n))

-- what a table does not take of a line: a bracket after the eighth, or a figure that is given before
abbrev pub Untaken : Line → Table → Malformed → Type 0
Untaken line t what =
    ((line.statement ≡ Bracket) × (8 ≤ t.brackets) × (what ≡ NinthBracket)) ⊎
    ((p : Span) × (span_of line.statement line.figures t.brackets ≡ Some p) × SlotTaken line.statement line.figures t.slots p.slot p.first p.count what)

-- what is wrong with a row, after rows that made the table
abbrev pub Fault : List ℕ → Table → Malformed → Type 0
Fault row t what = Misread row what ⊎ ((line : Line) × Speaks row line.statement line.figures × Untaken line t what)
