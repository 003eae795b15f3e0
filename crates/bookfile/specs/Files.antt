-- What reading a whole book file promises.
use Rattle.std.specs.Prelude.{◌≡◌, ℕ, ◌+◌, ◌<◌, ◌≤◌, max, cond, ◌⊎◌, List, [], ◌∷◌, ◌++◌, length, Some, None, vec_items, Option, ◌==◌}
use Rattle.std.specs.Str.Lines.{IsFirstLine as Row}
use Rattle.std.specs.List.{AllByRecursion}
use Rattle.tables.specs.declared.rows.LocalityRow.{LocalityRow}
use Rattle.calls.specs.declared.call.Call.{Call}
use Rattle.bookfile.specs.declared.faults.LineFault.{LineFault}
use Rattle.bookfile.specs.declared.file.BookFile.{BookFile}
use Rattle.bookfile.specs.declared.file.NumberedCall.{NumberedCall}
use Rattle.bookfile.specs.declared.file.Unread.{Unread}
use Rattle.bookfile.specs.declared.file.Unread.TheVariants.{Malformed as MalformedAt, Memory}
use Rattle.bookfile.specs.declared.line.Line.{Line}
use Rattle.bookfile.specs.declared.malformed.Malformed.{Malformed}
use Rattle.bookfile.specs.declared.table.Table.{Table}
use Rattle.bookfile.specs.Calls.{call_of}
use Rattle.bookfile.specs.Faults.{Fault}
use Rattle.bookfile.specs.Filed.{filed, rule_of, opening_of}
use Rattle.bookfile.specs.Filings.{filing_of}
use Rattle.bookfile.specs.Grammar.{Silent, Speaks}
use Rattle.bookfile.specs.Slots.{and_then}
use Rattle.bookfile.specs.Tables.{empty_table, table_after}

-- how many lines a text has: each newline ends one, and the last may end with the text
abbrev pub line_count : List ℕ → ℕ
line_count [] = 0
line_count (b ∷ bs) = cond (b == 10) (1 + line_count bs) (max 1 (line_count bs))

-- the number of a line of the text, from 1
abbrev pub LineOf : List ℕ → ℕ → Type 0
LineOf text line = (1 ≤ line) × (line ≤ line_count text)

-- a line with a statement, and its number
pub record Numbered : Type 0 where
  pub number : ℕ
  pub line : Line

-- the table after a line, and after lines one by one
abbrev pub after_line : Table → Line → Option Table
after_line t line = table_after line.statement line.figures t

abbrev pub after_lines : Table → List Numbered → Option Table
after_lines t [] = Some t
after_lines t (x ∷ xs) = and_then (after_line t x.line) (λ u. after_lines u xs)

-- the row that a line files, if it files one
abbrev pub filed_by : Option LocalityRow → List LocalityRow
filed_by None = []
filed_by (Some row) = row ∷ []

abbrev pub line_filings : Line → List LocalityRow
line_filings line = filed_by (filing_of line.statement line.figures)

-- the rows that lines file, in their order
abbrev pub filings_of : List Numbered → List LocalityRow
filings_of [] = []
filings_of (x ∷ xs) = line_filings x.line ++ filings_of xs

-- the call of a line, if it makes one
abbrev pub called_by : ℕ → Option Call → List NumberedCall
called_by number None = []
called_by number (Some call) = record { line = number; call = call } ∷ []

abbrev pub line_calls : ℕ → Numbered → List NumberedCall
line_calls filings x = called_by x.number (call_of filings x.line.statement x.line.figures)

-- the calls of lines after so many filings, in their order
abbrev pub calls_from : ℕ → List Numbered → List NumberedCall
calls_from filings [] = []
calls_from filings (x ∷ xs) = line_calls filings x ++ calls_from (filings + length (line_filings x.line)) xs

abbrev pub calls_of : List Numbered → List NumberedCall
calls_of = calls_from 0

-- a call names a line of the text
abbrev pub Sound : List ℕ → NumberedCall → Type 0
Sound text n = LineOf text n.line

-- rows are the lines of a text
abbrev pub Rows : List ℕ → List (List ℕ) → Type 0
Rows bs [] = length bs ≡ 0
Rows bs (row ∷ rows) = (rest : List ℕ) × (0 < length bs) × Row bs row rest × Rows rest rows

-- a row says what a line does
abbrev pub RowSays : List ℕ → Line → Type 0
RowSays row line = Speaks row line.statement line.figures

-- what rows say, the first of them the nth of its text: each a statement, or nothing
abbrev pub RowsSay : ℕ → List (List ℕ) → List Numbered → Type 0
RowsSay n [] said = said ≡ []
RowsSay n (row ∷ rows) said =
    (Silent row × RowsSay (n + 1) rows said) ⊎
    ((line : Line) × (more : List Numbered) × RowSays row line × (said ≡ record { number = n; line = line } ∷ more) × RowsSay (n + 1) rows more)

-- a book file says what its text does: the figures of its lines make the tariff table, the management rule and the opening,
-- and their filings and their calls follow each other
pub record Says (text : List ℕ) (book : BookFile) : Type 0 where
  pub rows : List (List ℕ)
  pub cut : Rows text rows
  pub lines : List Numbered
  pub say : RowsSay 1 rows lines
  pub table : Table
  pub puts : after_lines empty_table lines ≡ Some table
  pub tariff : book.tariff ≡ filed table
  pub rule : book.rule ≡ rule_of table
  pub opening : book.opening ≡ opening_of table
  pub filings : vec_items book.filings ≡ filings_of lines
  pub calls : vec_items book.calls ≡ calls_of lines
  pub sound : AllByRecursion (Sound text) (vec_items book.calls)

-- rows are the first lines of a text, and rest is left
abbrev pub RowsBefore : List ℕ → List (List ℕ) → List ℕ → Type 0
RowsBefore bs [] rest = rest ≡ bs
RowsBefore bs (row ∷ rows) rest = (more : List ℕ) × (0 < length bs) × Row bs row more × RowsBefore more rows rest

-- a line of a text is its first at fault: the rows before it say lines that the table takes, and its own row has this fault
pub record FirstFault (text : List ℕ) (line : ℕ) (what : Malformed) : Type 0 where
  pub before : List (List ℕ)
  pub rest : List ℕ
  pub cut : RowsBefore text before rest
  pub number : line ≡ length before + 1
  pub lines : List Numbered
  pub say : RowsSay 1 before lines
  pub table : Table
  pub puts : after_lines empty_table lines ≡ Some table
  pub some : 0 < length rest
  pub row : List ℕ
  pub more : List ℕ
  pub here : Row rest row more
  pub fault : Fault row table what

-- a malformed line is one of the text's, and its first at fault
abbrev pub Placed : List ℕ → Unread → Type 0
Placed text (MalformedAt line what) = LineOf text line × FirstFault text line what
Placed text Memory = Unit {0}

-- a text has no line at fault: its rows say lines that the table takes
pub record WithoutFault (text : List ℕ) : Type 0 where
  pub rows : List (List ℕ)
  pub cut : Rows text rows
  pub lines : List Numbered
  pub say : RowsSay 1 rows lines
  pub table : Table
  pub puts : after_lines empty_table lines ≡ Some table

-- what is told first of a text is its first line at fault, with the fault of this line
abbrev pub FirstTold : List ℕ → Option LineFault → Type 0
FirstTold text None = WithoutFault text
FirstTold text (Some f) = LineOf text f.line × FirstFault text f.line f.what

-- a row leaves a table as it is and says nothing, or says a line that makes another table of it
abbrev pub Step : List ℕ → Table → Table → Option Line → Type 0
Step row t u None = Silent row × (u ≡ t)
Step row t u (Some line) = RowSays row line × (after_line t line ≡ Some u)

-- a text has one first line at fault, which has one fault, and then it is no book file
abbrev pub FaultLaw : Type 0
FaultLaw =
    (text : List ℕ) (line : ℕ) (what : Malformed) → FirstFault text line what →
    ((book : BookFile) → Says text book → ⊥) × ((other : ℕ) (reason : Malformed) → FirstFault text other reason → (line ≡ other) × (what ≡ reason))
