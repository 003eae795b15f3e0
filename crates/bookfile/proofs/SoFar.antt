-- Reading line by line: what the lines so far say.
use Rattle.std.proofs.Common.{◌≡◌, ℕ, ◌+◌, ◌<◌, ◌≤◌, List, [], ◌∷◌, ◌++◌, length, Some, None, Ok, Err, Result, vec_items, Option, sym, refl, ap, ◌∙◌, subst, inl, inr, append_assoc, append-nil, arith, length-append}
use Rattle.std.proofs.ByRecursion.{All-append}
use Rattle.std.specs.Str.Lines.{IsFirstLine as Row}
use Rattle.std.specs.List.{AllByRecursion}
use Rattle.std.specs.Result.{MatchResult, IsErrAnd}
use Rattle.tables.specs.declared.rows.LocalityRow.{LocalityRow}
use Rattle.calls.specs.declared.call.Call.{Call}
use Rattle.bookfile.specs.declared.file.BookFile.{BookFile}
use Rattle.bookfile.specs.declared.file.NumberedCall.{NumberedCall}
use Rattle.bookfile.specs.declared.file.Unread.{Unread}
use Rattle.bookfile.specs.declared.file.Unread.TheVariants.{Malformed as MalformedAt}
use Rattle.bookfile.specs.declared.line.Line.{Line}
use Rattle.bookfile.specs.declared.malformed.Malformed.{Malformed}
use Rattle.bookfile.specs.declared.table.Table.{Table}
use Rattle.bookfile.specs.Calls.{call_of}
use Rattle.bookfile.specs.Files.{line_count, LineOf, Numbered, after_line, after_lines, line_filings, filings_of, called_by, line_calls, calls_from, calls_of, Sound, Step, Rows, RowsBefore, RowSays, RowsSay, FirstFault, Says}
use Rattle.bookfile.specs.Faults.{Fault}
use Rattle.bookfile.specs.Filed.{filed, rule_of, opening_of}
use Rattle.bookfile.specs.Grammar.{Silent}
use Rattle.bookfile.specs.Slots.{and_then}
use Rattle.bookfile.specs.Tables.{empty_table}
use Rattle.bookfile.proofs.LineCounts.{line_count_more}

-- the table after one line more
after_lines_push : (t : Table) (xs : List Numbered) (x : Numbered) → after_lines t (xs ++ x ∷ []) ≡ and_then (after_lines t xs) (λ u. after_line u x.line)
after_lines_push t [] x = last (after_line t x.line)
  where
    last : (o : Option Table) → and_then o (λ u. Some u) ≡ o
    last None = refl
    last (Some u) = refl
after_lines_push t (y ∷ ys) x = next (after_line t y.line) (λ u. after_lines_push u ys x)
  where
    next : (o : Option Table) → ((u : Table) → after_lines u (ys ++ x ∷ []) ≡ and_then (after_lines u ys) (λ v. after_line v x.line)) → and_then o (λ u. after_lines u (ys ++ x ∷ [])) ≡ and_then (and_then o (λ u. after_lines u ys)) (λ u. after_line u x.line)
    next None ih = refl
    next (Some u) ih = ih u

-- the filings and the calls with one line more
filings_push : (xs : List Numbered) (x : Numbered) → filings_of (xs ++ x ∷ []) ≡ filings_of xs ++ line_filings x.line
filings_push [] x = append-nil (line_filings x.line)
filings_push (y ∷ ys) x = ap (λ fs. line_filings y.line ++ fs) (filings_push ys x) ∙ sym (append_assoc (line_filings y.line) (filings_of ys) _)

calls_push : (n k : ℕ) (xs : List Numbered) (x : Numbered) → n + length (filings_of xs) ≡ k → calls_from n (xs ++ x ∷ []) ≡ calls_from n xs ++ line_calls k x
calls_push n k [] x e = let same : n ≡ k = omega arith in append-nil (line_calls n x) ∙ ap (λ m. line_calls m x) same
calls_push n k (y ∷ ys) x e =
    let after = n + length (line_filings y.line) in
    let rest : after + length (filings_of ys) ≡ k = omega (arith, length-append (line_filings y.line) (filings_of ys)) in
    ap (λ cs. line_calls n y ++ cs) (calls_push after k ys x rest) ∙ sym (append_assoc (line_calls n y) (calls_from after ys) _)

-- what `map_err` makes of a fault
pub named : {X : Type 0} {Q : Malformed → Unread → Type 0} (r : Result X Malformed) (m : Result X Unread) (e : Unread) (line : ℕ) → ((what : Malformed) (u : Unread) → Q what u → u ≡ MalformedAt line what) → MatchResult r (λ x. m ≡ Ok x) (λ what. IsErrAnd m (Q what)) → m ≡ Err e → (what : Malformed) × (r ≡ Err what) × (e ≡ MalformedAt line what)
named (Ok x) m e line gives made is = absurd (cc)
named (Err what) (Ok x) e line gives made is = absurd made
named (Err what) (Err u) e line gives made is = let same : u ≡ e = cc in (what, refl, sym same ∙ gives what u made)

-- one row more of a text
rows_more : (bs : List ℕ) (rows : List (List ℕ)) (rest row next : List ℕ) → RowsBefore bs rows rest → 0 < length rest → Row rest row next → RowsBefore bs (rows ++ row ∷ []) next
rows_more bs [] rest row next e some is = (next, subst (λ b. 0 < length b) e some, subst (λ b. Row b row next) e is, refl)
rows_more bs (r ∷ rs) rest row next (more, full, first, cut) some is = (more, full, first, rows_more more rs rest row next cut some is)

pub rows_all : (bs : List ℕ) (rows : List (List ℕ)) (rest : List ℕ) → RowsBefore bs rows rest → length rest ≡ 0 → Rows bs rows
rows_all bs [] rest e none = subst (λ b. length b ≡ 0) e none
rows_all bs (r ∷ rs) rest (more, full, first, cut) none = (more, full, first, rows_all more rs rest cut none)

-- one row more that says nothing, or a line
silent_said : (n : ℕ) (rows : List (List ℕ)) (said : List Numbered) (row : List ℕ) → RowsSay n rows said → Silent row → RowsSay n (rows ++ row ∷ []) said
silent_said n [] said row none silent = inl (silent, none)
silent_said n (r ∷ rs) said row (inl (first, rest)) silent = inl (first, silent_said (n + 1) rs said row rest silent)
silent_said n (r ∷ rs) said row (inr (line, more, first, is, rest)) silent = inr (line, more, first, is, silent_said (n + 1) rs more row rest silent)

line_said : (n k : ℕ) (rows : List (List ℕ)) (said : List Numbered) (row : List ℕ) (line : Line) → n + length rows ≡ k → RowsSay n rows said → RowSays row line → RowsSay n (rows ++ row ∷ []) (said ++ record { number = k; line = line } ∷ [])
line_said n k [] said row line at none says =
    let same : n ≡ k = omega arith in
    inr (line, [], says, ap (λ xs. xs ++ record { number = k; line = line } ∷ []) none ∙ ap (λ m. record { number = m; line = line } ∷ []) (sym same), refl)
line_said n k (r ∷ rs) said row line at (inl (first, rest)) says = inl (first, line_said (n + 1) k rs said row line (omega arith) rest says)
line_said n k (r ∷ rs) said row line at (inr (l, more, first, is, rest)) says =
    let x : Numbered = record { number = k; line = line } in
    inr (l, more ++ x ∷ [], first, ap (λ xs. xs ++ x ∷ []) is, line_said (n + 1) k rs more row line (omega arith) rest says)

-- so many rows of the text are read, and the rest is left
pub record SoFar (text : List ℕ) (read : ℕ) (rest : List ℕ) (t : Table) (fs : List LocalityRow) (cs : List NumberedCall) : Type 0 where
  pub rows : List (List ℕ)
  pub cut : RowsBefore text rows rest
  pub count : length rows ≡ read
  pub lines : List Numbered
  pub say : RowsSay 1 rows lines
  pub puts : after_lines empty_table lines ≡ Some t
  pub filings : fs ≡ filings_of lines
  pub calls : cs ≡ calls_of lines
  pub sound : AllByRecursion (Sound text) cs
  pub left : read + line_count rest ≡ line_count text

pub at_start : (text rest : List ℕ) (t : Table) (fs : List LocalityRow) (cs : List NumberedCall) → rest ≡ text → t ≡ empty_table → fs ≡ [] → cs ≡ [] → SoFar text 0 rest t fs cs
at_start text rest t fs cs whole empty no_filing no_call =
    record {
      rows = [];
      cut = whole;
      count = refl;
      lines = [];
      say = refl;
      puts = ap (λ u. Some u) (sym empty);
      filings = no_filing;
      calls = no_call;
      sound = subst (AllByRecursion (Sound text)) (sym no_call) tt;
      left = let e : line_count rest ≡ line_count text = ap line_count whole in omega arith;
    }

pub at_end : (text rest : List ℕ) (read : ℕ) (book : BookFile) (t : Table) → SoFar text read rest t (vec_items book.filings) (vec_items book.calls) → length rest ≡ 0 → book.tariff ≡ filed t → book.rule ≡ rule_of t → book.opening ≡ opening_of t → Says text book
at_end text rest read book t old none tariff rule opening =
    record {
      rows = old.rows;
      cut = rows_all text old.rows rest old.cut none;
      lines = old.lines;
      say = old.say;
      table = t;
      puts = old.puts;
      tariff = tariff;
      rule = rule;
      opening = opening;
      filings = old.filings;
      calls = old.calls;
      sound = old.sound;
    }

module _ {text : List ℕ} {read : ℕ} {rest : List ℕ} {t : Table} {fs : List LocalityRow} {cs : List NumberedCall} (old : SoFar text read rest t fs cs) (row next : List ℕ) (item : (0 < length rest) × (length row + length next ≤ length rest) × Row rest row next) where
  here : LineOf text (read + 1)
  here = (omega arith, omega (arith, old.left, line_count_more rest row next item))

  one_sound : (o : Option Call) → AllByRecursion (Sound text) (called_by (read + 1) o)
  one_sound None = tt
  one_sound (Some call) = (here, tt)

  -- a row at fault
  pub first_fault : (what : Malformed) → Fault row t what → LineOf text (read + 1) × FirstFault text (read + 1) what
  first_fault what fault = (
    here,
    record {
      before = old.rows;
      rest = rest;
      cut = old.cut;
      number = omega (arith, old.count);
      lines = old.lines;
      say = old.say;
      table = t;
      puts = old.puts;
      some = item.0;
      row = row;
      more = next;
      here = item.2;
      fault = fault;
    },
  )

  -- a row that says nothing
  pub silent_more : (u : Table) (o : Option Line) → ((line : Line) → o ≡ Some line → ⊥) → Step row t u o → SoFar text (read + 1) next u fs cs
  silent_more u (Some line) none step = absurd (none line refl)
  silent_more u None none (silent, stays) =
      record {
        rows = old.rows ++ row ∷ [];
        cut = rows_more text old.rows rest row next old.cut item.0 item.2;
        count = omega (arith, old.count, length-append old.rows (row ∷ []));
        lines = old.lines;
        say = silent_said 1 old.rows old.lines row old.say silent;
        puts = old.puts ∙ ap (λ v. Some v) (sym stays);
        filings = old.filings;
        calls = old.calls;
        sound = old.sound;
        left = omega (arith, old.left, line_count_more rest row next item);
      }

  -- a row that says a line
  pub said_more : (u : Table) (o : Option Line) (line : Line) (gs : List LocalityRow) (ds : List NumberedCall) → o ≡ Some line → Step row t u o → gs ≡ fs ++ line_filings line → ds ≡ cs ++ line_calls (length fs) (record { number = read + 1; line = line }) → SoFar text (read + 1) next u gs ds
  said_more u o line gs ds is step filing call =
      let x : Numbered = record { number = read + 1; line = line } in
      let said = subst (Step row t u) is step in
      record {
        rows = old.rows ++ row ∷ [];
        cut = rows_more text old.rows rest row next old.cut item.0 item.2;
        count = omega (arith, old.count, length-append old.rows (row ∷ []));
        lines = old.lines ++ x ∷ [];
        say = line_said 1 (read + 1) old.rows old.lines row line (omega (arith, old.count)) old.say said.0;
        puts = after_lines_push empty_table old.lines x ∙ ap (λ p. and_then p (λ v. after_line v line)) old.puts ∙ said.1;
        filings = filing ∙ ap (λ l. l ++ line_filings line) old.filings ∙ sym (filings_push old.lines x);
        calls = call ∙ ap (λ l. l ++ line_calls (length fs) x) old.calls ∙ sym (calls_push 0 (length fs) old.lines x (omega (arith, ap length old.filings)));
        sound = subst (AllByRecursion (Sound text)) (sym call) (All-append (Sound text) cs _ old.sound (one_sound (call_of (length fs) line.statement line.figures)));
        left = omega (arith, old.left, line_count_more rest row next item);
      }
