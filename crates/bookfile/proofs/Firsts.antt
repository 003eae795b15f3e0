-- A text has one first line at fault, and then it is no book file.
use Rattle.std.proofs.Common.{◌≡◌, ◌≢◌, ℕ, ◌+◌, ◌-◌, ◌<◌, ◌≤◌, inl, inr, List, [], ◌∷◌, ◌++◌, length, take, drop, Some, None, Option, sym, refl, ap, ◌∙◌, subst, ⊎_elim, arith, length-append, length-drop}
use Rattle.std.proofs.lemmas.Bool.{cases_lt}
use Rattle.std.proofs.lemmas.List.{take-append-drop}
use Rattle.std.proofs.lemmas.Str.{encode_same}
use lib.Utf8.{encodes}
use Rattle.std.specs.Char.{is_newline}
use Rattle.std.specs.List.{slice_index}
use Rattle.std.specs.Str.{EmptyOrStartsWithPassing}
use Rattle.std.specs.Str.Lines.{IsFirstLine as Row, StripsCarriageReturn}
use Rattle.bookfile.specs.declared.file.BookFile.{BookFile}
use Rattle.bookfile.specs.declared.line.Line.{Line}
use Rattle.bookfile.specs.declared.malformed.Malformed.{Malformed}
use Rattle.bookfile.specs.declared.table.Table.{Table}
use Rattle.bookfile.specs.Faults.{Fault}
use Rattle.bookfile.specs.Files.{Numbered, RowsBefore, Rows, RowSays, RowsSay, FirstFault, FaultLaw, Says, after_line, after_lines}
use Rattle.bookfile.specs.Grammar.{Silent}
use Rattle.bookfile.specs.Slots.{and_then}
use Rattle.bookfile.specs.Tables.{empty_table, table_after}
use Rattle.bookfile.proofs.Alone.{fault_one}
use Rattle.bookfile.proofs.Apart.{seam, fault_apart, silent_speaks, speaks_same}
use Rattle.bookfile.proofs.Cutting.{begins, span_same}

nothing : (xs : List ℕ) → length xs ≤ 0 → xs ≡ []
nothing [] h = refl
nothing (x ∷ xs) h = absurd (omega arith)

rest_same : (w v rest next : List ℕ) → w ≡ v → 0 < length w → EmptyOrStartsWithPassing is_newline w rest → EmptyOrStartsWithPassing is_newline v next → rest ≡ next
rest_same w v rest next e full f g =
    let a = f full in
    let b = g (subst (λ l. 0 < length l) e full) in
    (encode_same a.0 b.0 rest next (sym a.2 ∙ e ∙ b.2)).1

snoc_same : (xs ys : List ℕ) (c : ℕ) → xs ++ c ∷ [] ≡ ys ++ c ∷ [] → xs ≡ ys
snoc_same [] [] c e = refl
snoc_same [] (y ∷ ys) c e = absurd (omega (arith, ap length e, length-append ys (c ∷ [])))
snoc_same (x ∷ xs) [] c e = absurd (omega (arith, ap length e, length-append xs (c ∷ [])))
snoc_same (x ∷ xs) (y ∷ ys) c e =
    let head : x ≡ y = ap (λ l. slice_index l 0) e in
    let tail : xs ++ c ∷ [] ≡ ys ++ c ∷ [] = cc in
    let k = snoc_same xs ys c tail in
    λ i. head i ∷ k i

ends_return : (l x : List ℕ) → l ≡ x ++ (13 ∷ []) → (0 < length l → slice_index l (length l - 1) ≢ 13) → ⊥
ends_return l x e other =
    let long : length l ≡ length x + 1 = ap length e ∙ length-append x (13 ∷ []) in
    let last : length l - 1 ≡ length x = omega arith in
    other (omega arith) (ap (λ n. slice_index l n) last ∙ ap (λ m. slice_index m (length x)) e ∙ seam x [] 13)

strips_same : (l x y : List ℕ) → StripsCarriageReturn l x → StripsCarriageReturn l y → x ≡ y
strips_same l x y (inl (e, other)) (inl (h, none)) = e ∙ sym h
strips_same l x y (inl (e, other)) (inr h) = absurd (ends_return l y h other)
strips_same l x y (inr e) (inl (h, other)) = absurd (ends_return l x e other)
strips_same l x y (inr e) (inr h) = snoc_same x y 13 (sym e ∙ h)

pub row_same : (bs row other rest next : List ℕ) → Row bs row rest → Row bs other next → (row ≡ other) × (rest ≡ next)
row_same bs row other rest next (n, none, starts, fits, whole, strips) (m, clear, opens, within, all, cut) =
    let front : encodes none.0 ++ drop n bs ≡ encodes clear.0 ++ drop m bs =
    ap (λ l. l ++ drop n bs) none.1 ∙ take-append-drop n bs ∙ sym (take-append-drop m bs) ∙ ap (λ l. l ++ drop m bs) (sym clear.1) in
    let k = span_same is_newline none.0 clear.0 (drop n bs) (drop m bs) none.2 clear.2 (begins is_newline (drop n bs) (rest, starts)) (begins is_newline (drop m bs) (next, opens)) front in
    let at : n ≡ m = omega (arith, ap length k.1, length-drop n bs, length-drop m bs) in
    ⊎_elim
    (λ inside. (
      strips_same (take n bs) row other (strips inside) (subst (λ i. StripsCarriageReturn (take i bs) other) (sym at) (cut (omega arith))),
      rest_same (drop n bs) (drop m bs) rest next k.1 (omega (arith, length-drop n bs)) starts opens,
    ))
    (λ end. (whole (omega arith) ∙ sym (all (omega arith)), nothing rest (omega arith) ∙ sym (nothing next (omega arith))))
    (cases_lt n (length bs))

-- what comes before the last of two steps
first_of_two : {X : Type 0} (o : Option X) (f : X → Option X) (y : X) → and_then o f ≡ Some y → (x : X) × (o ≡ Some x) × (f x ≡ Some y)
first_of_two None f y e = absurd (cc)
first_of_two (Some x) f y e = (x, refl, e)

some_same : {X : Type 0} (o : Option X) (x y : X) → o ≡ Some x → o ≡ Some y → x ≡ y
some_same o x y e h = let same : Some x ≡ Some y = sym e ∙ h in cc

-- two readings of one row leave one table
step_same : (row : List ℕ) (t u v : Table) (a b : Line) → RowSays row a → RowSays row b → after_line t a ≡ Some u → after_line t b ≡ Some v → u ≡ v
step_same row t u v a b says told after left =
    let same = speaks_same row a.statement b.statement a.figures b.figures says told in
    some_same (after_line t a) u v after ((λ k. table_after (same.0 k) (same.1 k) t) ∙ left)

-- a row at fault is not said
not_said : (row : List ℕ) (rows : List (List ℕ)) (n : ℕ) (all : List Numbered) (t last : Table) (what : Malformed) → Fault row t what → RowsSay n (row ∷ rows) all → after_lines t all ≡ Some last → ⊥
not_said row rows n all t last what fault (inl (silent, rest)) after = fault_apart row t t what None fault (silent, refl)
not_said row rows n all t last what fault (inr (line, more, says, is, rest)) after =
    let k = first_of_two (after_line t line) (λ u. after_lines u more) last (ap (λ xs. after_lines t xs) (sym is) ∙ after) in
    fault_apart row t k.0 what (Some line) fault (says, k.1)

-- rows that are said do not pass the first row at fault
no_further : (bs : List ℕ) (before : List (List ℕ)) (rest : List ℕ) (rows : List (List ℕ)) (end : List ℕ) (n : ℕ) (lines all : List Numbered) (t table last : Table) (row more : List ℕ) (what : Malformed) → RowsBefore bs before rest → RowsSay n before lines → after_lines t lines ≡ Some table → Row rest row more → Fault row table what → RowsBefore bs rows end → RowsSay n rows all → after_lines t all ≡ Some last → length rows ≤ length before
no_further bs before rest [] end n lines all t table last row more what cut say puts here fault whole told after = omega arith
no_further bs [] rest (r ∷ rs) end n lines all t table last row more what cut say puts here fault (left, full, first, whole) told after =
    let same = row_same bs row r more left (subst (λ b. Row b row more) cut here) first in
    let is : t ≡ table = some_same (Some t) t table refl (ap (λ xs. after_lines t xs) (sym say) ∙ puts) in
    absurd (not_said r rs n all t last what (subst (λ x. Fault x t what) same.0 (subst (λ u. Fault row u what) (sym is) fault)) told after)
no_further bs (b ∷ before) rest (r ∷ rs) end n lines all t table last row more what (next, some, head, cut) (inl (silent, say)) puts here fault (left, full, first, whole) (inl (quiet, told)) after =
    let same = row_same bs b r next left head first in
    let rows = subst (λ x. RowsBefore x rs end) (sym same.1) whole in
    let le = no_further next before rest rs end (n + 1) lines all t table last row more what cut say puts here fault rows told after in
    omega (arith, le)
no_further bs (b ∷ before) rest (r ∷ rs) end n lines all t table last row more what (next, some, head, cut) (inl (silent, say)) puts here fault (left, full, first, whole) (inr (line, ys, says, is, told)) after =
    let same = row_same bs b r next left head first in
    absurd (silent_speaks b line.statement line.figures silent (subst (λ x. RowSays x line) (sym same.0) says))
no_further bs (b ∷ before) rest (r ∷ rs) end n lines all t table last row more what (next, some, head, cut) (inr (line, xs, says, is, say)) puts here fault (left, full, first, whole) (inl (quiet, told)) after =
    let same = row_same bs b r next left head first in
    absurd (silent_speaks b line.statement line.figures (subst Silent (sym same.0) quiet) says)
no_further bs (b ∷ before) rest (r ∷ rs) end n lines all t table last row more what (next, some, head, cut) (inr (line, xs, says, is, say)) puts here fault (left, full, first, whole) (inr (other, ys, tells, are, told)) after =
    let same = row_same bs b r next left head first in
    let rows = subst (λ x. RowsBefore x rs end) (sym same.1) whole in
    let j = first_of_two (after_line t line) (λ u. after_lines u xs) table (ap (λ l. after_lines t l) (sym is) ∙ puts) in
    let k = first_of_two (after_line t other) (λ u. after_lines u ys) last (ap (λ l. after_lines t l) (sym are) ∙ after) in
    let one = step_same b t j.0 k.0 line other says (subst (λ x. RowSays x other) (sym same.0) tells) j.1 k.1 in
    let le = no_further next before rest rs end (n + 1) xs ys j.0 table last row more what cut say j.2 here fault rows told (subst (λ u. after_lines u ys ≡ Some last) (sym one) k.2) in
    omega (arith, le)

-- all rows of a text are more than those before a row of it
rows_further : (bs : List ℕ) (before rows : List (List ℕ)) (rest : List ℕ) → RowsBefore bs before rest → 0 < length rest → Rows bs rows → length before < length rows
rows_further bs [] [] rest cut some none = let e : length rest ≡ length bs = ap length cut in absurd (omega arith)
rows_further bs [] (r ∷ rs) rest cut some all = omega arith
rows_further bs (b ∷ before) [] rest (next, full, head, cut) some none = absurd (omega arith)
rows_further bs (b ∷ before) (r ∷ rs) rest (next, full, head, cut) some (left, more, first, whole) =
    let same = row_same bs b r next left head first in
    let lt = rows_further next before rs rest cut some (subst (λ x. Rows x rs) (sym same.1) whole) in
    omega (arith, lt)

rows_cut : (bs : List ℕ) (rows : List (List ℕ)) → Rows bs rows → RowsBefore bs rows []
rows_cut bs [] none = sym (nothing bs (omega arith))
rows_cut bs (r ∷ rs) (left, full, first, whole) = (left, full, first, rows_cut left rs whole)

no_book : (text : List ℕ) (line : ℕ) (what : Malformed) (book : BookFile) → FirstFault text line what → Says text book → ⊥
no_book text line what book f says =
    let le = no_further text f.before f.rest says.rows [] 1 f.lines says.lines empty_table f.table says.table f.row f.more what f.cut f.say f.puts f.here f.fault (rows_cut text says.rows says.cut) says.say says.puts in
    absurd (omega (arith, le, rows_further text f.before says.rows f.rest f.cut f.some says.cut))

one_line : (text : List ℕ) (line other : ℕ) (what reason : Malformed) → FirstFault text line what → FirstFault text other reason → line ≡ other
one_line text line other what reason f g =
    let le = no_further text f.before f.rest g.before g.rest 1 f.lines g.lines empty_table f.table g.table f.row f.more what f.cut f.say f.puts f.here f.fault g.cut g.say g.puts in
    let ge = no_further text g.before g.rest f.before f.rest 1 g.lines f.lines empty_table g.table f.table g.row g.more reason g.cut g.say g.puts g.here g.fault f.cut f.say f.puts in
    omega (arith, le, ge, f.number, g.number)

-- as many rows that are said leave one rest and one table
end_same : (bs : List ℕ) (before : List (List ℕ)) (rest : List ℕ) (rows : List (List ℕ)) (end : List ℕ) (n : ℕ) (lines all : List Numbered) (t table last : Table) → RowsBefore bs before rest → RowsSay n before lines → after_lines t lines ≡ Some table → RowsBefore bs rows end → RowsSay n rows all → after_lines t all ≡ Some last → length before ≡ length rows → (rest ≡ end) × (table ≡ last)
end_same bs [] rest [] end n lines all t table last cut say puts whole told after long = (
  cut ∙ sym whole,
  some_same (Some t) table last (ap (λ xs. after_lines t xs) (sym say) ∙ puts) (ap (λ xs. after_lines t xs) (sym told) ∙ after),
)
end_same bs [] rest (r ∷ rs) end n lines all t table last cut say puts whole told after long = absurd (omega (arith, long))
end_same bs (b ∷ before) rest [] end n lines all t table last cut say puts whole told after long = absurd (omega (arith, long))
end_same bs (b ∷ before) rest (r ∷ rs) end n lines all t table last (next, some, head, cut) (inl (silent, say)) puts (left, full, first, whole) (inl (quiet, told)) after long =
    let same = row_same bs b r next left head first in
    let rows = subst (λ x. RowsBefore x rs end) (sym same.1) whole in
    end_same next before rest rs end (n + 1) lines all t table last cut say puts rows told after (omega (arith, long))
end_same bs (b ∷ before) rest (r ∷ rs) end n lines all t table last (next, some, head, cut) (inl (silent, say)) puts (left, full, first, whole) (inr (line, ys, says, is, told)) after long =
    let same = row_same bs b r next left head first in
    absurd (silent_speaks b line.statement line.figures silent (subst (λ x. RowSays x line) (sym same.0) says))
end_same bs (b ∷ before) rest (r ∷ rs) end n lines all t table last (next, some, head, cut) (inr (line, xs, says, is, say)) puts (left, full, first, whole) (inl (quiet, told)) after long =
    let same = row_same bs b r next left head first in
    absurd (silent_speaks b line.statement line.figures (subst Silent (sym same.0) quiet) says)
end_same bs (b ∷ before) rest (r ∷ rs) end n lines all t table last (next, some, head, cut) (inr (line, xs, says, is, say)) puts (left, full, first, whole) (inr (other, ys, tells, are, told)) after long =
    let same = row_same bs b r next left head first in
    let rows = subst (λ x. RowsBefore x rs end) (sym same.1) whole in
    let j = first_of_two (after_line t line) (λ u. after_lines u xs) table (ap (λ l. after_lines t l) (sym is) ∙ puts) in
    let k = first_of_two (after_line t other) (λ u. after_lines u ys) last (ap (λ l. after_lines t l) (sym are) ∙ after) in
    let one = step_same b t j.0 k.0 line other says (subst (λ x. RowSays x other) (sym same.0) tells) j.1 k.1 in
    end_same next before rest rs end (n + 1) xs ys j.0 table last cut say j.2 rows told (subst (λ u. after_lines u ys ≡ Some last) (sym one) k.2) (omega (arith, long))

one_fault : (text : List ℕ) (line other : ℕ) (what reason : Malformed) → FirstFault text line what → FirstFault text other reason → what ≡ reason
one_fault text line other what reason f g =
    let at = one_line text line other what reason f g in
    let same = end_same text f.before f.rest g.before g.rest 1 f.lines g.lines empty_table f.table g.table f.cut f.say f.puts g.cut g.say g.puts (omega (arith, at, f.number, g.number)) in
    let row = row_same f.rest f.row g.row f.more g.more f.here (subst (λ b. Row b g.row g.more) (sym same.0) g.here) in
    fault_one f.row f.table what reason f.fault (subst (λ u. Fault f.row u reason) (sym same.1) (subst (λ r. Fault r g.table reason) (sym row.0) g.fault))

pub fault_law : FaultLaw
fault_law text line what f = (
  λ book says. no_book text line what book f says,
  λ other reason g. (one_line text line other what reason f g, one_fault text line other what reason f g),
)
