-- A row at fault has one fault.
use Rattle.std.proofs.Common.{◌≡◌, ◌≢◌, ℕ, ◌+◌, ◌<◌, ◌≤◌, true, ◌⊎◌, inl, inr, List, [], ◌∷◌, ◌++◌, length, replicate, get_or, set, ℤ, is_some, Some, None, Option, sym, refl, ap, ◌∙◌, subst, ⊎_elim, arith, length-append}
use Rattle.std.proofs.lemmas.Bool.{true≢false, cases_lt}
use Rattle.std.specs.List.{slice_index}
use Rattle.bookfile.specs.declared.malformed.Malformed.{Malformed}
use Rattle.bookfile.specs.declared.malformed.Malformed.TheVariants.{Keyword, Word, Name, Missing, Repeated, Number, NinthBracket}
use Rattle.bookfile.specs.declared.slots.Span.{Span}
use Rattle.bookfile.specs.declared.statement.Statement.{Statement}
use Rattle.bookfile.specs.declared.statement.Statement.TheVariants.{Bracket}
use Rattle.bookfile.specs.declared.table.Table.{Table}
use Rattle.bookfile.specs.Faults.{field, figure_fault, Opens, Cut, Spells, WordFault, BadWord, BadFigure, Misread, SlotTaken, Fault}
use Rattle.bookfile.specs.Grammar.{keyword_of, names_of, First, Gives, Filled}
use Rattle.bookfile.specs.Slots.{placed_all}
use Rattle.bookfile.specs.Tables.{span_of}
use Rattle.bookfile.proofs.Apart.{keyword_same, name_clear, spelt_same, gives_same, seam, word_apart, speaks_same, no_keyword, word_speaks, misread_speaks, no_bracket, none_some}
use Rattle.bookfile.proofs.Cutting.{first_same, before_same, equals_same}
use Rattle.bookfile.proofs.Placing.{placed_more, placed_none}

abbrev NoEquals : List ℕ → Type 0
NoEquals w = (i : ℕ) → i < length w → slice_index w i ≢ 61

abbrev Unknown : Statement → List ℕ → Type 0
Unknown s w = (name : List ℕ) × (numeral : List ℕ) × Cut w name numeral × ((i : ℕ) → i < length (names_of s) → get_or (names_of s) i [] ≢ name)

-- the four ways in which a word is at fault
abbrev Ways : Statement → List (Option ℤ) → List ℕ → Malformed → Type 0
Ways s given w what =
    ((what ≡ Word) × NoEquals w) ⊎
    (((what ≡ Name s) × Unknown s w) ⊎
    (((j : ℕ) × (m : List ℕ) × (what ≡ Repeated (field s j)) × Spells s w j m × (is_some (get_or given j None) ≡ true)) ⊎
    ((j : ℕ) × (m : List ℕ) × (what ≡ Number (field s j)) × Spells s w j m × (get_or given j None ≡ None))))

ways : (s : Statement) (given : List (Option ℤ)) (w : List ℕ) (what : Malformed) → WordFault s given w what → Ways s given w what
ways s given w Word fault = inl (refl, fault)
ways s given w (Name t) (same, name, numeral, cut, new) = inr (inl (ap Name same, (name, numeral, cut, new)))
ways s given w (Repeated f) (j, m, is, spells, taken) = inr (inr (inl (j, m, ap Repeated is, spells, taken)))
ways s given w (Number f) (j, m, is, spells, unset, rough) = inr (inr (inr (j, m, ap Number is, spells, unset)))
ways s given w Keyword fault = absurd fault
ways s given w (Missing f) fault = absurd fault
ways s given w NinthBracket fault = absurd fault

has_equals : (w n m : List ℕ) → NoEquals w → w ≡ n ++ (61 ∷ m) → ⊥
has_equals w n m none e = none (length n) (omega (arith, ap length e, length-append n (61 ∷ m))) (ap (λ l. slice_index l (length n)) e ∙ seam n m 61)

known : (s : Statement) (w : List ℕ) (j : ℕ) (m : List ℕ) → Unknown s w → Spells s w j m → ⊥
known s w j m (name, numeral, cut, none) spells =
    none j spells.place (sym (equals_same name (get_or (names_of s) j []) numeral m cut.first (name_clear s j spells.place) (sym cut.cut ∙ spells.cut)).0)

taken_unset : (given : List (Option ℤ)) (i j : ℕ) → i ≡ j → is_some (get_or given i None) ≡ true → get_or given j None ≡ None → ⊥
taken_unset given i j e taken unset = true≢false (sym taken ∙ ap (λ n. is_some (get_or given n None)) e ∙ ap is_some unset)

one_way : (s : Statement) (given : List (Option ℤ)) (w : List ℕ) (what reason : Malformed) → Ways s given w what → Ways s given w reason → what ≡ reason
one_way s given w what reason (inl (e, none)) (inl (h, also)) = e ∙ sym h
one_way s given w what reason (inl (e, none)) (inr (inl (h, (name, numeral, cut, new)))) = absurd (has_equals w name numeral none cut.cut)
one_way s given w what reason (inl (e, none)) (inr (inr (inl (j, m, h, spells, taken)))) = absurd (has_equals w (get_or (names_of s) j []) m none spells.cut)
one_way s given w what reason (inl (e, none)) (inr (inr (inr (j, m, h, spells, unset)))) = absurd (has_equals w (get_or (names_of s) j []) m none spells.cut)
one_way s given w what reason (inr (inl (h, (name, numeral, cut, new)))) (inl (e, none)) = absurd (has_equals w name numeral none cut.cut)
one_way s given w what reason (inr (inr (inl (j, m, h, spells, taken)))) (inl (e, none)) = absurd (has_equals w (get_or (names_of s) j []) m none spells.cut)
one_way s given w what reason (inr (inr (inr (j, m, h, spells, unset)))) (inl (e, none)) = absurd (has_equals w (get_or (names_of s) j []) m none spells.cut)
one_way s given w what reason (inr (inl (e, unknown))) (inr (inl (h, also))) = e ∙ sym h
one_way s given w what reason (inr (inl (e, unknown))) (inr (inr (inl (j, m, h, spells, taken)))) = absurd (known s w j m unknown spells)
one_way s given w what reason (inr (inl (e, unknown))) (inr (inr (inr (j, m, h, spells, unset)))) = absurd (known s w j m unknown spells)
one_way s given w what reason (inr (inr (inl (j, m, h, spells, taken)))) (inr (inl (e, unknown))) = absurd (known s w j m unknown spells)
one_way s given w what reason (inr (inr (inr (j, m, h, spells, unset)))) (inr (inl (e, unknown))) = absurd (known s w j m unknown spells)
one_way s given w what reason (inr (inr (inl (i, m, e, spells, taken)))) (inr (inr (inl (j, n, h, writes, full)))) = e ∙ ap (λ k. Repeated (field s k)) (spelt_same s w i j m n spells writes) ∙ sym h
one_way s given w what reason (inr (inr (inl (i, m, e, spells, taken)))) (inr (inr (inr (j, n, h, writes, unset)))) = absurd (taken_unset given i j (spelt_same s w i j m n spells writes) taken unset)
one_way s given w what reason (inr (inr (inr (j, n, h, writes, unset)))) (inr (inr (inl (i, m, e, spells, taken)))) = absurd (taken_unset given i j (spelt_same s w i j m n spells writes) taken unset)
one_way s given w what reason (inr (inr (inr (i, m, e, spells, unset)))) (inr (inr (inr (j, n, h, writes, also)))) = e ∙ ap (λ k. Number (field s k)) (spelt_same s w i j m n spells writes) ∙ sym h

word_one : (s : Statement) (given : List (Option ℤ)) (w : List ℕ) (what reason : Malformed) → WordFault s given w what → WordFault s given w reason → what ≡ reason
word_one s given w what reason a b = one_way s given w what reason (ways s given w what a) (ways s given w reason b)

-- the first word at fault is one
words_one : (s : Statement) (bs : List ℕ) (vs us : List (List ℕ)) (rest left : List ℕ) (b given gave : List (Option ℤ)) (w v more next : List ℕ) (what reason : Malformed) → Opens bs vs rest → Filled s vs b given → First rest w more → WordFault s given w what → Opens bs us left → Filled s us b gave → First left v next → WordFault s gave v reason → what ≡ reason
words_one s bs [] [] rest left b given gave w v more next what reason opens filled first fault also fills head bad =
    let same = first_same bs w v more next (subst (λ x. First x w more) opens first) (subst (λ x. First x v next) also head) in
    word_one s b w what reason (subst (λ l. WordFault s l w what) filled fault) (subst (λ x. WordFault s b x reason) (sym same.0) (subst (λ l. WordFault s l v reason) fills bad))
words_one s bs [] (u ∷ us) rest left b given gave w v more next what reason opens filled first fault (after, f, also) (i, z, gives, free, fills) head bad =
    let same = first_same bs u w after more f (subst (λ x. First x w more) opens first) in
    absurd (word_apart s b w what i z (subst (λ l. WordFault s l w what) filled fault) (subst (λ x. Gives s x i z) same.0 gives) free)
words_one s bs (u ∷ us) [] rest left b given gave w v more next what reason (after, f, opens) (i, z, gives, free, filled) first fault also fills head bad =
    let same = first_same bs u v after next f (subst (λ x. First x v next) also head) in
    absurd (word_apart s b v reason i z (subst (λ l. WordFault s l v reason) fills bad) (subst (λ x. Gives s x i z) same.0 gives) free)
words_one s bs (x ∷ vs) (y ∷ us) rest left b given gave w v more next what reason (after, f, opens) (i, z, gives, free, filled) first fault (past, g, also) (j, q, grants, unset, fills) head bad =
    let same = first_same bs y x past after g f in
    let figure = gives_same s x j i q z (subst (λ l. Gives s l j q) same.0 grants) gives in
    words_one s after vs us rest left (set b i (Some z)) given gave w v more next what reason opens filled first fault (subst (λ l. Opens l us left) same.1 also) (subst (λ l. Filled s us l gave) (λ k. set b (figure.0 k) (Some (figure.1 k))) fills) head bad

bad_word_one : (s : Statement) (bs : List ℕ) (what reason : Malformed) → BadWord s bs what → BadWord s bs reason → what ≡ reason
bad_word_one s bs what reason a b = words_one s bs a.before b.before a.rest b.rest (replicate 46 None) a.given b.given a.word b.word a.more b.more what reason a.opens a.filled a.next a.fault b.opens b.filled b.next b.fault

figure_order : (s : Statement) (zs : List (Option ℤ)) (what reason : Malformed) (a : BadFigure s zs what) (b : BadFigure s zs reason) → a.place < b.place → ⊥
figure_order s zs what reason a b less = true≢false (sym (b.before a.place less) ∙ a.here)

figures_one : (s : Statement) (zs : List (Option ℤ)) (what reason : Malformed) → BadFigure s zs what → BadFigure s zs reason → what ≡ reason
figures_one s zs what reason a b =
    ⊎_elim
    (λ less. absurd (figure_order s zs what reason a b less))
    (λ le. ⊎_elim
    (λ less. absurd (figure_order s zs reason what b a less))
    (λ ge. let e : a.place ≡ b.place = omega arith in a.is ∙ ap (λ n. figure_fault (field s n) (get_or zs n None)) e ∙ sym b.is)
    (cases_lt b.place a.place))
    (cases_lt a.place b.place)

taken_order : (s : Statement) (zs slots : List (Option ℤ)) (at first count : ℕ) (what reason : Malformed) (a : SlotTaken s zs slots at first count what) (b : SlotTaken s zs slots at first count reason) → a.n < b.n → ⊥
taken_order s zs slots at first count what reason a b less =
    none_some (placed_all slots at zs first b.n) b.held (placed_none slots at zs first (a.n + 1) b.n (omega arith) (placed_more slots at zs first a.n a.held None a.before a.here)) b.before

taken_one : (s : Statement) (zs slots : List (Option ℤ)) (at first count : ℕ) (what reason : Malformed) → SlotTaken s zs slots at first count what → SlotTaken s zs slots at first count reason → what ≡ reason
taken_one s zs slots at first count what reason a b =
    ⊎_elim
    (λ less. absurd (taken_order s zs slots at first count what reason a b less))
    (λ le. ⊎_elim
    (λ less. absurd (taken_order s zs slots at first count reason what b a less))
    (λ ge. let e : a.n ≡ b.n = omega arith in a.is ∙ ap (λ n. Repeated (field s (first + n))) e ∙ sym b.is)
    (cases_lt b.n a.n))
    (cases_lt a.n b.n)

-- `Untaken`, of a line's statement and figures
abbrev Refused : Statement → List (Option ℤ) → Table → Malformed → Type 0
Refused s zs t what =
    ((s ≡ Bracket) × (8 ≤ t.brackets) × (what ≡ NinthBracket)) ⊎
    ((p : Span) × (span_of s zs t.brackets ≡ Some p) × SlotTaken s zs t.slots p.slot p.first p.count what)

full_span : (s : Statement) (zs : List (Option ℤ)) (k : ℕ) (p : Span) → s ≡ Bracket → 8 ≤ k → span_of s zs k ≡ Some p → ⊥
full_span s zs k p is full span = none_some (span_of s zs k) p (ap (λ u. span_of u zs k) is ∙ no_bracket k full) span

refused_one : (s : Statement) (zs : List (Option ℤ)) (t : Table) (what reason : Malformed) → Refused s zs t what → Refused s zs t reason → what ≡ reason
refused_one s zs t what reason (inl (is, full, e)) (inl (also, more, h)) = e ∙ sym h
refused_one s zs t what reason (inl (is, full, e)) (inr (p, span, taken)) = absurd (full_span s zs t.brackets p is full span)
refused_one s zs t what reason (inr (p, span, taken)) (inl (is, full, e)) = absurd (full_span s zs t.brackets p is full span)
refused_one s zs t what reason (inr (p, span, taken)) (inr (q, also, full)) =
    let same : p ≡ q = let e : Some p ≡ Some q = sym span ∙ also in cc in
    taken_one s zs t.slots p.slot p.first p.count what reason taken (subst (λ o. SlotTaken s zs t.slots o.slot o.first o.count reason) (sym same) full)

misread_one : (row : List ℕ) (what reason : Malformed) → Misread row what → Misread row reason → what ≡ reason
misread_one row what reason (inl n) (inl m) = n.is ∙ sym m.is
misread_one row what reason (inl n) (inr (s, inl (text, rest, before, first, bad))) = absurd (no_keyword row text rest s what n before first)
misread_one row what reason (inl n) (inr (s, inr (zs, (text, ws, before, (rest, first, words), filled), bad))) = absurd (no_keyword row text rest s what n before first)
misread_one row what reason (inr (s, inl (text, rest, before, first, bad))) (inl n) = absurd (no_keyword row text rest s reason n before first)
misread_one row what reason (inr (s, inr (zs, (text, ws, before, (rest, first, words), filled), bad))) (inl n) = absurd (no_keyword row text rest s reason n before first)
misread_one row what reason (inr (s, inl (text, rest, before, first, bad))) (inr (t, inl (other, left, back, head, wrong))) =
    let same = before_same row text other before back in
    let k = first_same text (keyword_of s) (keyword_of t) rest left first (subst (λ b. First b (keyword_of t) left) (sym same) head) in
    bad_word_one s rest what reason bad (subst (λ u. BadWord u rest reason) (sym (keyword_same s t k.0)) (subst (λ b. BadWord t b reason) (sym k.1) wrong))
misread_one row what reason (inr (s, inl (text, rest, before, first, bad))) (inr (t, inr (zs, says, wrong))) = absurd (word_speaks row text rest s t zs what before first bad says)
misread_one row what reason (inr (t, inr (zs, says, wrong))) (inr (s, inl (text, rest, before, first, bad))) = absurd (word_speaks row text rest s t zs reason before first bad says)
misread_one row what reason (inr (s, inr (zs, says, bad))) (inr (t, inr (ys, tells, wrong))) =
    let same = speaks_same row s t zs ys says tells in
    figures_one s zs what reason bad (subst (λ l. BadFigure s l reason) (sym same.1) (subst (λ u. BadFigure u ys reason) (sym same.0) wrong))

pub fault_one : (row : List ℕ) (t : Table) (what reason : Malformed) → Fault row t what → Fault row t reason → what ≡ reason
fault_one row t what reason (inl a) (inl b) = misread_one row what reason a b
fault_one row t what reason (inl a) (inr (line, says, bad)) = absurd (misread_speaks row what line.statement line.figures a says line.good)
fault_one row t what reason (inr (line, says, bad)) (inl b) = absurd (misread_speaks row reason line.statement line.figures b says line.good)
fault_one row t what reason (inr (line, says, bad)) (inr (other, tells, wrong)) =
    let same = speaks_same row line.statement other.statement line.figures other.figures says tells in
    refused_one line.statement line.figures t what reason bad (subst (λ l. Refused line.statement l t reason) (sym same.1) (subst (λ u. Refused u other.figures t reason) (sym same.0) wrong))
