-- A row at fault is none that the table takes.
use Rattle.std.proofs.Common.{◌≡◌, ◌≢◌, ℕ, zero, suc, ◌+◌, ◌<◌, ◌≤◌, Bool, true, false, not, ◌&&◌, inl, inr, List, [], ◌∷◌, ◌++◌, length, replicate, get_or, set, bytes_eq, ℤ, cond, ◌==◌, is_some, Some, None, Option, sym, refl, ap, ◌∙◌, subst, arith, length-append}
use Rattle.std.proofs.lemmas.Bool.{true≢false}
use Rattle.std.proofs.lemmas.Bool.Decides.{nat_tests}
use Rattle.std.proofs.lemmas.Slice.Eq.{bytes_eq-Decides}
use Rattle.std.specs.List.{slice_index}
use Rattle.std.specs.Str.Parse.{signed_digits_value}
use Rattle.bookfile.specs.declared.line.Line.{Line}
use Rattle.bookfile.specs.declared.malformed.Malformed.{Malformed}
use Rattle.bookfile.specs.declared.malformed.Malformed.TheVariants.{Keyword, Word, Name, Missing, Repeated, Number, NinthBracket}
use Rattle.bookfile.specs.declared.statement.Statement.{Statement}
use Rattle.bookfile.specs.declared.statement.Statement.TheVariants.{Tariff, Distribution, Metering, Bracket, Coefficient, Life, Management, Opening, Journal, Register, File, Enrol, Bill, Draw, Cancel, Send, Confirm, Bounce, Close, Reopen, Cost, Component, Served, Revenue, Balance, Account}
use Rattle.bookfile.specs.declared.table.Table.{Table}
use Rattle.bookfile.specs.Faults.{NoKeyword, Spells, WordFault, BadWord, Misread, Untaken, Fault}
use Rattle.bookfile.specs.Files.{after_line, Step}
use Rattle.bookfile.specs.Grammar.{Before, keyword_of, names_of, Plain, First, Words, Gives, Filled, Silent, Speaks}
use Rattle.bookfile.specs.Slots.{and_then, placed_all}
use Rattle.bookfile.specs.Syntax.{allowed, Good}
use Rattle.bookfile.specs.Tables.{next_bracket, span_of, table_after}
use Rattle.bookfile.proofs.Placing.{placed_more, placed_none}
use Rattle.bookfile.proofs.Cutting.{first_same, first_some, next_word, words_same, before_same, equals_same}

-- the statements in an order
statements : List Statement
statements = Tariff ∷ Distribution ∷ Metering ∷ Bracket ∷ Coefficient ∷ Life ∷ Management ∷ Opening ∷ Journal ∷ Register ∷ File ∷ Enrol ∷ Bill ∷ Draw ∷ Cancel ∷ Send ∷ Confirm ∷ Bounce ∷ Close ∷ Reopen ∷ Cost ∷ Component ∷ Served ∷ Revenue ∷ Balance ∷ Account ∷ []

-- a word is the keyword of one statement
keyword_at : List ℕ → List Statement → Option Statement
keyword_at word [] = None
keyword_at word (s ∷ ss) = cond (bytes_eq word (keyword_of s)) (Some s) (keyword_at word ss)

found : (s : Statement) → keyword_at (keyword_of s) statements ≡ Some s
unfolding keyword_at statements
found Tariff = refl
found Distribution = refl
found Metering = refl
found Bracket = refl
found Coefficient = refl
found Life = refl
found Management = refl
found Opening = refl
found Journal = refl
found Register = refl
found File = refl
found Enrol = refl
found Bill = refl
found Draw = refl
found Cancel = refl
found Send = refl
found Confirm = refl
found Bounce = refl
found Close = refl
found Reopen = refl
found Cost = refl
found Component = refl
found Served = refl
found Revenue = refl
found Balance = refl
found Account = refl

pub keyword_same : (s t : Statement) → keyword_of s ≡ keyword_of t → s ≡ t
keyword_same s t e = let same : Some s ≡ Some t = sym (found s) ∙ ap (λ w. keyword_at w statements) e ∙ found t in cc

-- the names of a statement have no equals sign, and differ
clear : List ℕ → Bool
clear [] = true
clear (b ∷ bs) = not (b == 61) && clear bs

all_clear : List (List ℕ) → Bool
all_clear [] = true
all_clear (n ∷ ns) = clear n && all_clear ns

absent : List ℕ → List (List ℕ) → Bool
absent n [] = true
absent n (m ∷ ms) = not (bytes_eq n m) && absent n ms

differ : List (List ℕ) → Bool
differ [] = true
differ (n ∷ ns) = absent n ns && differ ns

names_clear : (s : Statement) → all_clear (names_of s) ≡ true
unfolding clear all_clear
names_clear Tariff = refl
names_clear Distribution = refl
names_clear Metering = refl
names_clear Bracket = refl
names_clear Coefficient = refl
names_clear Life = refl
names_clear Management = refl
names_clear Opening = refl
names_clear Journal = refl
names_clear Register = refl
names_clear File = refl
names_clear Enrol = refl
names_clear Bill = refl
names_clear Draw = refl
names_clear Cancel = refl
names_clear Send = refl
names_clear Confirm = refl
names_clear Bounce = refl
names_clear Close = refl
names_clear Reopen = refl
names_clear Cost = refl
names_clear Component = refl
names_clear Served = refl
names_clear Revenue = refl
names_clear Balance = refl
names_clear Account = refl

names_differ : (s : Statement) → differ (names_of s) ≡ true
unfolding absent differ
names_differ Tariff = refl
names_differ Distribution = refl
names_differ Metering = refl
names_differ Bracket = refl
names_differ Coefficient = refl
names_differ Life = refl
names_differ Management = refl
names_differ Opening = refl
names_differ Journal = refl
names_differ Register = refl
names_differ File = refl
names_differ Enrol = refl
names_differ Bill = refl
names_differ Draw = refl
names_differ Cancel = refl
names_differ Send = refl
names_differ Confirm = refl
names_differ Bounce = refl
names_differ Close = refl
names_differ Reopen = refl
names_differ Cost = refl
names_differ Component = refl
names_differ Served = refl
names_differ Revenue = refl
names_differ Balance = refl
names_differ Account = refl

clear_at : (n : List ℕ) → clear n ≡ true → (i : ℕ) → i < length n → slice_index n i ≢ 61
unfolding clear
clear_at [] h i low e = absurd (omega arith)
clear_at (b ∷ bs) h zero low e = grind (arith, nat_tests)
clear_at (b ∷ bs) h (suc i) low e = let rest : clear bs ≡ true = grind (arith, nat_tests) in clear_at bs rest i (omega arith) e

all_clear_at : (ns : List (List ℕ)) → all_clear ns ≡ true → (k : ℕ) → k < length ns → clear (get_or ns k []) ≡ true
unfolding all_clear
all_clear_at [] h k low = absurd (omega arith)
all_clear_at (n ∷ ns) h zero low = grind (arith, nat_tests)
all_clear_at (n ∷ ns) h (suc k) low = let rest : all_clear ns ≡ true = grind (arith, nat_tests) in all_clear_at ns rest k (omega arith)

absent_at : (n : List ℕ) (ms : List (List ℕ)) → absent n ms ≡ true → (k : ℕ) → k < length ms → n ≡ get_or ms k [] → ⊥
unfolding absent
absent_at n [] h k low e = absurd (omega arith)
absent_at n (m ∷ ms) h zero low e =
    let same = (bytes_eq-Decides n m).1 e in
    let not_same : bytes_eq n m ≡ false = grind (arith, nat_tests) in
    true≢false (sym same ∙ not_same)
absent_at n (m ∷ ms) h (suc k) low e = let rest : absent n ms ≡ true = grind (arith, nat_tests) in absent_at n ms rest k (omega arith) e

differ_at : (ns : List (List ℕ)) → differ ns ≡ true → (i j : ℕ) → i < length ns → j < length ns → get_or ns i [] ≡ get_or ns j [] → i ≡ j
unfolding differ
differ_at [] h i j a b e = absurd (omega arith)
differ_at (n ∷ ns) h zero zero a b e = refl
differ_at (n ∷ ns) h zero (suc j) a b e = let gone : absent n ns ≡ true = grind (arith, nat_tests) in absurd (absent_at n ns gone j (omega arith) e)
differ_at (n ∷ ns) h (suc i) zero a b e = let gone : absent n ns ≡ true = grind (arith, nat_tests) in absurd (absent_at n ns gone i (omega arith) (sym e))
differ_at (n ∷ ns) h (suc i) (suc j) a b e = let rest : differ ns ≡ true = grind (arith, nat_tests) in ap suc (differ_at ns rest i j (omega arith) (omega arith) e)

pub name_clear : (s : Statement) (i : ℕ) → i < length (names_of s) → (k : ℕ) → k < length (get_or (names_of s) i []) → slice_index (get_or (names_of s) i []) k ≢ 61
name_clear s i low = clear_at (get_or (names_of s) i []) (all_clear_at (names_of s) (names_clear s) i low)

-- a word names one figure, and gives one
pub spelt_same : (s : Statement) (w : List ℕ) (i j : ℕ) (m n : List ℕ) → Spells s w i m → Spells s w j n → i ≡ j
spelt_same s w i j m n a b =
    differ_at (names_of s) (names_differ s) i j a.place b.place (equals_same (get_or (names_of s) i []) (get_or (names_of s) j []) m n (name_clear s i a.place) (name_clear s j b.place) (sym a.cut ∙ b.cut)).0

pub gives_same : (s : Statement) (w : List ℕ) (i j : ℕ) (z y : ℤ) → Gives s w i z → Gives s w j y → (i ≡ j) × (z ≡ y)
gives_same s w i j z y g h =
    let k = equals_same (get_or (names_of s) i []) (get_or (names_of s) j []) g.numeral h.numeral (name_clear s i g.place) (name_clear s j h.place) (sym g.cut ∙ h.cut) in
    (differ_at (names_of s) (names_differ s) i j g.place h.place k.0, g.value ∙ ap (λ n. signed_digits_value 10 n) k.1 ∙ sym h.value)

spells_same : (s : Statement) (w numeral : List ℕ) (i j : ℕ) (z : ℤ) → Spells s w j numeral → (g : Gives s w i z) → (j ≡ i) × (numeral ≡ g.numeral)
spells_same s w numeral i j z spells g =
    let k = equals_same (get_or (names_of s) j []) (get_or (names_of s) i []) numeral g.numeral (name_clear s j spells.place) (name_clear s i g.place) (sym spells.cut ∙ g.cut) in
    (differ_at (names_of s) (names_differ s) j i spells.place g.place k.0, k.1)

pub seam : (xs ys : List ℕ) (c : ℕ) → slice_index (xs ++ (c ∷ ys)) (length xs) ≡ c
seam [] ys c = refl
seam (x ∷ xs) ys c = seam xs ys c

-- a word that gives a figure which is not given before is not at fault
pub word_apart : (s : Statement) (given : List (Option ℤ)) (w : List ℕ) (what : Malformed) (i : ℕ) (z : ℤ) → WordFault s given w what → Gives s w i z → get_or given i None ≡ None → ⊥
word_apart s given w Word i z fault g free =
    let name = get_or (names_of s) i [] in
    fault (length name) (omega (arith, ap length g.cut, length-append name (61 ∷ g.numeral))) (ap (λ l. slice_index l (length name)) g.cut ∙ seam name g.numeral 61)
word_apart s given w (Name t) i z (same, name, numeral, cut, none) g free =
    let k = equals_same name (get_or (names_of s) i []) numeral g.numeral cut.first (name_clear s i g.place) (sym cut.cut ∙ g.cut) in
    none i g.place (sym k.0)
word_apart s given w (Repeated f) i z (j, numeral, is, spells, taken) g free =
    let k = spells_same s w numeral i j z spells g in
    true≢false (sym taken ∙ ap (λ n. is_some (get_or given n None)) k.0 ∙ ap is_some free)
word_apart s given w (Number f) i z (j, numeral, is, spells, unset, rough) g free = rough (subst Plain (sym (spells_same s w numeral i j z spells g).1) g.plain)
word_apart s given w Keyword i z fault g free = fault
word_apart s given w (Missing f) i z fault g free = fault
word_apart s given w NinthBracket i z fault g free = fault

filled_next : (s : Statement) (vs : List (List ℕ)) (w : List ℕ) (ws : List (List ℕ)) (before given all : List (Option ℤ)) → Filled s (vs ++ w ∷ ws) before all → Filled s vs before given → (i : ℕ) × (z : ℤ) × Gives s w i z × (get_or given i None ≡ None)
filled_next s [] w ws before given all (i, z, gives, free, filled) e = (i, z, gives, ap (λ l. get_or l i None) e ∙ free)
filled_next s (v ∷ vs) w ws before given all (i, z, gives, free, filled) (j, y, gave, unset, rest) =
    let same = gives_same s v j i y z gave gives in
    filled_next s vs w ws (set before i (Some z)) given all filled (subst (λ l. Filled s vs l given) (λ k. set before (same.0 k) (Some (same.1 k))) rest)

filled_same : (s : Statement) (ws : List (List ℕ)) (before all other : List (Option ℤ)) → Filled s ws before all → Filled s ws before other → all ≡ other
filled_same s [] before all other e h = e ∙ sym h
filled_same s (w ∷ ws) before all other (i, z, gives, free, filled) (j, y, gave, unset, rest) =
    let same = gives_same s w j i y z gave gives in
    filled_same s ws (set before i (Some z)) all other filled (subst (λ l. Filled s ws l other) (λ k. set before (same.0 k) (Some (same.1 k))) rest)

bad_word : (s : Statement) (bs : List ℕ) (what : Malformed) (ws : List (List ℕ)) (zs : List (Option ℤ)) → BadWord s bs what → Words bs ws → Filled s ws (replicate 46 None) zs → ⊥
bad_word s bs what ws zs bad words filled =
    let k = next_word bs bad.before bad.rest bad.word bad.more ws bad.opens bad.next words in
    let n = filled_next s bad.before bad.word k.0 (replicate 46 None) bad.given zs (subst (λ l. Filled s l (replicate 46 None) zs) k.1 filled) bad.filled in
    word_apart s bad.given bad.word what n.0 n.1 bad.fault n.2 n.3

-- a row says one line
pub speaks_same : (row : List ℕ) (s t : Statement) (zs ys : List (Option ℤ)) → Speaks row s zs → Speaks row t ys → (s ≡ t) × (zs ≡ ys)
speaks_same row s t zs ys (text, ws, before, (rest, first, words), filled) (other, vs, back, (next, head, said), gave) =
    let same = before_same row text other before back in
    let k = first_same text (keyword_of s) (keyword_of t) rest next first (subst (λ b. First b (keyword_of t) next) (sym same) head) in
    let st = keyword_same s t k.0 in
    let ls = words_same rest ws vs words (subst (λ b. Words b vs) (sym k.1) said) in
    (st, filled_same s ws (replicate 46 None) zs ys filled (subst (λ l. Filled s l (replicate 46 None) ys) (sym ls) (subst (λ u. Filled u vs (replicate 46 None) ys) (sym st) gave)))

pub silent_speaks : (row : List ℕ) (s : Statement) (zs : List (Option ℤ)) → Silent row → Speaks row s zs → ⊥
silent_speaks row s zs (text, before, none) (other, ws, back, (rest, first, words), filled) =
    first_some other (keyword_of s) rest first (subst (λ b. Words b []) (before_same row text other before back) none)

-- a row that says a line begins with a keyword, and has no word at fault
pub no_keyword : (row text rest : List ℕ) (s : Statement) (what : Malformed) → NoKeyword row what → Before row text → First text (keyword_of s) rest → ⊥
no_keyword row text rest s what n before first =
    n.none s (first_same n.text n.word (keyword_of s) n.rest rest n.first (subst (λ b. First b (keyword_of s) rest) (before_same row text n.text before n.before) first)).0

pub word_speaks : (row text rest : List ℕ) (t s : Statement) (zs : List (Option ℤ)) (what : Malformed) → Before row text → First text (keyword_of t) rest → BadWord t rest what → Speaks row s zs → ⊥
word_speaks row text rest t s zs what before first bad (other, ws, back, (next, head, words), filled) =
    let same = before_same row text other before back in
    let k = first_same text (keyword_of t) (keyword_of s) rest next first (subst (λ b. First b (keyword_of s) next) (sym same) head) in
    bad_word t rest what ws zs bad (subst (λ b. Words b ws) (sym k.1) words) (subst (λ u. Filled u ws (replicate 46 None) zs) (sym (keyword_same t s k.0)) filled)

pub misread_speaks : (row : List ℕ) (what : Malformed) (s : Statement) (zs : List (Option ℤ)) → Misread row what → Speaks row s zs → Good s zs → ⊥
misread_speaks row what s zs (inl n) (text, ws, before, (rest, first, words), filled) good = no_keyword row text rest s what n before first
misread_speaks row what s zs (inr (t, inl (text, rest, before, first, bad))) speaks good = word_speaks row text rest t s zs what before first bad speaks
misread_speaks row what s zs (inr (t, inr (ys, says, bad))) speaks good =
    let same = speaks_same row t s ys zs says speaks in
    true≢false (sym (good bad.place bad.within) ∙ (λ k. allowed (sym same.0 k) bad.place (get_or (sym same.1 k) bad.place None)) ∙ bad.here)

misread_silent : (row : List ℕ) (what : Malformed) → Misread row what → Silent row → ⊥
misread_silent row what (inl n) (text, before, none) = first_some n.text n.word n.rest n.first (subst (λ b. Words b []) (before_same row text n.text before n.before) none)
misread_silent row what (inr (t, inl (other, rest, back, first, bad))) (text, before, none) = first_some other (keyword_of t) rest first (subst (λ b. Words b []) (before_same row text other before back) none)
misread_silent row what (inr (t, inr (zs, says, bad))) silent = silent_speaks row t zs silent says

pub no_bracket : (k : ℕ) → 8 ≤ k → next_bracket k ≡ None
no_bracket k full = grind (arith, nat_tests)

pub none_some : {X : Type 0} (o : Option X) (x : X) → o ≡ None → o ≡ Some x → ⊥
none_some o x e h = absurd (cc)

untaken : (line : Line) (t u : Table) (what : Malformed) → Untaken line t what → after_line t line ≡ Some u → ⊥
untaken line t u what (inl (is, full, told)) after =
    let none : span_of line.statement line.figures t.brackets ≡ None = ap (λ s. span_of s line.figures t.brackets) is ∙ no_bracket t.brackets full in
    none_some (after_line t line) u (ap (λ o. and_then o (λ p. and_then (placed_all t.slots p.slot line.figures p.first p.count) (λ slots. Some (record { slots = slots; brackets = p.brackets })))) none) after
untaken line t u what (inr (p, span, taken)) after =
    let next = placed_more t.slots p.slot line.figures p.first taken.n taken.held None taken.before taken.here in
    let none = placed_none t.slots p.slot line.figures p.first (taken.n + 1) p.count (omega (arith, taken.below)) next in
    none_some (after_line t line) u (ap (λ o. and_then o (λ q. and_then (placed_all t.slots q.slot line.figures q.first q.count) (λ slots. Some (record { slots = slots; brackets = q.brackets })))) span ∙ ap (λ o. and_then o (λ slots. Some (record { slots = slots; brackets = p.brackets }))) none) after

pub fault_apart : (row : List ℕ) (t u : Table) (what : Malformed) (o : Option Line) → Fault row t what → Step row t u o → ⊥
fault_apart row t u what None (inl misread) (silent, stays) = misread_silent row what misread silent
fault_apart row t u what (Some line) (inl misread) (says, after) = misread_speaks row what line.statement line.figures misread says line.good
fault_apart row t u what None (inr (line, says, bad)) (silent, stays) = silent_speaks row line.statement line.figures silent says
fault_apart row t u what (Some other) (inr (line, says, bad)) (told, after) =
    let same = speaks_same row line.statement other.statement line.figures other.figures says told in
    untaken line t u what bad ((λ k. table_after (same.0 k) (same.1 k) t) ∙ after)
