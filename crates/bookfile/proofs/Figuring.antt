-- Reading figures word by word: whatever the rest of the words gives, the whole gives.
use Rattle.std.proofs.Common.{◌≡◌, ◌≢◌, ℕ, ◌<◌, true, false, not, List, [], ◌∷◌, ◌++◌, map, length, replicate, get_or, set, bytes_eq, position, Bor, cond, nat_lt, ◌≤◌, ℤ, is_some, Some, None, Option, sym, refl, ap, ◌∙◌, subst, ⊎_elim, arith, SFits, to_z, of_z}
use mir.Syntax.{w128}
use Rattle.std.proofs.lemmas.Int.{to_z-of_z}
use Rattle.std.proofs.lemmas.List.{length-map, get_or-map, get_or-replicate, get_or-set_other, get_or_past}
use Rattle.std.proofs.lemmas.Bool.{cases_lt, true≢false}
use Rattle.std.proofs.lemmas.Bool.Decides.{nat_tests}
use Rattle.std.proofs.lemmas.List.Quantifiers.{position-Some}
use Rattle.std.proofs.lemmas.List.Sums.{fails_before_first}
use Rattle.std.specs.List.{position_or_len}
use Rattle.std.proofs.lemmas.Slice.Eq.{bytes_eq-Decides}
use Rattle.std.specs.Str.Parse.{signed_digits_value}
use Rattle.std.specs.Char.{is_whitespace, is_not_whitespace}
use Rattle.std.specs.Str.{NoCharPasses, EmptyOrStartsWithPassing}
use Rattle.bookfile.specs.declared.statement.Statement.{Statement}
use Rattle.bookfile.specs.declared.statement.Statement.TheVariants.{Tariff, Distribution, Metering, Bracket, Coefficient, Life, Management, Opening, Journal, Register, File, Enrol, Bill, Draw, Cancel, Send, Confirm, Bounce, Close, Reopen, Cost, Component, Served, Revenue, Balance, Account}
use Rattle.bookfile.specs.Faults.{Opens, Spells}
use Rattle.bookfile.specs.Grammar.{keyword_of, names_of, Plain, First, Words, Gives, Filled, NoneBeyond, Before, Speaks}
use Rattle.bookfile.specs.Syntax.{allowed, needed, Good}

pub not_given : (o : Option ℤ) → false ≡ is_some o → o ≡ None
not_given None e = refl
not_given (Some z) e = grind arith

-- what `split_whitespace` says of an item
pub first_of : (bs w rest : List ℕ) → (gap : List ℕ) × (bs ≡ gap ++ (w ++ rest)) × (0 < length w) × NoCharPasses is_not_whitespace gap × NoCharPasses is_whitespace w × ((more : List ℕ) × EmptyOrStartsWithPassing is_whitespace rest more) → First bs w rest
first_of bs w rest cut = record { gap = cut.0; cut = cut.1; some = cut.2; blank = cut.3; solid = cut.4; ends = cut.5 }

-- what `position` says of a name among the names
pub name_at : (names : List (Bor (List ℕ))) (name : List ℕ) (i : ℕ) → position (λ known. bytes_eq known.now name) names ≡ Some i → (i < length (map (λ n. n.now) names)) × (get_or (map (λ n. n.now) names) i [] ≡ name)
name_at [] name i e = absurd (cc)
name_at (n ∷ ns) name i e =
    let at = position-Some (λ known. bytes_eq known.now name) (n ∷ ns) i n e in
    (simp length-map at.0, get_or-map (λ m. m.now) (n ∷ ns) i n [] at.0 ∙ (bytes_eq-Decides _ _).0 at.1)

not_within : (n len : ℕ) → cond (nat_lt n len) (Some n) None ≡ None → len ≤ n
not_within n len none = grind (arith, nat_tests)

-- what it says of one that is not among them
pub no_name : (names : List (Bor (List ℕ))) (name : List ℕ) → position (λ known. bytes_eq known.now name) names ≡ None → (i : ℕ) → i < length (map (λ n. n.now) names) → get_or (map (λ n. n.now) names) i [] ≡ name → ⊥
no_name [] name none i h e = absurd (omega arith)
no_name (n ∷ ns) name none i h e =
    let known = λ (m : Bor (List ℕ)). bytes_eq m.now name in
    let inside : i < length (n ∷ ns) = simp length-map at h in
    let beyond = not_within (position_or_len known (n ∷ ns)) (length (n ∷ ns)) none in
    let fails = fails_before_first known (n ∷ ns) i n (omega arith) in
    let same = (bytes_eq-Decides _ _).1 (sym (get_or-map (λ m. m.now) (n ∷ ns) i n [] inside) ∙ e) in
    true≢false (sym same ∙ fails)

-- a word that is cut at its equals sign, with a name that is known
pub spells : (s : Statement) (w name text : List ℕ) (names : List (List ℕ)) (i : ℕ) → names ≡ names_of s → w ≡ name ++ (61 ∷ text) → (i < length names) × (get_or names i [] ≡ name) → Spells s w i text
spells s w name text names i known cut at =
    record {
      place = subst (λ ns. i < length ns) known at.0;
      cut = cut ∙ ap (λ m. m ++ (61 ∷ text)) (sym at.1 ∙ ap (λ ns. get_or ns i []) known);
    }

-- a word that is cut at its equals sign, with a name that is known and a plain number
pub gives : (s : Statement) (w name text : List ℕ) (names : List (List ℕ)) (i : ℕ) (n : ℤ) → names ≡ names_of s → w ≡ name ++ (61 ∷ text) → (i < length names) × (get_or names i [] ≡ name) → Plain text × (n ≡ signed_digits_value 10 text) → Gives s w i (to_z w128 (of_z w128 n))
gives s w name text names i n known cut at (plain, value) =
    record {
      numeral = text;
      place = subst (λ ns. i < length ns) known at.0;
      cut = cut ∙ ap (λ m. m ++ (61 ∷ text)) (sym at.1 ∙ ap (λ ns. get_or ns i []) known);
      plain = plain;
      value = let fits : SFits w128 n = subst (SFits w128) (sym value) plain.2 in to_z-of_z w128 n fits ∙ value;
    }

-- a number as it is stored
pub stored : {s : Statement} {w : List ℕ} {i : ℕ} (n : ℤ) → Gives s w i n → Gives s w i (to_z w128 (of_z w128 n))
stored n g =
    record {
      numeral = g.numeral;
      place = g.place;
      cut = g.cut;
      plain = g.plain;
      value = let fits : SFits w128 n = subst (SFits w128) (sym g.value) g.plain.2 in to_z-of_z w128 n fits ∙ g.value;
    }

-- one word more of a text that begins with words
pub opens_more : (bs : List ℕ) (vs : List (List ℕ)) (rest w next : List ℕ) → Opens bs vs rest → First rest w next → Opens bs (vs ++ w ∷ []) next
opens_more bs [] rest w next e first = (next, subst (λ b. First b w next) e first, refl)
opens_more bs (v ∷ vs) rest w next (more, f, opens) first = (more, f, opens_more more vs rest w next opens first)

pub opens_all : (bs : List ℕ) (vs : List (List ℕ)) (rest : List ℕ) → Opens bs vs rest → Words rest [] → Words bs vs
opens_all bs [] rest e none = subst (λ b. Words b []) e none
opens_all bs (v ∷ vs) rest (more, f, opens) none = (more, f, opens_all more vs rest opens none)

pub filled_more : (s : Statement) (vs : List (List ℕ)) (before now : List (Option ℤ)) (w : List ℕ) (i : ℕ) (z : ℤ) → Filled s vs before now → Gives s w i z → get_or now i None ≡ None → Filled s (vs ++ w ∷ []) before (set now i (Some z))
filled_more s [] before now w i z e gives none = (i, z, gives, ap (λ l. get_or l i None) (sym e) ∙ none, ap (λ l. set l i (Some z)) e)
filled_more s (v ∷ vs) before now w i z (j, y, given, free, filled) gives none = (j, y, given, free, filled_more s vs (set before j (Some y)) now w i z filled gives none)

-- a row whose words are read
pub speaks : (row text w rest : List ℕ) (s : Statement) (zs : List (Option ℤ)) → Before row text → First text w rest → w ≡ keyword_of s → (ws : List (List ℕ)) × Words rest ws × Filled s ws (replicate 46 None) zs → Speaks row s zs
speaks row text w rest s zs before first is (ws, words, filled) = (text, ws, before, (rest, subst (λ v. First text v rest) is first, words), filled)

-- words of a text that are read, the figures that they give, and the rest
pub record ReadTo (s : Statement) (text rest : List ℕ) (before now : List (Option ℤ)) : Type 0 where
  pub words : List (List ℕ)
  pub opens : Opens text words rest
  pub filled : Filled s words before now

module _ {s : Statement} {text rest : List ℕ} {before now : List (Option ℤ)} (old : ReadTo s text rest before now) where
  pub read_more : (w next : List ℕ) (i : ℕ) (z : ℤ) → First rest w next → Gives s w i z → get_or now i None ≡ None → ReadTo s text next before (set now i (Some z))
  read_more w next i z first gives none =
      record {
        words = old.words ++ w ∷ [];
        opens = opens_more text old.words rest w next old.opens first;
        filled = filled_more s old.words before now w i z old.filled gives none;
      }

  pub read_all : Words rest [] → (vs : List (List ℕ)) × Words text vs × Filled s vs before now
  read_all none = (old.words, opens_all text old.words rest old.opens none, old.filled)

-- words give no figure past the names of their statement
pub none_beyond : (s : Statement) (ws : List (List ℕ)) (before all : List (Option ℤ)) → Filled s ws before all → NoneBeyond s before → NoneBeyond s all
none_beyond s [] before all e none = subst (NoneBeyond s) (sym e) none
none_beyond s (w ∷ ws) before all (j, z, gives, free, filled) none =
    let still : NoneBeyond s (set before j (Some z)) = λ k past. (let apart : k ≢ j = λ e. omega (arith, gives.place, past, e) in get_or-set_other before j k (Some z) None apart ∙ none k past) in
    none_beyond s ws (set before j (Some z)) all filled still

pub nothing_given : (s : Statement) → NoneBeyond s (replicate 46 None)
nothing_given s i h = ⊎_elim (λ in_list. get_or-replicate 46 i None None in_list) (λ past. get_or_past (replicate 46 None) i None past) (cases_lt i 46)

-- nor is one needed there
pub unneeded : (s : Statement) (i : ℕ) → length (names_of s) ≤ i → needed s i ≡ false
unneeded Tariff i h = refl
unneeded Distribution i h = grind (arith, nat_tests)
unneeded Metering i h = grind (arith, nat_tests)
unneeded Bracket i h = grind (arith, nat_tests)
unneeded Coefficient i h = grind (arith, nat_tests)
unneeded Life i h = grind (arith, nat_tests)
unneeded Management i h = refl
unneeded Opening i h = refl
unneeded Journal i h = grind (arith, nat_tests)
unneeded Register i h = grind (arith, nat_tests)
unneeded File i h = grind (arith, nat_tests)
unneeded Enrol i h = grind (arith, nat_tests)
unneeded Bill i h = grind (arith, nat_tests)
unneeded Draw i h = grind (arith, nat_tests)
unneeded Cancel i h = grind (arith, nat_tests)
unneeded Send i h = grind (arith, nat_tests)
unneeded Confirm i h = grind (arith, nat_tests)
unneeded Bounce i h = grind (arith, nat_tests)
unneeded Close i h = grind (arith, nat_tests)
unneeded Reopen i h = grind (arith, nat_tests)
unneeded Cost i h = grind (arith, nat_tests)
unneeded Component i h = grind (arith, nat_tests)
unneeded Served i h = grind (arith, nat_tests)
unneeded Revenue i h = grind (arith, nat_tests)
unneeded Balance i h = grind (arith, nat_tests)
unneeded Account i h = refl

-- so each figure may be so, where those with a name may
pub all_good : (s : Statement) (zs : List (Option ℤ)) → NoneBeyond s zs → ((i : ℕ) → i < length (names_of s) → allowed s i (get_or zs i None) ≡ true) → Good s zs
all_good s zs none named i h =
    ⊎_elim (λ low. named i low) (λ high. ap (allowed s i) (none i high) ∙ ap not (unneeded s i high)) (cases_lt i (length (names_of s)))

-- a statement that asks for no figure, and gets none
pub nothing_good : Good Account (replicate 46 None)
nothing_good i h = ap (allowed Account i) (get_or-replicate 46 i None None h)
