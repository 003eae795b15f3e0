-- One line less in a text.
use Rattle.std.proofs.Common.{◌≡◌, ℕ, suc, ◌+◌, ◌<◌, ◌≤◌, true, List, [], ◌∷◌, ◌++◌, length, get_or, take, drop, sym, refl, ap, ◌∙◌, subst, ⊎_elim, arith, lit<, length-drop}
use Rattle.std.proofs.lemmas.Bool.{cases_lt}
use Rattle.std.proofs.lemmas.Bool.Decides.{nat_tests}
use lib.Utf8.{encode}
use Rattle.std.proofs.lemmas.List.{take-append-drop, take_all}
use Rattle.std.proofs.lemmas.Str.Pattern.{NoCharPasses-char}
use Rattle.std.specs.Str.Lines.{IsFirstLine}
use Rattle.std.specs.Char.{is_newline}
use Rattle.bookfile.specs.Files.{line_count}

pub line_count_small : (bs : List ℕ) → line_count bs ≤ length bs
line_count_small [] = omega arith
line_count_small (b ∷ bs) = let ih = line_count_small bs in grind (arith, nat_tests)

-- bytes without a newline add no line in front of another
line_count_front : (bs ys : List ℕ) → ((i : ℕ) → i < length bs → get_or bs i 0 ≡ 10 → ⊥) → 1 ≤ line_count ys → line_count (bs ++ ys) ≡ line_count ys
line_count_front [] ys none some = refl
line_count_front (b ∷ bs) ys none some =
    let ih = line_count_front bs ys (λ i h e. none (suc i) (omega arith) e) some in
    let no : b ≡ 10 → ⊥ = none 0 (omega arith) in
    grind (arith, nat_tests)

-- nor do they make more than one line by themselves
line_count_alone : (bs : List ℕ) → ((i : ℕ) → i < length bs → get_or bs i 0 ≡ 10 → ⊥) → line_count bs ≤ 1
line_count_alone [] none = omega arith
line_count_alone (b ∷ bs) none =
    let ih = line_count_alone bs (λ i h e. none (suc i) (omega arith) e) in
    let no : b ≡ 10 → ⊥ = none 0 (omega arith) in
    grind (arith, nat_tests)

line_count_some : (bs : List ℕ) → 0 < length bs → 1 ≤ line_count bs
line_count_some [] h = omega arith
line_count_some (b ∷ bs) h = grind (arith, nat_tests)

-- the newline that ends a line
newline_next : (bs rest : List ℕ) (c : ℕ) → is_newline c ≡ true → bs ≡ encode c ++ rest → bs ≡ 10 ∷ rest
unfolding encode
newline_next bs rest c is e = let ten : c ≡ 10 = grind (arith, nat_tests) in e ∙ ap (λ d. encode d ++ rest) ten

-- what `lines` says of an item
pub line_count_more : (w x rest : List ℕ) → (0 < length w) × (length x + length rest ≤ length w) × IsFirstLine w x rest → line_count w ≡ 1 + line_count rest
line_count_more w x rest (some, _, (n, without, opens, short, _, _)) = ⊎_elim inside at_end (cases_lt n (length w))
  where
    clear : (i : ℕ) → i < length (take n w) → get_or (take n w) i 0 ≡ 10 → ⊥
    clear i h e = NoCharPasses-char 10 (take n w) i without (lit< tt) h e

    inside : n < length w → line_count w ≡ 1 + line_count rest
    inside h =
        let o = opens (simp length-drop (omega arith)) in
        let d : drop n w ≡ 10 ∷ rest = newline_next (drop n w) rest o.0 o.1 o.2 in
        ap line_count (sym (take-append-drop n w) ∙ ap (λ l. take n w ++ l) d)
        ∙ line_count_front (take n w) (10 ∷ rest) clear (omega arith)

    at_end : length w ≤ n → line_count w ≡ 1 + line_count rest
    at_end h =
        let all : take n w ≡ w = take_all n w h in
        let one : line_count w ≤ 1 = subst (λ l. line_count l ≤ 1) all (line_count_alone (take n w) clear) in
        omega (arith, line_count_some w some, line_count_small rest)
