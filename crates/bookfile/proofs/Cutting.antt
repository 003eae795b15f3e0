-- A row is cut into words in one way.
use Rattle.std.proofs.Common.{◌≡◌, ◌≢◌, ℕ, suc, ◌<◌, Bool, true, false, not, ◌⊎◌, inl, inr, List, [], ◌∷◌, ◌++◌, length, sym, refl, ap, ◌∙◌, subst, append_assoc, append-nil, arith, length-append}
use Rattle.std.proofs.lemmas.Bool.{true≢false}
use Rattle.std.proofs.lemmas.Str.{encode_same, length-encode, len_utf8_bounds}
use lib.Utf8.{encode, encodes}
use Rattle.std.specs.List.{slice_index}
use Rattle.std.specs.Char.{is_whitespace, is_not_whitespace}
use Rattle.std.specs.Str.{NonePass, NoCharPasses, EmptyOrStartsWithPassing}
use Rattle.bookfile.specs.Faults.{Opens}
use Rattle.bookfile.specs.Grammar.{First, Words, Before}

-- a text is empty or begins with a character that passes
abbrev pub Begins : (ℕ → Bool) → List ℕ → Type 0
Begins p xs = 0 < length xs → (c : ℕ) × (more : List ℕ) × (p c ≡ true) × (xs ≡ encode c ++ more)

pub begins : (p : ℕ → Bool) (xs : List ℕ) → (more : List ℕ) × EmptyOrStartsWithPassing p xs more → Begins p xs
begins p xs (more, starts) full = let h = starts full in (h.0, more, h.1, h.2)

clash : (p : ℕ → Bool) (d : ℕ) (tail xs : List ℕ) → p d ≡ false → Begins p xs → xs ≡ encode d ++ tail → ⊥
clash p d tail xs dark starts e =
    let full : 0 < length xs = omega (arith, ap length e, length-append (encode d) tail, length-encode d, (len_utf8_bounds d).0) in
    let h = starts full in
    let k = encode_same h.0 d h.1 tail (sym h.3 ∙ e) in
    true≢false (sym h.2 ∙ ap p k.0 ∙ dark)

pub span_same : (p : ℕ → Bool) (cs ds xs ys : List ℕ) → NonePass p cs → NonePass p ds → Begins p xs → Begins p ys → encodes cs ++ xs ≡ encodes ds ++ ys → (cs ≡ ds) × (xs ≡ ys)
span_same p [] [] xs ys a b s t e = (refl, e)
span_same p [] (d ∷ ds) xs ys a b s t e = absurd (clash p d (encodes ds ++ ys) xs b.0 s (e ∙ append_assoc (encode d) (encodes ds) ys))
span_same p (c ∷ cs) [] xs ys a b s t e = absurd (clash p c (encodes cs ++ xs) ys a.0 t (sym e ∙ append_assoc (encode c) (encodes cs) xs))
span_same p (c ∷ cs) (d ∷ ds) xs ys a b s t e =
    let k = encode_same c d (encodes cs ++ xs) (encodes ds ++ ys) (sym (append_assoc (encode c) (encodes cs) xs) ∙ e ∙ append_assoc (encode d) (encodes ds) ys) in
    let r = span_same p cs ds xs ys a.1 b.1 s t k.1 in
    (λ i. k.0 i ∷ r.0 i, r.1)

-- a word begins with no white space
word_begins : (cs w rest : List ℕ) → encodes cs ≡ w → NonePass is_whitespace cs → 0 < length w → Begins is_not_whitespace (w ++ rest)
word_begins [] w rest e none some full = absurd (omega (arith, ap length e))
word_begins (c ∷ cs) w rest e none some full = (c, encodes cs ++ rest, ap not none.0, ap (λ v. v ++ rest) (sym e) ∙ append_assoc (encode c) (encodes cs) rest)

pub first_same : (bs w v rest next : List ℕ) → First bs w rest → First bs v next → (w ≡ v) × (rest ≡ next)
first_same bs w v rest next f g =
    let front : encodes f.blank.0 ++ (w ++ rest) ≡ encodes g.blank.0 ++ (v ++ next) =
    ap (λ l. l ++ (w ++ rest)) f.blank.1 ∙ sym f.cut ∙ g.cut ∙ ap (λ l. l ++ (v ++ next)) (sym g.blank.1) in
    let k = span_same is_not_whitespace f.blank.0 g.blank.0 (w ++ rest) (v ++ next) f.blank.2 g.blank.2 (word_begins f.solid.0 w rest f.solid.1 f.solid.2 f.some) (word_begins g.solid.0 v next g.solid.1 g.solid.2 g.some) front in
    let back : encodes f.solid.0 ++ rest ≡ encodes g.solid.0 ++ next =
    ap (λ l. l ++ rest) f.solid.1 ∙ k.1 ∙ ap (λ l. l ++ next) (sym g.solid.1) in
    let m = span_same is_whitespace f.solid.0 g.solid.0 rest next f.solid.2 g.solid.2 (begins is_whitespace rest f.ends) (begins is_whitespace next g.ends) back in
    (sym f.solid.1 ∙ ap encodes m.0 ∙ g.solid.1, m.1)

pub first_some : (bs w rest : List ℕ) → First bs w rest → NoCharPasses is_not_whitespace bs → ⊥
first_some bs w rest f none =
    let front : encodes f.blank.0 ++ (w ++ rest) ≡ encodes none.0 ++ [] =
    ap (λ l. l ++ (w ++ rest)) f.blank.1 ∙ sym f.cut ∙ sym none.1 ∙ sym (append-nil (encodes none.0)) in
    let k = span_same is_not_whitespace f.blank.0 none.0 (w ++ rest) [] f.blank.2 none.2 (word_begins f.solid.0 w rest f.solid.1 f.solid.2 f.some) (λ full. absurd (omega arith)) front in
    absurd (omega (arith, ap length k.1, length-append w rest, f.some))

-- the word after words that a text begins with is the next of its words
pub next_word : (bs : List ℕ) (vs : List (List ℕ)) (rest w more : List ℕ) (us : List (List ℕ)) → Opens bs vs rest → First rest w more → Words bs us → (ws : List (List ℕ)) × (us ≡ vs ++ w ∷ ws)
next_word bs [] rest w more [] e first none = absurd (first_some bs w more (subst (λ b. First b w more) e first) none)
next_word bs [] rest w more (u ∷ us) e first (after, f, words) =
    let same = first_same bs u w after more f (subst (λ b. First b w more) e first) in
    (us, ap (λ x. x ∷ us) same.0)
next_word bs (v ∷ vs) rest w more [] (after, f, opens) first none = absurd (first_some bs v after f none)
next_word bs (v ∷ vs) rest w more (u ∷ us) (after, f, opens) first (left, g, words) =
    let same = first_same bs u v left after g f in
    let k = next_word after vs rest w more us opens first (subst (λ b. Words b us) same.1 words) in
    (k.0, λ i. same.0 i ∷ k.1 i)

pub words_same : (bs : List ℕ) (us vs : List (List ℕ)) → Words bs us → Words bs vs → us ≡ vs
words_same bs [] [] none nil = refl
words_same bs [] (v ∷ vs) none (after, f, words) = absurd (first_some bs v after f none)
words_same bs (u ∷ us) [] (after, f, words) none = absurd (first_some bs u after f none)
words_same bs (u ∷ us) (v ∷ vs) (left, g, ws) (after, f, words) =
    let same = first_same bs u v left after g f in
    let k = words_same after us vs (subst (λ b. Words b us) same.1 ws) words in
    λ i. same.0 i ∷ k i

-- bytes up to the first of a kind
abbrev pub Ends : ℕ → List ℕ → Type 0
Ends c xs = (xs ≡ []) ⊎ ((more : List ℕ) × (xs ≡ c ∷ more))

starts_not : (c y : ℕ) (ys xs : List ℕ) → y ≢ c → Ends c xs → xs ≡ y ∷ ys → ⊥
starts_not c y ys xs other (inl e) h = absurd (cc)
starts_not c y ys xs other (inr (more, e)) h = other (ap (λ l. slice_index l 0) (sym h ∙ e))

pub cut_same : (c : ℕ) (xs ys ms ns : List ℕ) → ((i : ℕ) → i < length xs → slice_index xs i ≢ c) → ((i : ℕ) → i < length ys → slice_index ys i ≢ c) → Ends c ms → Ends c ns → xs ++ ms ≡ ys ++ ns → (xs ≡ ys) × (ms ≡ ns)
cut_same c [] [] ms ns f g s t e = (refl, e)
cut_same c [] (y ∷ ys) ms ns f g s t e = absurd (starts_not c y (ys ++ ns) ms (g 0 (omega arith)) s e)
cut_same c (x ∷ xs) [] ms ns f g s t e = absurd (starts_not c x (xs ++ ms) ns (f 0 (omega arith)) t (sym e))
cut_same c (x ∷ xs) (y ∷ ys) ms ns f g s t e =
    let head : x ≡ y = ap (λ l. slice_index l 0) e in
    let tail : xs ++ ms ≡ ys ++ ns = cc in
    let k = cut_same c xs ys ms ns (λ i h. f (suc i) (omega arith)) (λ i h. g (suc i) (omega arith)) s t tail in
    (λ i. head i ∷ k.0 i, k.1)

comment_ends : (row text : List ℕ) → (row ≡ text) ⊎ ((comment : List ℕ) × (row ≡ text ++ (35 ∷ comment))) → (tail : List ℕ) × Ends 35 tail × (row ≡ text ++ tail)
comment_ends row text (inl e) = ([], inl refl, e ∙ sym (append-nil text))
comment_ends row text (inr (comment, e)) = (35 ∷ comment, inr (comment, refl), e)

pub before_same : (row text other : List ℕ) → Before row text → Before row other → text ≡ other
before_same row text other (clear, e) (free, h) =
    let a = comment_ends row text e in
    let b = comment_ends row other h in
    (cut_same 35 text other a.0 b.0 clear free a.1 b.1 (sym a.2 ∙ b.2)).0

pub equals_same : (a b m n : List ℕ) → ((i : ℕ) → i < length a → slice_index a i ≢ 61) → ((i : ℕ) → i < length b → slice_index b i ≢ 61) → a ++ (61 ∷ m) ≡ b ++ (61 ∷ n) → (a ≡ b) × (m ≡ n)
equals_same a b m n clear free e =
    let k = cut_same 61 a b (61 ∷ m) (61 ∷ n) clear free (inr (m, refl)) (inr (n, refl)) e in
    let tail : m ≡ n = let h = k.1 in cc in
    (k.0, tail)
