-- A table with no bad figure keeps every limit, and one that keeps every limit has no bad figure.
use Rattle.std.proofs.Common.{◌≡◌, ℕ, zero, suc, ◌+◌, ◌*◌, ◌<◌, true, false, eqb, ltb, leb, ◌⊎◌, List, [], ◌∷◌, length, get_or, is_some, Some, Option, sym, refl, ap, ◌∙◌, inl, inr, ⊎_elim, arith}
use Rattle.std.proofs.lemmas.Bool.{and_parts, and_from, or_cases, or_left, or_right, leb-true, ltb-true, eqb-true, le-leb, lt-ltb, eq-eqb, cond-true}
use Rattle.tariff.specs.declared.figures.Bracket.{Bracket}
use Rattle.tariff.specs.declared.figures.TariffFigures.{TariffFigures}
use Rattle.tariff.specs.declared.table.Tariff.{Tariff}
use Rattle.limits.specs.First.{point_price_fits, volume_price_fits, first_of}
use Rattle.limits.proofs.Firsts.{none_at, goes_on, fits_of, fits_at, none_cons, none_unless, none_beyond}
use Rattle.tariff.specs.Limits.{days_fit, commercial_fits, count_fits, coefficient_fits, rate_fits, life_fits, reference_fits, first_bad_end, brackets_of, components_of, costs_of, no_bracket, fixed_tests, variable_tests, cost_tests, first_bad_figure, Within}

rises_at : (n : ℕ) (bs : List Bracket) → is_some (first_bad_end n bs) ≡ false → (i : ℕ) → suc i < length bs → (get_or bs i no_bracket).end < (get_or bs (suc i) no_bracket).end
rises_at n [] h i l = absurd (omega arith)
rises_at n (b ∷ []) h i l = absurd (omega arith)
rises_at n (b ∷ (c ∷ bs)) h zero l =
    ltb-true b.end c.end (goes_on (ltb b.end c.end) (first_bad_end (n + 1) (c ∷ bs)) (n + 1) h).0
rises_at n (b ∷ (c ∷ bs)) h (suc i) l =
    rises_at (n + 1) (c ∷ bs) (goes_on (ltb b.end c.end) (first_bad_end (n + 1) (c ∷ bs)) (n + 1) h).1 i (omega arith)

last_at : (n : ℕ) (bs : List Bracket) → is_some (first_bad_end n bs) ≡ false → (i : ℕ) → suc i ≡ length bs → (get_or bs i no_bracket).end ≡ 1000000000
last_at n [] h i l = absurd (omega arith)
last_at n (b ∷ []) h zero l = eqb-true b.end 1000000000 (fits_of (eqb b.end 1000000000) n h)
last_at n (b ∷ []) h (suc i) l = absurd (omega arith)
last_at n (b ∷ (c ∷ bs)) h zero l = absurd (omega arith)
last_at n (b ∷ (c ∷ bs)) h (suc i) l =
    last_at (n + 1) (c ∷ bs) (goes_on (ltb b.end c.end) (first_bad_end (n + 1) (c ∷ bs)) (n + 1) h).1 i (omega arith)

pub within : (f : TariffFigures) → is_some (first_bad_figure f) ≡ false → Within f
unfolding first_bad_figure fixed_tests variable_tests cost_tests
within f h =
    let all = none_at (first_of (fixed_tests f) ∷ first_of (variable_tests f) ∷ first_of (cost_tests f) ∷ []) h in
    let fixed = none_at (fixed_tests f) (all 0) in
    let variable = none_at (variable_tests f) (all 1) in
    let cost = none_at (cost_tests f) (all 2) in
    let days = or_cases (eqb f.days 365) (eqb f.days 366) (fits_of (days_fit f.days) 1 (fixed 0)) in
    let commercial = and_parts (leb 1 f.commercial.0) (leb f.commercial.0 1000000000) (fits_of (commercial_fits f.commercial) 50 (fixed 3)) in
    let count = and_parts (leb 1 f.count) (leb f.count 8) (fits_of (count_fits f.count) 51 (fixed 4)) in
    record {
      year = ⊎_elim (λ e. inl (eqb-true f.days 365 e)) (λ e. inr (eqb-true f.days 366 e)) days;
      distribution = λ i. leb-true _ _ (fits_at point_price_fits (record { 0 = 0 }) refl 2 f.distribution (fixed 1) i);
      metering = λ i. leb-true _ _ (fits_at point_price_fits (record { 0 = 0 }) refl 26 f.metering (fixed 2) i);
      commercial = (leb-true _ _ commercial.0, leb-true _ _ commercial.1);
      count = (leb-true _ _ count.0, leb-true _ _ count.1);
      rises = rises_at 52 (brackets_of f) (variable 0);
      last = last_at 52 (brackets_of f) (variable 0);
      reference = λ i. leb-true _ _ (fits_at reference_fits no_bracket refl (52 + f.count) (brackets_of f) (variable 1) i);
      coefficients = λ i. leb-true _ _ (fits_at coefficient_fits (record { 0 = 0 }) refl (52 + 2 * f.count) f.coefficients (variable 2) i);
      components = λ i. leb-true _ _ (fits_at volume_price_fits (record { 0 = 0 }) refl (60 + 2 * f.count) (components_of f) (variable 3) i);
      rate = leb-true _ _ (fits_of (rate_fits f.rate) (62 + 2 * f.count) (cost 0));
      lives = λ i. leb-true _ _ (fits_at life_fits (record { 0 = 0 }) refl (63 + 2 * f.count) f.lives (cost 1) i);
      costs = λ i. leb-true _ _ (fits_at point_price_fits (record { 0 = 0 }) refl (71 + 2 * f.count) (costs_of f) (cost 2) i);
    }

-- so a tariff table keeps every limit
pub held : (t : Tariff) → Within t.figures
held t = within t.figures t.lawful

-- ---- And back
none_ends : (n : ℕ) (bs : List Bracket) → ((i : ℕ) → suc i < length bs → (get_or bs i no_bracket).end < (get_or bs (suc i) no_bracket).end) → ((i : ℕ) → suc i ≡ length bs → (get_or bs i no_bracket).end ≡ 1000000000) → is_some (first_bad_end n bs) ≡ false
none_ends n [] r e = refl
none_ends n (b ∷ []) r e = none_unless (eqb b.end 1000000000) n (eq-eqb b.end 1000000000 (e 0 refl))
none_ends n (b ∷ (c ∷ bs)) r e =
    ap is_some (cond-true (ltb b.end c.end) (first_bad_end (n + 1) (c ∷ bs)) (Some (n + 1)) (lt-ltb b.end c.end (r 0 (omega arith))))
    ∙ none_ends (n + 1) (c ∷ bs) (λ i h. r (suc i) (omega arith)) (λ i h. e (suc i) (ap suc h))

year_fits : (y : ℕ) → (y ≡ 365) ⊎ (y ≡ 366) → days_fit y ≡ true
year_fits y (inl e) = or_left (eqb y 365) (eqb y 366) (eq-eqb y 365 e)
year_fits y (inr e) = or_right (eqb y 365) (eqb y 366) (eq-eqb y 366 e)

nothing_bad : (f : TariffFigures) → Within f → is_some (first_bad_figure f) ≡ false
unfolding first_bad_figure fixed_tests variable_tests cost_tests
nothing_bad f w =
    none_cons _ _
    (none_cons _ _ (none_unless _ 1 (year_fits f.days w.year))
    (none_cons _ _ (none_beyond point_price_fits (record { 0 = 0 }) 2 f.distribution (λ i. le-leb _ _ (w.distribution i)))
    (none_cons _ _ (none_beyond point_price_fits (record { 0 = 0 }) 26 f.metering (λ i. le-leb _ _ (w.metering i)))
    (none_cons _ _ (none_unless _ 50 (and_from _ _ (le-leb _ _ w.commercial.0) (le-leb _ _ w.commercial.1)))
    (none_cons _ _ (none_unless _ 51 (and_from _ _ (le-leb _ _ w.count.0) (le-leb _ _ w.count.1))) refl)))))
    (none_cons _ _
    (none_cons _ _ (none_ends 52 (brackets_of f) w.rises w.last)
    (none_cons _ _ (none_beyond reference_fits no_bracket (52 + f.count) (brackets_of f) (λ i. le-leb _ _ (w.reference i)))
    (none_cons _ _ (none_beyond coefficient_fits (record { 0 = 0 }) (52 + 2 * f.count) f.coefficients (λ i. le-leb _ _ (w.coefficients i)))
    (none_cons _ _ (none_beyond volume_price_fits (record { 0 = 0 }) (60 + 2 * f.count) (components_of f) (λ i. le-leb _ _ (w.components i))) refl))))
    (none_cons _ _
    (none_cons _ _ (none_unless _ (62 + 2 * f.count) (le-leb _ _ w.rate))
    (none_cons _ _ (none_beyond life_fits (record { 0 = 0 }) (63 + 2 * f.count) f.lives (λ i. le-leb _ _ (w.lives i)))
    (none_cons _ _ (none_beyond point_price_fits (record { 0 = 0 }) (71 + 2 * f.count) (costs_of f) (λ i. le-leb _ _ (w.costs i))) refl)))
    refl))

pub decides : (f : TariffFigures) (r : Option ℕ) → r ≡ first_bad_figure f → (is_some r ≡ false → Within f) × (Within f → is_some r ≡ false)
decides f r e = (λ h. within f (sym (ap is_some e) ∙ h), λ w. ap is_some e ∙ nothing_bad f w)
