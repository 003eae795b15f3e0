-- How lines 1 to 4 of a company and line 5 of all points change where a row of a table is replaced, also by one of the company's own.
use Rattle.std.proofs.Common.{◌≡◌, ℕ, zero, suc, ◌+◌, ◌*◌, ◌<◌, Bool, true, false, cond, ◌&&◌, eqb, List, [], ◌∷◌, length, get_or, set, replicate, refl, sym, ap, ◌∙◌, ⊎_elim, arith, get_or-set_other, get_or-set_same}
use Rattle.std.proofs.lemmas.Bool.{cond-false, cases_Bool, cases_eq}
use Rattle.rounding.specs.Frac.{over}
use Rattle.rounding.specs.Rounding.{rounded}
use Rattle.rounding.specs.Sums.{sum_n}
use Rattle.rounding.proofs.HalfLaw.{rounded_at_most_whole}
use Rattle.rounding.proofs.SumLaws.{sum_n_set}
use Rattle.tariff.specs.declared.figures.Bracket.{Bracket}
use Rattle.tariff.specs.declared.figures.TariffFigures.{TariffFigures}
use Rattle.tariff.specs.Limits.{brackets_of}
use Rattle.tariff.specs.Bills.{amounts_at, tariff_part}
use Rattle.tariff.specs.Lines.{price_at, coefficient_at, bracket_price, part, charged}
use Rattle.tables.specs.declared.rows.LocalityRow.{LocalityRow}
use Rattle.tables.specs.declared.rows.PointRow.{PointRow}
use Rattle.tables.specs.Blank.{no_point, no_point_blank, past_table}
use Rattle.tables.specs.Filings.{locality_stands}
use Rattle.tables.specs.PointRows.{point_stands}
use Rattle.revenue.specs.Owners.{owns, point_locality, serves}
use Rattle.revenue.specs.Billed.{point_tariff, billed}
use Rattle.revenue.specs.Gs.{point_gs, gs_due}
use Rattle.revenue.specs.Ug1.{point_ug1, ug1_due}
use Rattle.yearly.proofs.Grants.{Refiled}

-- ---- Lists

-- functions that agree at every place have the same sum
pub sum_n_at : {X : Type 0} (f g : X → ℕ) (d : X) (xs : List X) → ((i : ℕ) → f (get_or xs i d) ≡ g (get_or xs i d)) → sum_n f xs ≡ sum_n g xs
sum_n_at f g d [] same = refl
sum_n_at f g d (x ∷ xs) same = let ih = sum_n_at f g d xs (λ i. same (suc i)) in let here = same 0 in omega arith

pub sum_n_blank : {X : Type 0} (f : X → ℕ) (n : ℕ) (x : X) → f x ≡ 0 → sum_n f (replicate n x) ≡ 0
sum_n_blank f zero x none = refl
sum_n_blank f (suc n) x none = let ih = sum_n_blank f n x none in omega arith

-- ---- A filing

-- what a point is charged for a company, if the locality l is its own
abbrev share : TariffFigures → (company : ℕ) → LocalityRow → PointRow → ℕ
share t company l p = cond (point_stands p && owns company l) (point_tariff t l p) 0

module _ (t : TariffFigures) (company : ℕ) (ls : List LocalityRow) (place : ℕ) (row : LocalityRow) (within : place < length ls) (stands : locality_stands row ≡ true) (keeps : locality_stands (get_or ls place past_table) ≡ true → Refiled (get_or ls place past_table) row) where
  abbrev old : LocalityRow
  old = get_or ls place past_table

  -- a row that stood and is filed again gives the same share, since its company and its area stay
  share_refiled : (p : PointRow) → locality_stands old ≡ true → share t company row p ≡ share t company old p
  share_refiled p stood =
      let kept = keeps stood in
      λ z. cond (point_stands p && ((stands ∙ sym stood) z && eqb (sym kept.company z) company)) (tariff_part (amounts_at t (sym kept.area z) p.class (eqb p.domestic 1) p.volume p.days)) 0

  -- so a point whose locality stood is charged as before
  share_same : (p : PointRow) → locality_stands (point_locality ls p) ≡ true → share t company (point_locality (set ls place row) p) p ≡ share t company (point_locality ls p) p
  share_same p standing =
      ⊎_elim
      (λ (here : p.locality ≡ place).
      ap (λ (n : ℕ). share t company (get_or (set ls place row) n past_table) p) here
      ∙ ap (λ (l : LocalityRow). share t company l p) (get_or-set_same ls place row past_table within)
      ∙ share_refiled p (ap (λ (n : ℕ). locality_stands (get_or ls n past_table)) (sym here) ∙ standing)
      ∙ ap (λ (n : ℕ). share t company (get_or ls n past_table) p) (sym here))
      (λ elsewhere. ap (λ (l : LocalityRow). share t company l p) (get_or-set_other ls place p.locality row past_table elsewhere))
      (cases_eq p.locality place)

  blank_share : (p : PointRow) (l : LocalityRow) → point_stands p ≡ false → share t company l p ≡ 0
  blank_share p l blank = cond-false (point_stands p && owns company l) (point_tariff t l p) 0 (ap (λ (b : Bool). b && owns company l) blank)

  pub refiled_billed : (ps : List PointRow) → ((i : ℕ) → point_stands (get_or ps i no_point) ≡ true → locality_stands (point_locality ls (get_or ps i no_point)) ≡ true) → billed t (set ls place row) ps company ≡ billed t ls ps company
  unfolding billed
  refiled_billed ps standing =
      sum_n_at (λ p. share t company (point_locality (set ls place row) p) p) (λ p. share t company (point_locality ls p) p) no_point ps
      (λ i.
      let p = get_or ps i no_point in
      ⊎_elim
      (λ (stood : point_stands p ≡ true). share_same p (standing i stood))
      (λ (blank : point_stands p ≡ false). blank_share p (point_locality (set ls place row) p) blank ∙ sym (blank_share p (point_locality ls p) blank))
      (cases_Bool (point_stands p)))

-- ---- A point of which nothing is billed

none_rounded : (n d : ℕ) → n ≡ 0 → rounded (over n d) ≡ 0
none_rounded n d none = let least = rounded_at_most_whole n d in omega arith

none_times : (price v : ℕ) → v ≡ 0 → price * v ≡ 0
none_times price v none = ap (λ (n : ℕ). price * n) none ∙ omega arith

none_charged : (coefficient from : ℕ) (bs : List Bracket) → charged coefficient 0 from bs ≡ 0
none_charged coefficient from [] = refl
none_charged coefficient from (b ∷ bs) =
    let ih = none_charged coefficient b.end bs in
    let nothing = none_times (bracket_price coefficient b) (part 0 from b) (omega arith) in
    omega arith

pub none_due : (t : TariffFigures) (l : LocalityRow) (p : PointRow) → p.volume ≡ 0 → p.days ≡ 0 → point_tariff t l p ≡ 0
none_due t l p volume days =
    let distribution = none_rounded (price_at t.distribution l.area p.class * p.days) (10000 * t.days) (none_times _ p.days days) in
    let metering = none_rounded (price_at t.metering l.area p.class * p.days) (10000 * t.days) (none_times _ p.days days) in
    let commercial = none_rounded (t.commercial.0 * p.days) (10000 * t.days) (none_times _ p.days days) in
    let by_volume = ap (λ (v : ℕ). charged (coefficient_at t.coefficients l.area) v 0 (brackets_of t)) volume in
    let variable = none_rounded (charged (coefficient_at t.coefficients l.area) p.volume 0 (brackets_of t)) 1000000 (by_volume ∙ none_charged (coefficient_at t.coefficients l.area) 0 (brackets_of t)) in
    omega arith

pub none_gs : (t : TariffFigures) (p : PointRow) → p.volume ≡ 0 → point_gs t p ≡ 0
none_gs t p volume = none_rounded (cond (eqb p.domestic 1) 0 t.gs.0 * p.volume) 1000000 (none_times _ p.volume volume)

-- ---- A point's row is replaced

pub gs_set : (t : TariffFigures) (ps : List PointRow) (i : ℕ) (new d : PointRow) → i < length ps → gs_due t (set ps i new) + cond (point_stands (get_or ps i d)) (point_gs t (get_or ps i d)) 0 ≡ gs_due t ps + cond (point_stands new) (point_gs t new) 0
unfolding gs_due
gs_set t ps i new d within = sum_n_set (λ p. cond (point_stands p) (point_gs t p) 0) ps i new d within

-- ---- Blank points

pub none_billed : (t : TariffFigures) (ls : List LocalityRow) (n company : ℕ) → billed t ls (replicate n no_point) company ≡ 0
unfolding billed
none_billed t ls n company =
    sum_n_blank (λ p. cond (serves ls company p) (point_tariff t (point_locality ls p) p) 0) n no_point
    (cond-false (serves ls company no_point) _ 0 (ap (λ (b : Bool). b && owns company (point_locality ls no_point)) no_point_blank))

pub none_gs_due : (t : TariffFigures) (n : ℕ) → gs_due t (replicate n no_point) ≡ 0
unfolding gs_due
none_gs_due t n = sum_n_blank (λ p. cond (point_stands p) (point_gs t p) 0) n no_point (cond-false (point_stands no_point) _ 0 no_point_blank)

pub none_ug1_due : (t : TariffFigures) (n : ℕ) → ug1_due t (replicate n no_point) ≡ 0
unfolding ug1_due
none_ug1_due t n = sum_n_blank (λ p. cond (point_stands p) (point_ug1 t p) 0) n no_point (cond-false (point_stands no_point) _ 0 no_point_blank)
