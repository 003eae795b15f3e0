-- How the sums of a company change where one row of a table is replaced: by that row's share, and not at all for other companies.
use Rattle.std.proofs.Common.{◌≡◌, ℕ, ◌+◌, ◌<◌, Bool, false, cond, ◌&&◌, eqb, List, length, get_or, set, sym, ap, ◌∙◌, ⊎_elim, get_or-set_other, get_or-set_same}
use Rattle.std.proofs.lemmas.List.{set_past}
use Rattle.std.proofs.lemmas.Bool.{and_right, cond-false, cases_lt, cases_eq}
use Rattle.rounding.proofs.SumLaws.{sum_n_set, sum_n_same, sum_if_foreign}
use Rattle.tariff.specs.declared.figures.TariffFigures.{TariffFigures}
use Rattle.tables.specs.declared.rows.LocalityRow.{LocalityRow}
use Rattle.tables.specs.declared.rows.PointRow.{PointRow}
use Rattle.tables.specs.declared.state.State.{State}
use Rattle.tables.specs.Blank.{past_table}
use Rattle.costs.specs.Costs.{locality_figure}
use Rattle.tables.specs.PointRows.{point_stands}
use Rattle.tables.specs.States.{state_number}
use Rattle.revenue.specs.Owners.{owns, point_locality, serves, serves_in}
use Rattle.revenue.specs.Billed.{point_tariff, billed}
use Rattle.revenue.specs.Served.{point_commercial, commercial_cents}
use Rattle.revenue.specs.Recognised.{locality_figures}
use Rattle.revenue.specs.Ug1.{point_ug1, ug1_due}

-- ---- A point's row
module _ (t : TariffFigures) (ls : List LocalityRow) (ps : List PointRow) (company : ℕ) (i : ℕ) (new d : PointRow) where
  pub billed_set : i < length ps → billed t ls (set ps i new) company + cond (serves ls company (get_or ps i d)) (point_tariff t (point_locality ls (get_or ps i d)) (get_or ps i d)) 0 ≡ billed t ls ps company + cond (serves ls company new) (point_tariff t (point_locality ls new) new) 0
  unfolding billed
  billed_set within = sum_n_set (λ p. cond (serves ls company p) (point_tariff t (point_locality ls p) p) 0) ps i new d within

  pub commercial_set : (state : State) → i < length ps → commercial_cents t ls (set ps i new) company state + cond (serves_in ls company state (get_or ps i d)) (point_commercial t (get_or ps i d)) 0 ≡ commercial_cents t ls ps company state + cond (serves_in ls company state new) (point_commercial t new) 0
  unfolding commercial_cents
  commercial_set state within = sum_n_set (λ p. cond (serves_in ls company state p) (point_commercial t p) 0) ps i new d within

  -- neither the old nor the new point is the company's
  module _ (old_foreign : serves ls company (get_or ps i d) ≡ false) (new_foreign : serves ls company new ≡ false) where
    pub billed_foreign : billed t ls (set ps i new) company ≡ billed t ls ps company
    unfolding billed
    billed_foreign = sum_if_foreign (serves ls company) (λ p. point_tariff t (point_locality ls p) p) ps i new d old_foreign new_foreign

    pub commercial_foreign : (state : State) → commercial_cents t ls (set ps i new) company state ≡ commercial_cents t ls ps company state
    unfolding commercial_cents
    commercial_foreign state =
        let no : (p : PointRow) → serves ls company p ≡ false → serves_in ls company state p ≡ false = λ p h. ap (λ (b : Bool). b && eqb (point_locality ls p).state (state_number state)) h in
        sum_if_foreign (serves_in ls company state) (point_commercial t) ps i new d (no (get_or ps i d) old_foreign) (no new new_foreign)

pub ug1_set : (t : TariffFigures) (ps : List PointRow) (i : ℕ) (new d : PointRow) → i < length ps → ug1_due t (set ps i new) + cond (point_stands (get_or ps i d)) (point_ug1 t (get_or ps i d)) 0 ≡ ug1_due t ps + cond (point_stands new) (point_ug1 t new) 0
unfolding ug1_due
ug1_set t ps i new d within = sum_n_set (λ p. cond (point_stands p) (point_ug1 t p) 0) ps i new d within

-- ---- A locality's row
pub localities_set : (t : TariffFigures) (ls : List LocalityRow) (company : ℕ) (i : ℕ) (new d : LocalityRow) → i < length ls → locality_figures t (set ls i new) company + cond (owns company (get_or ls i d)) (locality_figure t (get_or ls i d)) 0 ≡ locality_figures t ls company + cond (owns company new) (locality_figure t new) 0
unfolding locality_figures
localities_set t ls company i new d within = sum_n_set (λ l. cond (owns company l) (locality_figure t l) 0) ls i new d within

-- neither the old nor the new locality is the company's
module _ (ls : List LocalityRow) (company : ℕ) (i : ℕ) (new : LocalityRow) (old_foreign : owns company (get_or ls i past_table) ≡ false) (new_foreign : owns company new ≡ false) where
  pub localities_foreign : (t : TariffFigures) → locality_figures t (set ls i new) company ≡ locality_figures t ls company
  unfolding locality_figures
  localities_foreign t = sum_if_foreign (owns company) (locality_figure t) ls i new past_table old_foreign new_foreign

  still_foreign : owns company (get_or (set ls i new) i past_table) ≡ false
  still_foreign =
      ⊎_elim
      (λ within. ap (owns company) (get_or-set_same ls i new past_table within) ∙ new_foreign)
      (λ past. ap (λ (xs : List LocalityRow). owns company (get_or xs i past_table)) (set_past ls i new past) ∙ old_foreign)
      (cases_lt i (length ls))

  -- a share that only the company's localities give is the same for every point
  share_same : (share : LocalityRow → PointRow → ℕ) → ((l : LocalityRow) (p : PointRow) → owns company l ≡ false → share l p ≡ 0) → (p : PointRow) → share (point_locality (set ls i new) p) p ≡ share (point_locality ls p) p
  share_same share none p =
      ⊎_elim
      (λ here.
      let after : owns company (point_locality (set ls i new) p) ≡ false = ap (λ (n : ℕ). owns company (get_or (set ls i new) n past_table)) here ∙ still_foreign in
      let before : owns company (point_locality ls p) ≡ false = ap (λ (n : ℕ). owns company (get_or ls n past_table)) here ∙ old_foreign in
      none (point_locality (set ls i new) p) p after ∙ sym (none (point_locality ls p) p before))
      (λ elsewhere. ap (λ (l : LocalityRow). share l p) (get_or-set_other ls i p.locality new past_table elsewhere))
      (cases_eq p.locality i)

  pub billed_refiled : (t : TariffFigures) (ps : List PointRow) → billed t (set ls i new) ps company ≡ billed t ls ps company
  unfolding billed
  billed_refiled t ps =
      let share : LocalityRow → PointRow → ℕ = λ l p. cond (point_stands p && owns company l) (point_tariff t l p) 0 in
      sum_n_same (λ p. share (point_locality (set ls i new) p) p) (λ p. share (point_locality ls p) p)
      (share_same share (λ l p h. cond-false (point_stands p && owns company l) (point_tariff t l p) 0 (and_right (point_stands p) (owns company l) h))) ps

  pub commercial_refiled : (t : TariffFigures) (ps : List PointRow) (state : State) → commercial_cents t (set ls i new) ps company state ≡ commercial_cents t ls ps company state
  unfolding commercial_cents
  commercial_refiled t ps state =
      let in-state : LocalityRow → Bool = λ l. eqb l.state (state_number state) in
      let share : LocalityRow → PointRow → ℕ = λ l p. cond (point_stands p && owns company l && in-state l) (point_commercial t p) 0 in
      sum_n_same (λ p. share (point_locality (set ls i new) p) p) (λ p. share (point_locality ls p) p)
      (share_same share (λ l p h.
      cond-false (point_stands p && owns company l && in-state l) (point_commercial t p) 0
      (ap (λ (b : Bool). b && in-state l) (and_right (point_stands p) (owns company l) h)))) ps
