-- The first bad figure of a tariff table, step by step.
use Rattle.std.proofs.Common.{◌≡◌, ◌<◌, false, leb, [], ◌∷◌, is_some, Some, None, ap}
use Rattle.std.proofs.lemmas.Bool.{cond-false, lt-leb, and_right}
use Rattle.limits.specs.First.{unless, first_of}
use Rattle.limits.proofs.Firsts.{of_some, of_any}
use Rattle.tariff.specs.declared.figures.TariffFigures.{TariffFigures}
use Rattle.tariff.specs.Limits.{count_fits, fixed_tests, variable_tests, cost_tests, first_bad_figure}

-- ---- A whole table
pub many_brackets : (f : TariffFigures) → 8 < f.count → first_bad_figure f ≡ first_of (fixed_tests f)
unfolding first_bad_figure fixed_tests
many_brackets f h =
    let bad : count_fits f.count ≡ false = and_right (leb 1 f.count) (leb f.count 8) (lt-leb f.count 8 h) in
    let last : unless (count_fits f.count) 51 ≡ Some 51 = cond-false (count_fits f.count) None (Some 51) bad in
    of_some (first_of (fixed_tests f)) (first_of (variable_tests f) ∷ first_of (cost_tests f) ∷ []) (of_any (fixed_tests f) 4 (ap is_some last))
