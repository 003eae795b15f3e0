-- The worked year's tariff table breaks no limit.
use Rattle.std.proofs.Common.{◌≡◌, Ok, refl}
use Rattle.tariff.specs.Limits.{fixed_tests, variable_tests, cost_tests, first_bad_figure}
use Rattle.tariff.specs.Made.{checked}
use Rattle.sample.specs.Year.{worked_table}

pub lawful : checked worked_table ≡ Ok worked_table
unfolding fixed_tests variable_tests cost_tests first_bad_figure
lawful = refl
