-- What number each state of a locality has.
use Rattle.std.specs.Prelude.{ℕ}
use Rattle.tables.specs.declared.state.State.{State}
use Rattle.tables.specs.declared.state.State.TheVariants.{Regime, StartUp}

abbrev pub state_number : State → ℕ
state_number Regime = 1
state_number StartUp = 2
