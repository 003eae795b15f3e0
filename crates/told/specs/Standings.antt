-- How a company stands.
use Rattle.std.specs.Prelude.{◌-◌}
use Rattle.company.specs.declared.record.Company.{Company}
use Rattle.company.specs.declared.record.Phase.{Phase}
use Rattle.company.specs.declared.record.Phase.TheVariants as phase
use Rattle.told.specs.declared.standing.Standing.{Standing}
use Rattle.told.specs.declared.standing.Standing.TheVariants.{Closed, Drawn, Sent, Open}

abbrev pub standing_in : Phase → Company → Standing
standing_in phase.Closed c = Closed
standing_in (phase.Drawn k) c = Drawn k
standing_in (phase.Sent k) c = Sent k
standing_in phase.Free c = Open (c.terms.figures.instalments - c.paid) c.terms.figures.instalments

-- closed, with an order out, or open with instalments that are not paid
abbrev pub standing_of : Company → Standing
standing_of c = standing_in c.phase c
