use Rattle.costs.proofs.Parts.{held_of_service}
use Rattle.costs.proofs.capital.assets_of.Goals as goal

pub invariant_of-result-clause-held : goal.invariant_of-result-clause-held
invariant_of-result-clause-held c =
    rw c.part.ensures.value (held_of_service c.args.service c.as_row.result.now.rows c.as_row.ensures.held.rows)
