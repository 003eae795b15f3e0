use Rattle.tables.proofs.Holding.{held}
use Rattle.tables.proofs.locality.Locality.as_row.Goals as goal

pub returns-clause-held : goal.returns-clause-held
returns-clause-held c = held c.args.self.now.row c.args.self.now.stands
