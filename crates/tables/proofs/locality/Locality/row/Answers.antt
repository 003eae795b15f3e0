use Rattle.tables.proofs.Holding.{held}
use Rattle.tables.proofs.Reading.{locality_read}
use Rattle.tables.proofs.locality.Locality.row.Goals as goal

pub returns-clause-back : goal.returns-clause-back
returns-clause-back c = locality_read c.args.self.now.row c.args.self.now.stands

pub returns-clause-held : goal.returns-clause-held
returns-clause-held c = held c.args.self.now.row c.args.self.now.stands
