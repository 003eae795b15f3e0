use Rattle.std.proofs.Common.{sym}
use Rattle.tables.proofs.Reading.{locality_read}
use Rattle.tables.proofs.locality.LocalityRowRow.record.Goals as goal

pub returns-then-locality_stands-clause-value : goal.returns-then-locality_stands-clause-value
returns-then-locality_stands-clause-value c = sym (locality_read c.args.self.now _)
