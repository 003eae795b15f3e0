use Rattle.std.proofs.Common.{sym}
use Rattle.tables.proofs.Reading.{point_read}
use Rattle.tables.proofs.point.PointRowRow.record.Goals as goal

pub returns-then-stands-clause-value : goal.returns-then-stands-clause-value
returns-then-stands-clause-value c = sym (point_read c.args.self.now _)
