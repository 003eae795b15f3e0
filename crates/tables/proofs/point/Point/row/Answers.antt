use Rattle.tables.proofs.Holding.{point_held}
use Rattle.tables.proofs.Reading.{point_read}
use Rattle.tables.proofs.point.Point.row.Goals as goal

pub returns-clause-back : goal.returns-clause-back
returns-clause-back c = point_read c.args.self.now.row c.args.self.now.stands

pub returns-clause-held : goal.returns-clause-held
returns-clause-held c = point_held c.args.self.now.row c.args.self.now.stands
