use Rattle.company.proofs.Making.{are_made}
use Rattle.company.proofs.terms.TermsTryFromTermsFigures.try_from.Goals as goal

pub returns : goal.returns
returns c = are_made c.args.figures _
