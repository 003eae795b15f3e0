use Rattle.company.proofs.Lawful.{within}
use Rattle.company.proofs.terms.Terms.figures.Goals as goal

pub returns-clause-within : goal.returns-clause-within
returns-clause-within c = within c.args.self.now.figures c.args.self.now.lawful
