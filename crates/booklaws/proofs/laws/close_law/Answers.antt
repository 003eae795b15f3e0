use Rattle.booklaws.proofs.CloseLaw.{close_law}
use Rattle.booklaws.proofs.laws.close_law.Goals as goal

pub returns : goal.returns
returns c = close_law
