use Rattle.orders.proofs.PaidLaw.{paid_law}
use Rattle.orders.proofs.laws.paid_law.Goals as goal

pub returns : goal.returns
returns c = paid_law
