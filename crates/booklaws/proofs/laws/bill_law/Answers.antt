use Rattle.booklaws.proofs.BillLaw.{bill_law}
use Rattle.booklaws.proofs.laws.bill_law.Goals as goal

pub returns : goal.returns
returns c = bill_law
