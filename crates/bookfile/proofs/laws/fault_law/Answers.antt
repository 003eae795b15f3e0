use Rattle.bookfile.proofs.Firsts as firsts
use Rattle.bookfile.proofs.laws.fault_law.Goals as goal

pub returns : goal.returns
returns c = firsts.fault_law
