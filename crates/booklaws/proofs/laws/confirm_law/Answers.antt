use Rattle.booklaws.proofs.ConfirmLaw.{confirm_law}
use Rattle.booklaws.proofs.laws.confirm_law.Goals as goal

pub returns : goal.returns
returns c = confirm_law
