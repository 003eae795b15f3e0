use Rattle.booklaws.specs.Companies.{send_decision}
use Rattle.tour.specs.Orders.{state_of}
use Rattle.tour.proofs.Orders.{sent_bounces, spends_back}
use Rattle.tour.proofs.keeper.Keeper.send.Goals as goal

pub returns-in-Ok-clause-granted : goal.returns-in-Ok-clause-granted
returns-in-Ok-clause-granted c =
    sent_bounces (state_of c.args.self.now.book) (state_of c.send.new.self) c.args.drawn c.in-Ok.sent c.in-Ok.ensures.answer c.in-Ok.ensures.after

pub returns-in-Err-clause-refused : goal.returns-in-Err-clause-refused
returns-in-Err-clause-refused c = spends_back c.args.drawn _ (send_decision (state_of c.args.self.now.book) c.args.drawn.order) c.in-Err.field-0 c.in-Err.ensures.answer
