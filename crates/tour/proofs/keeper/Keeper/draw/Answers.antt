use Rattle.tour.specs.Orders.{state_of}
use Rattle.tour.proofs.Orders.{drawn_cancels}
use Rattle.tour.proofs.keeper.Keeper.draw.Goals as goal

pub returns-in-Ok : goal.returns-in-Ok
returns-in-Ok c =
    drawn_cancels (state_of c.args.self.now.book) (state_of c.draw.new.self) c.args.company c.in-Ok.drawn c.in-Ok.ensures.answer c.in-Ok.ensures.after
