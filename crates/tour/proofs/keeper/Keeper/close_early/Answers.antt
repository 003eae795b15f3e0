use Rattle.booklaws.specs.Closings.{close_decision}
use Rattle.tour.specs.Orders.{state_of}
use Rattle.tour.proofs.Orders.{refused_stays}
use Rattle.tour.proofs.keeper.Keeper.close_early.Goals as goal

pub returns : goal.returns
returns c =
    let b = state_of c.args.self.now.book in
    let company = c.order-company.result.company in
    let closed = close_decision b c.args.self.now.localities c.args.self.now.points company in
    refused_stays b (state_of c.close-answer.new.self) company closed c.close-answer.result c.unwrap_err.result c.close-answer.ensures.after c.close-answer.ensures.answer c.unwrap_err.ensures
