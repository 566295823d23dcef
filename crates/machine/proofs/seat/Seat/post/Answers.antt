use Rattle.std.proofs.Common.{sym, subst}
use Rattle.machine.specs.Seats.{IsSeatOf, with_room}
use Rattle.machine.proofs.Seated.{post_is}
use Rattle.machine.proofs.seat.Seat.post.Goals as goal

pub returns : goal.returns
returns c h n v s =
    post_is h n v c.args.inval record { core = c.self.inside.cpu; inbox = c.self.inside.inbox.items } c.push_reserved.new.self.items
    c.push_reserved.ensures.items (subst (IsSeatOf h n (with_room v)) (sym c.self.view_is) (c.make_room.ensures.seat h n v s))
