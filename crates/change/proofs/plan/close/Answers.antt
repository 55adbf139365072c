-- `change::plan::close` meets its contract: before a live entry a gap closes, and before nothing the tail.
use Rattle.change.proofs.PlanLaws.{closing_next, closing_none}
use Rattle.change.proofs.plan.close.Goals as goal

pub returns-then-n-to : goal.returns-then-n-to
returns-then-n-to c = rw (closing_none _ _ _ _ _ _ c.if-n-to.true) c.tail_of.ensures

pub returns : goal.returns
returns c =
    let among = c.if-n-to.false in
    let read = c.piece_at-next.ensures in
    rw (closing_next _ _ _ _ _ _ _ among read, ← c.class.ensures) c.gap_of.ensures
