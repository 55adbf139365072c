-- `room::passes_limit` meets its contract: what is too large for a sum is beyond the limit anyway.
use Rattle.std.proofs.Common.{sym, ◌∙◌}
use borrow.Author.Tests.{lt-ltb}
use Rattle.pages.proofs.PageLaws.{page_pos}
use Rattle.room.proofs.RoomLaws.{limit_passed}
use Rattle.room.proofs.passes_limit.Goals as goal

pub returns-then-limit-e : goal.returns-then-limit-e
returns-then-limit-e c =
    let h = c.requires in
    lt-ltb _ _ c.if-limit-e.true ∙ sym (limit_passed _ _ _ _ (page_pos h.page) h.within c.if-limit-e.true)
