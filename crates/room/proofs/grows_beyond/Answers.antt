-- `room::grows_beyond` meets its contract: an entry behind the piece keeps the file from growing.
use mathlib.Core.Path.{sym, ◌∙◌}
use borrow.Author.Tests.{lt-leb}
use Rattle.room.proofs.RoomLaws.{grows_not, grows_last}
use Rattle.room.proofs.grows_beyond.Goals as goal

pub returns-then-n-j : goal.returns-then-n-j
returns-then-n-j c = λ w. c.passes_limit.ensures ∙ sym (grows_last _ _ _ _ w _ _ c.if-n-j.true)

pub returns-else-n-j : goal.returns-else-n-j
returns-else-n-j c = λ w. lt-leb _ _ c.if-n-j.false ∙ sym (grows_not _ _ _ _ w _ _ c.if-n-j.false)
