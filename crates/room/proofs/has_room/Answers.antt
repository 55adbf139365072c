-- `room::has_room` meets its contract: of the entries behind the piece only the first matters.
use Rattle.std.proofs.Common.{sym, ◌∙◌, arith}
use Rattle.room.proofs.RoomLaws.{room_some, room_at_end}
use Rattle.room.proofs.has_room.Goals as goal

pub returns-then-count_in-gt0 : goal.returns-then-count_in-gt0
returns-then-count_in-gt0 c = c.room_in.ensures ∙ sym (room_some _ _ _ _ _ _ (omega (arith, c.count_in.ensures)) _ c.piece_at.ensures)

pub returns-else-count_in-gt0 : goal.returns-else-count_in-gt0
returns-else-count_in-gt0 c = c.room_at_end.ensures ∙ sym (room_at_end _ _ _ _ _ _ (omega (arith, c.count_in.ensures)))
