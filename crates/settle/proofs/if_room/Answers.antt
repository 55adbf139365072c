-- `settle::if_room` meets its contract: the two outcomes of `if_room`.
use mathlib.Core.Path.{sym}
use Rattle.settle.proofs.SettleLaws.{room_full, room_ready}
use Rattle.settle.proofs.if_room.Goals as goal

pub returns-then-table-plan : goal.returns-then-table-plan
returns-then-table-plan c = sym (room_full _ _ c.if-table-plan.true)

pub returns : goal.returns
returns c = sym (room_ready _ _ c.if-table-plan.false)
