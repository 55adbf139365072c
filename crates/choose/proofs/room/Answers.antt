-- `choose::room` meets its contract: an entry of s bytes or more has room for a large piece where the bytes beyond s reach the first border.
use Rattle.std.proofs.Common.{sym}
use Rattle.choose.proofs.ChooseLaws.{room_large}
use Rattle.choose.proofs.room.Goals as goal

pub returns-in-Large : goal.returns-in-Large
returns-in-Large c =
    let a = c.args in
    let up = c.up_from.ensures in
    rw c.in-Large.is (sym (rw (← up) at (room_large a.p c.requires.0 a.s a.address a.size c.requires.1)))
