-- A turn moves one block more, behind those that are moved.
use Rattle.std.proofs.Common.{◌+◌, ◌*◌, arith}
use Rattle.moves.proofs.MoveLaws.{down_more}
use Rattle.moves.specs.Moves.{move_block}
use Rattle.moves.proofs.blocks_down.Goals as goal

pub loop-k-preserved : goal.loop-k-preserved
loop-k-preserved c =
    let a = c.args in
    let l = c.loop-k in
    let pre = c.requires in
    down_more a.table.now a.to a.from (l.k * move_block) move_block ((l.k + 1) * move_block) (omega arith) l.table _ pre.0 (omega arith) l.invariant c.move_block.ensures
