-- A turn moves one block more, before those that are moved.
use Rattle.std.proofs.Common.{ℕ, ◌≡◌, ◌+◌, ◌-◌, ◌*◌, ap, ◌∙◌, arith}
use Rattle.moves.proofs.MoveLaws.{rising, rising_next}
use Rattle.moves.specs.Moves.{move_block}
use Rattle.moves.proofs.blocks_up.Goals as goal

pub loop-k-preserved : goal.loop-k-preserved
loop-k-preserved c =
    let a = c.args in
    let pre = c.requires in
    let l = c.loop-k in
    let len : ℕ = a.blocks * move_block in
    let k : ℕ = (l.k - 1) * move_block in
    let e : l.k * move_block ≡ k + move_block = omega arith in
    let is = l.invariant ∙ ap (rising a.table.now a.to a.from len) e in
    rising_next a.table.now a.to a.from len k move_block l.table _ pre.0 pre.1 (omega arith) is c.move_block.ensures
