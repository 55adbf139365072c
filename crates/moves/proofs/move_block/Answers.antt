-- A turn lays one word more of the block.
use Rattle.std.proofs.Common.{◌≡◌, length, arith, rules}
use native.Mathlib.Numerals.{add-one}
use lib.ListN.{length-take, length-drop}
use Rattle.std.proofs.Math.Seq.{paste-suc}
use Rattle.moves.specs.Moves.{move_block}
use Rattle.moves.proofs.move_block.Goals as goal

pub loop-k-preserved : goal.loop-k-preserved
loop-k-preserved c =
    let l = c.loop-k in
    let block = c.block_at-block.result in
    let four : length block ≡ move_block = rw (c.block_at-block.ensures, length-take, length-drop) (omega (arith, c.requires.1)) in
    rw (l.invariant, add-one l.k)
    (paste-suc c.args.table.now c.args.to block l.k 0 (omega (arith, c.requires.0, c.loop-k-test.true)) (omega (arith, four, c.loop-k-test.true)))
