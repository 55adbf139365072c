-- `moves::blocks_down` meets its contract: a block is read before the copy, which writes below it, reaches it.
use Rattle.std.proofs.Common.{◌≡◌, ◌*◌, drop}
use Rattle.std.proofs.Math.Seq.{paste}
use Rattle.moves.specs.Moves.{move_block}
use Rattle.moves.proofs.blocks_down.Given as goal

abbrev pub invariant-loop-k : goal.invariant-loop-k
invariant-loop-k l = l.table ≡ paste l.initial.table l.to (drop l.from l.initial.table) (l.k * move_block)
