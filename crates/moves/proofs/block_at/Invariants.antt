-- `moves::block_at` meets its contract: the words before k are those of the block.
use Rattle.std.proofs.Common.{◌≡◌, take, drop, length}
use Rattle.moves.specs.Moves.{move_block}
use Rattle.moves.proofs.block_at.Given as goal

abbrev pub invariant-loop-k : goal.invariant-loop-k
invariant-loop-k l = (length l.block ≡ move_block) × (take l.k l.block ≡ take l.k (drop l.from l.table))
