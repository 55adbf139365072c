-- `moves::blocks_up` meets its contract: a block is read before the copy, which goes down and writes above it, reaches it.
use Rattle.std.proofs.Common.{◌≡◌, ◌*◌}
use Rattle.moves.proofs.MoveLaws.{rising}
use Rattle.moves.specs.Moves.{move_block}
use Rattle.moves.proofs.blocks_up.Given as goal

abbrev pub invariant-loop-k : goal.invariant-loop-k
invariant-loop-k l = l.table ≡ rising l.initial.table l.to l.from (l.blocks * move_block) (l.k * move_block)
