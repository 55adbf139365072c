-- `moves::move_block` meets its contract: the words before k are laid.
use Rattle.std.proofs.Common.{◌≡◌}
use Rattle.std.proofs.Math.Seq.{paste}
use Rattle.moves.proofs.move_block.Given as goal

abbrev pub invariant-loop-k : goal.invariant-loop-k
invariant-loop-k l = l.table ≡ paste l.initial.table l.to l.block l.k
