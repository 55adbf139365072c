-- `moves::clear_all` meets its contract: the words before k are 0.
use Rattle.std.proofs.Common.{◌≡◌, length, take, replicate}
use Rattle.moves.proofs.clear_all.Given as goal

abbrev pub invariant-loop-k : goal.invariant-loop-k
invariant-loop-k l = (length l.table ≡ length l.initial.table) × (take l.k l.table ≡ replicate l.k 0)
