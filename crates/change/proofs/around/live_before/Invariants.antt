-- `change::around::live_before` meets its contract: the former live piece before entry i is the one before entry k, as long as only free entries were passed.
use Rattle.std.proofs.Common.{◌≡◌}
use Rattle.change.specs.Change.{former_of}
use Rattle.change.proofs.around.live_before.Given as goal

abbrev pub invariant-loop-k : goal.invariant-loop-k
invariant-loop-k l = former_of l.table l.k ≡ former_of l.table l.i
