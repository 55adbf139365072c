-- `change::around::live_from` meets its contract: the next live entry from j on is the one from `to` on, as long as only free entries were passed.
use Rattle.std.proofs.Common.{◌≡◌, ◌-◌}
use Rattle.change.specs.Change.{next_of}
use Rattle.change.proofs.around.live_from.Given as goal

abbrev pub invariant-loop-to : goal.invariant-loop-to
invariant-loop-to l = next_of l.table l.to (l.n - l.to) ≡ next_of l.table l.j (l.n - l.j)
