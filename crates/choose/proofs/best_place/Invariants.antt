-- `choose::best_place` meets its contract: each turn hands the best so far on as the definition does, at the end
-- nothing is left to look at, and at an exact fit nothing that is left can beat it.
use Rattle.std.proofs.Common.{◌-◌}
use Rattle.pieces.specs.Words.{count_in}
use Rattle.choose.proofs.WalkLaws.{Held}
use Rattle.choose.proofs.best_place.Given as goal

abbrev pub invariant-walk : goal.invariant-walk
invariant-walk l = Held l.p l.class l.s l.entries (count_in l.entries) l.i l.held l.least

abbrev pub decreases-walk : goal.decreases-walk
decreases-walk l = l.n - l.i
