-- `find::started` meets its contract: the entries before the range start at or before the address, the one behind it does not, and each turn leaves half of
-- the range or less. So there are as many turns at most as the count of entries has binary digits: eleven in the largest table.
use Prim.Native.Nat.{◌-◌}
use Rattle.find.proofs.HalfLaws.{Between, halvings}
use Rattle.pieces.specs.Words.{count_in}
use Rattle.find.proofs.started.Given as goal

abbrev pub invariant-loop-low : goal.invariant-loop-low
invariant-loop-low l = Between l.address (count_in l.entries) l.entries l.low l.high

abbrev pub decreases-loop-low : goal.decreases-loop-low
decreases-loop-low l = halvings (l.high - l.low)
