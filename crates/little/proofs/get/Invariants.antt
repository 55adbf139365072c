-- `little::get` meets its contract: from the highest byte down, the value is the number of the bytes passed, which fits since they are at most eight.
use Rattle.std.proofs.Common.{◌≡◌, List, ℕ, ◌++◌}
use Rattle.little.specs.Little.{little}
use Rattle.little.proofs.get.Given as goal

abbrev pub invariant-loop-byte : goal.invariant-loop-byte
invariant-loop-byte l = (passed : List ℕ) × ((l.bytes ≡ l.byte-iterator.iter.rest.now ++ passed) × (l.value ≡ little passed))
