-- `figures::numbers::value_of` meets its contract: the value of the digits from the byte on, behind the value so far, is the value of the word,
-- and it only grows.
use Prim.Native.Nat.{◌<◌}
use mathlib.Core.Path.{◌≡◌}
use lib.ListN.{drop}
use Rattle.figures.specs.Decimal.{value_from, too_large}
use Rattle.figures.proofs.numbers.value_of.Given as goal

abbrev pub invariant-loop-byte : goal.invariant-loop-byte
invariant-loop-byte l = (l.value < too_large) × (value_from l.value (drop l.byte-index l.word) ≡ value_from 0 l.word)
