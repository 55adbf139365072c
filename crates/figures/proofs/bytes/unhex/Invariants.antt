-- `figures::bytes::unhex` meets its contract: the first i bytes that the word says stand at the front.
use mathlib.Core.Path.{◌≡◌}
use lib.Seq.{paste}
use Rattle.figures.specs.Hex.{bytes_said}
use Rattle.figures.proofs.bytes.unhex.Given as goal

abbrev pub invariant-loop-i : goal.invariant-loop-i
invariant-loop-i l = l.out ≡ paste l.initial.out 0 (bytes_said l.word) l.i
