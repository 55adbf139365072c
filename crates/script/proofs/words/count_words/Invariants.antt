-- `script::words::count_words` meets its contract: the words counted so far, with those that start from the byte on, are always all of them.
use Prim.Native.Nat.{◌≤◌, ◌+◌}
use mathlib.Core.Bool.{true}
use mathlib.Core.Path.{◌≡◌}
use lib.ListN.{drop}
use Rattle.script.specs.Line.{words_in}
use Rattle.script.proofs.words.count_words.Given as goal

abbrev pub invariant-loop-byte : goal.invariant-loop-byte
invariant-loop-byte l =
    (l.count ≤ l.byte-index) × (l.count + words_in l.was (drop l.byte-index l.line) ≡ words_in true l.line)
