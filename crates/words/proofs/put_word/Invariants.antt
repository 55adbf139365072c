-- `words::put_word` meets its contract: the bytes before k are laid.
use Rattle.std.proofs.Common.{◌≡◌, take, length}
use Rattle.little.specs.Little.{word_bytes}
use Rattle.words.proofs.put_word.Given as goal

abbrev pub invariant-loop-k : goal.invariant-loop-k
invariant-loop-k l = (length l.out ≡ word_bytes) × (take l.k l.out ≡ take l.k l.bytes)
