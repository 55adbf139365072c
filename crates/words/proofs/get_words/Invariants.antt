-- `words::get_words` meets its contract: the words found so far are the first ones of the bytes, and behind the last two one is left at most.
use Rattle.std.proofs.Common.{◌≡◌, ◌*◌, length, take}
use Rattle.little.specs.Little.{word_bytes, numbers}
use Rattle.words.proofs.get_words.Given as goal

abbrev pub invariant-loop-k : goal.invariant-loop-k
invariant-loop-k l = take (l.k * 2) l.words ≡ take (l.k * 2) (numbers word_bytes (length l.initial.words) l.bytes)
