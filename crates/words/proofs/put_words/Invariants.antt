-- `words::put_words` meets its contract: the words passed are laid at the front, one behind the other.
use Rattle.std.proofs.Common.{◌*◌, take}
use Rattle.little.proofs.LittleLaws.{Laid}
use Rattle.little.specs.Little.{word_bytes, bytes_of_all}
use Rattle.words.proofs.put_words.Given as goal

abbrev pub invariant-loop-i : goal.invariant-loop-i
invariant-loop-i l = Laid l.initial.out (bytes_of_all word_bytes (take l.i l.words)) l.out (l.i * word_bytes)
