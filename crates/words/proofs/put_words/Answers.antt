-- The steps of `words::put_words`: no word is laid at first, and each turn lays the next one behind those before it.
use Rattle.std.proofs.Common.{◌+◌, ◌*◌, rules}
use Rattle.little.proofs.LittleLaws.{laid_back, bytes_of_all_none, bytes_of_all_up}
use Rattle.little.specs.Little.{word_bytes}
use Rattle.words.proofs.put_words.Goals as goal

pub loop-i-init : goal.loop-i-init
loop-i-init c = bytes_of_all_none word_bytes c.args.words.now c.args.out.now

pub loop-i-preserved : goal.loop-i-preserved
loop-i-preserved c =
    let l = c.loop-i in
    let put = laid_back (l.i * word_bytes) (l.i * word_bytes + word_bytes) l.out (search rules) c.put_word.ensures in
    bytes_of_all_up word_bytes l.i c.args.words.now l.invariant (search rules) put
