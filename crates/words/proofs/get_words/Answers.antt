-- The steps of `words::get_words`: two words found at a turn make the next ones of the bytes, and the last of an odd number ends them.
use Rattle.std.proofs.Common.{◌≡◌, ◌+◌, ◌*◌, ◌/◌, length, arith, rules}
use Rattle.std.proofs.Math.ListN.{set, length-set}
use Rattle.little.proofs.LittleLaws.{numbers_up, numbers_end}
use Rattle.little.specs.Little.{word_bytes}
use Rattle.words.proofs.get_words.Goals as goal

pub loop-k-preserved : goal.loop-k-preserved
loop-k-preserved c =
    let l = c.loop-k in
    let n = length c.args.words.now in
    let bs = c.args.bytes.now in
    let i = l.k * 2 in
    let first = c.get_word-a in
    let second = c.get_word-b in
    let found = set l.words i first.result in
    let one = numbers_up word_bytes n i first.result l.words bs (search rules) (search rules) l.invariant first.ensures in
    let two = numbers_up word_bytes n (i + 1) second.result found bs (search rules) (simp length-set (search rules)) one second.ensures in
    let e : i + 1 + 1 ≡ (l.k + 1) * 2 = omega arith in
    rw e at two

pub returns-then-last-words : goal.returns-then-last-words
returns-then-last-words c =
    let l = c.loop-k in
    let n = length c.args.words.now in
    let bs = c.args.bytes.now in
    let i = n / 2 * 2 in
    let last = c.get_word in
    let found = set l.words i last.result in
    let e : l.k ≡ n / 2 = omega arith in
    let all = numbers_up word_bytes n i last.result l.words bs (search rules) (search rules) (rw e at l.invariant) last.ensures in
    numbers_end word_bytes n (i + 1) found bs (search rules) (simp length-set (search rules)) all

pub returns-else-last-words : goal.returns-else-last-words
returns-else-last-words c =
    let l = c.loop-k in
    numbers_end word_bytes (length c.args.words.now) (l.k * 2) l.words c.args.bytes.now (search rules) (search rules) l.invariant
