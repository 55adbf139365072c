-- `words::put_word` meets its contract: all eight bytes are laid in the end, and those that the standard library makes of a word are its bytes.
use Rattle.std.proofs.Common.{◌≡◌, ◌≤◌, sym, ◌∙◌, ap, length, arith}
use Rattle.std.proofs.Math.Seq.{take_all}
use Rattle.little.proofs.LittleLaws.{word_bytes_of, length_bytes_of}
use Rattle.little.specs.Little.{word_bytes}
use Rattle.words.proofs.put_word.Goals as goal

pub returns : goal.returns
returns c =
    let l = c.loop-k in
    let is = c.to_le_bytes-bytes.ensures ∙ word_bytes_of c.args.word in
    let eight = ap length is ∙ length_bytes_of word_bytes c.args.word in
    let end : word_bytes ≤ l.k = omega (arith, c.loop-k-test.false) in
    sym (take_all l.k l.out (omega (arith, l.invariant.0, end))) ∙ l.invariant.1 ∙ take_all l.k _ (omega (arith, eight, end)) ∙ is
