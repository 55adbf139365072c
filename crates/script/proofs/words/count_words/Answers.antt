use Prim.Native.Nat.{◌≤◌, ◌<◌}
use native.Mathlib.Omega.{arith}
use lib.ListN.{length}
use borrow.Author.Rules.{rules}
use Rattle.std.proofs.Common.{◌≡◌}
use Rattle.std.proofs.lemmas.Grind.{common_steps}
use Rattle.script.specs.Line.{starts}
use Rattle.script.proofs.LineLaws.{words_next, words_end, starts_le}
use Rattle.script.proofs.words.count_words.Goals as goal

pub loop-byte-preserved : goal.loop-byte-preserved
loop-byte-preserved c =
    let l = c.loop-byte in
    let w = c.args.line.now in
    let among : l.byte-index < length w = search rules in
    let blank = c.is_blank-blank in
    let next = rw (← blank.ensures) at (words_next l.was w l.byte-index among) in
    let s : c.from.result ≡ starts l.was blank.result = grind (arith, common_steps) in
    omega (arith, s, next, l.invariant, starts_le l.was blank.result)

pub returns : goal.returns
returns c =
    let l = c.loop-byte in
    let w = c.args.line.now in
    let past : length w ≤ l.byte-index = search rules in
    omega (arith, words_end l.was w l.byte-index past, l.invariant.1)
