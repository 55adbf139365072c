use Prim.Native.Nat.{◌/◌, ◌<◌}
use mathlib.Core.Path.{sym, ◌∙◌}
use native.Mathlib.Omega.{arith}
use lib.ListN.{length}
use Rattle.figures.proofs.HexLaws.{nibble_value, said_next}
use Rattle.figures.proofs.bytes.unhex.Goals as goal

pub loop-i-preserved : goal.loop-i-preserved
loop-i-preserved c =
    let l = c.loop-i in
    let a = c.args in
    let half : l.i < length a.word.now / 2 = omega arith in
    let room : l.i < length a.out.now = omega arith in
    let high = nibble_value _ _ (sym c.nibble.ensures.value ∙ c.unwrap.ensures) in
    let low = nibble_value _ _ (sym c.nibble-in-loop-i.ensures.value ∙ c.unwrap-in-loop-i.ensures) in
    said_next a.out.now a.word.now l.i l.invariant half room (omega (arith, high, low))
