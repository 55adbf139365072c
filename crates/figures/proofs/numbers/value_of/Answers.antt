use Prim.Native.Nat.{◌≤◌, ◌<◌, ◌+◌, ◌*◌}
use mathlib.Core.Path.{◌≡◌, sym, ap, ◌∙◌}
use native.Mathlib.Omega.{arith}
use lib.ListN.{length, drop}
use Rattle.std.proofs.Common.{Ok}
use borrow.Author.Rules.{rules}
use Rattle.figures.proofs.DecimalLaws.{value_next, value_end, value_le, fitting_large, fitting_is, longer_to, longer_beyond}
use Rattle.figures.specs.Decimal.{value_from, too_large}
use Rattle.figures.proofs.numbers.value_of.Goals as goal

pub returns-in_default : goal.returns-in_default
returns-in_default c =
    let digit = c.digit_of in
    let l = c.loop-byte in
    let w = c.args.word.now in
    let among : l.byte-index < length w = search rules in
    let large = longer_beyond l.value digit.result (sym c.with_digit.ensures ∙ c.in_default.is) in
    let next = rw (← digit.ensures.0) at (value_next l.value w l.byte-index among) in
    let grows = value_le (l.value * 10 + digit.result) (drop (l.byte-index + 1) w) in
    let past : too_large ≤ value_from 0 w = omega (arith, large, next, l.invariant.1, grows) in
    sym (fitting_large (value_from 0 w) past)

pub loop-byte-preserved : goal.loop-byte-preserved
loop-byte-preserved c =
    let digit = c.digit_of in
    let l = c.loop-byte in
    let w = c.args.word.now in
    let among : l.byte-index < length w = search rules in
    let to = longer_to l.value digit.result _ (sym c.with_digit.ensures ∙ c.in-Some.is) in
    let next = rw (← digit.ensures.0) at (value_next l.value w l.byte-index among) in
    (search rules, ap (λ v. value_from v (drop (l.byte-index + 1) w)) to ∙ sym next ∙ l.invariant.1)

pub returns : goal.returns
returns c =
    let l = c.loop-byte in
    let w = c.args.word.now in
    let past : length w ≤ l.byte-index = search rules in
    let whole : l.value ≡ value_from 0 w = sym (value_end l.value w l.byte-index past) ∙ l.invariant.1 in
    let small : value_from 0 w < too_large = omega (arith, whole, l.invariant.0) in
    ap Ok whole ∙ sym (fitting_is (value_from 0 w) small)
