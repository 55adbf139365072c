use Rattle.std.proofs.Common.{◌≡◌, sym, ◌∙◌, arith}
use Rattle.change.proofs.AroundLaws.{next_stop, next_on, next_none}
use Rattle.pages.proofs.Numbers.{passes, fails}
use Rattle.change.proofs.around.live_from.Goals as goal

pub returns-then-not-is_free : goal.returns-then-not-is_free
returns-then-not-is_free c =
    let live = fails c.is_free.ensures c.if-not-is_free.true in
    sym (next_stop _ _ _ _ c.piece_at.ensures c.loop-to-test.true live) ∙ c.loop-to.invariant

pub loop-to-preserved : goal.loop-to-preserved
loop-to-preserved c =
    let free = passes c.is_free.ensures c.if-not-is_free.false in
    sym (next_on _ _ _ _ c.piece_at.ensures c.loop-to-test.true free) ∙ c.loop-to.invariant

pub returns : goal.returns
returns c =
    let e : c.loop-to.to ≡ c.args.n = omega arith in
    sym e ∙ (sym (next_none _ _ _ c.loop-to-test.false) ∙ c.loop-to.invariant)
