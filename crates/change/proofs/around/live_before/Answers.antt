use Rattle.std.proofs.Common.{◌≡◌, ◌+◌, ◌-◌, sym, ap, ◌∙◌, arith}
use Rattle.change.proofs.AroundLaws.{former_live, former_free}
use Rattle.change.specs.Change.{former_of}
use Rattle.change.proofs.around.live_before.Goals as goal

pub returns-in-Live : goal.returns-in-Live
returns-in-Live c =
    let l = c.loop-k in
    let some = c.loop-k-test.true in
    let here : l.k - 1 + 1 ≡ l.k = omega arith in
    rw here (sym (former_live _ _ _ _ some c.piece_at-piece.ensures c.in-Live.is) ∙ l.invariant)

pub loop-k-preserved : goal.loop-k-preserved
loop-k-preserved c = sym (former_free _ _ _ _ c.loop-k-test.true c.piece_at-piece.ensures c.in_default.is) ∙ c.loop-k.invariant

pub returns : goal.returns
unfolding former_of
returns c =
    let e : c.loop-k.k ≡ 0 = omega arith in
    sym (ap (former_of c.args.table.now) e) ∙ c.loop-k.invariant
