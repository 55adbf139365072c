-- `change::plan::with` meets its contract: the gap, the piece and what closes behind it are all that stands between the two live pieces.
use native.Mathlib.Omega.{arith}
use Rattle.change.proofs.PlanLaws.{plan_ends_fit, found_sum, found_low, found_high, plan_with_lem}
use Rattle.pages.proofs.PageLaws.{page_pos}
use Rattle.change.proofs.plan.with.Goals as goal

pub live_before-former-requires : goal.live_before-former-requires
live_before-former-requires c =
    let h = c.requires.0 in
    (omega (arith, h.low, h.high, h.room), plan_ends_fit h)

pub gap_of-front-requires : goal.gap_of-front-requires
gap_of-front-requires c =
    let h = c.requires.0 in
    (page_pos h.page, found_sum h _ _ c.live_before-former.ensures c.live_from-to.ensures)

pub planned-requires : goal.planned-requires
planned-requires c =
    let h = c.requires in
    let former = c.live_before-former.ensures in
    let next = c.live_from-to.ensures in
    let low = found_low h.0 _ _ former next in
    let high = found_high h.0 _ _ former next in
    (((page_pos h.0.page, h.1), (low, high)), h.0.few)

pub returns : goal.returns
returns c =
    let former = c.live_before-former.ensures in
    let next = c.live_from-to.ensures in
    let class = c.class-class.ensures in
    let gap = c.gap_of-front.ensures in
    plan_with_lem c.requires.0 _ _ former next c.args.piece _ _ _ _ class gap c.close.ensures c.planned.ensures
