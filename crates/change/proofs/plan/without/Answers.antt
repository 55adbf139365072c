-- `change::plan::without` meets its contract: what closes behind the former live piece is all that stands between it and the next one.
use native.Mathlib.Omega.{arith}
use Rattle.change.proofs.PlanLaws.{plan_ends_fit, found_sum, found_low, found_high, plan_without_lem}
use Rattle.pages.proofs.PageLaws.{page_pos}
use Rattle.change.proofs.plan.without.Goals as goal

pub live_before-former-requires : goal.live_before-former-requires
live_before-former-requires c =
    let h = c.requires in
    (omega (arith, h.low, h.high, h.room), plan_ends_fit h)

pub close-requires : goal.close-requires
close-requires c =
    let h = c.requires in
    ((page_pos h.page, found_sum h _ _ c.live_before-former.ensures c.live_from-to.ensures), h.room)

pub planned-requires : goal.planned-requires
planned-requires c =
    let h = c.requires in
    let former = c.live_before-former.ensures in
    let next = c.live_from-to.ensures in
    let low = found_low h _ _ former next in
    let high = found_high h _ _ former next in
    (((page_pos h.page, found_sum h _ _ former next), (low, high)), h.few)

pub returns : goal.returns
returns c =
    let h = c.requires in
    let former = c.live_before-former.ensures in
    let next = c.live_from-to.ensures in
    plan_without_lem h _ _ former next _ _ c.close.ensures c.planned.ensures
