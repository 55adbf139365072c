-- `space::Space::place` meets its contract: refusal 5 is the law of a place beyond the limit, and else the table is settled with the piece at its place.
use mathlib.Core.Path.{◌≡◌, sym, ap, ◌∙◌}
use native.Mathlib.Omega.{arith}
use Rattle.space.proofs.PlaceLaws.{stands_at, place_settle, placed_beyond, placed_change, placed_full}
use Rattle.change.specs.declared.plan.Plan.{Plan}
use Rattle.refusals.specs.declared.AllocateRefusal.TheVariants.{TableFull}
use Rattle.std.specs.Prelude.{Option, ok_or}
use Rattle.std.specs.Result.{result_ok}
use Rattle.std.proofs.lemmas.Result.{err_from_is_err_and}
use Rattle.space.proofs.Space.place.Goals as goal

pub returns-then-is_beyond : goal.returns-then-is_beyond
returns-then-is_beyond c = placed_beyond _ _ _ _ _ c.requires (sym c.is_beyond.ensures ∙ c.if-is_beyond.true)

pub with-requires : goal.with-requires
with-requires c =
    let h = c.requires in
    let r = h.sound.ranges in
    let within = sym c.is_beyond.ensures ∙ c.if-is_beyond.false in
    let entry = c.entry-i.ensures in
    let address = c.address-b.ensures in
    let ends = (stands_at _ _ _ _ _ h within entry address).limit in
    (place_settle _ _ _ _ _ h within entry address, omega (arith, ends, r.limit_largest, r.page.largest))

pub returns-in_err-plan : goal.returns-in_err-plan
returns-in_err-plan c =
    let h = c.requires in
    let within = sym c.is_beyond.ensures ∙ c.if-is_beyond.false in
    let entry = c.entry-i.ensures in
    let full = c.ok_or.ensures.ok_part ∙ ap result_ok c.in_err-plan.was in
    let told = sym c.in_err-plan.was ∙ (c.ok_or.ensures.value ∙ ap (λ (r : Option Plan). ok_or r TableFull) full) in
    let p = err_from_is_err_and c.from_residual.result c.from_residual.ensures.1 in
    let why : c.in_err-plan.field-0.0 ≡ TableFull = cc in
    rw (p.1, p.2, why) (placed_full _ _ _ _ _ h within entry c.address-b.ensures c.with.ensures full)

pub returns : goal.returns
returns c =
    let h = c.requires in
    let within = sym c.is_beyond.ensures ∙ c.if-is_beyond.false in
    let entry = c.entry-i.ensures in
    let room = c.ok_or.ensures.ok_part ∙ ap result_ok c.in_ok-plan.was in
    placed_change _ _ _ _ _ h within entry c.address-b.ensures c.with.ensures room
