-- `space::Space::decide_allocate` meets its contract: refusals 3 and 4, and then the piece is to go to the place of its class and size.
use mathlib.Core.Path.{ap, ◌∙◌}
use native.Mathlib.Omega.{arith}
use Rattle.choose.specs.Place.{place_for}
use Rattle.choose.proofs.WalkLaws.{choose_fits}
use Rattle.pages.proofs.Numbers.{passes, fails}
use Rattle.space.proofs.PlaceLaws.{allocated_unknown, allocated_zero, allocated_placed, allocate_same, place_fits}
use Rattle.table.proofs.TilingLaws.{ends_fit}
use Rattle.space.proofs.Space.decide_allocate.Goals as goal

pub returns-then-not-is_type : goal.returns-then-not-is_type
returns-then-not-is_type c = allocated_unknown _ _ _ _ c.requires (fails c.is_type.ensures c.if-not-is_type.true)

pub returns-then-size-eq0 : goal.returns-then-size-eq0
returns-then-size-eq0 c =
    let known = passes c.is_type.ensures c.if-not-is_type.false in
    allocated_zero _ _ _ _ c.requires known c.if-size-eq0.true

pub place_for-place-requires : goal.place_for-place-requires
place_for-place-requires c =
    let s = c.requires in
    let r = s.ranges in
    let read = c.entries.ensures in
    (choose_fits s read.words, ends_fit _ (rw (← read.entries) at s.rules.tiling) (omega (arith, r.end_limit, r.limit_largest)))

pub place-requires : goal.place-requires
place-requires c =
    let a = c.args in
    place_fits a.self a.code a.size _ c.requires c.if-size-eq0.false _ _ c.class_for-class.ensures (c.place_for-place.ensures ∙ ap (place_for a.self.page c.class_for-class.result a.size) c.entries.ensures.entries)

pub returns : goal.returns
returns c =
    let known = passes c.is_type.ensures c.if-not-is_type.false in
    let class = c.class_for-class.ensures in
    let a = c.args in
    let place = c.place_for-place.ensures ∙ ap (place_for a.self.page c.class_for-class.result a.size) c.entries.ensures.entries in
    let e = allocated_placed _ _ _ _ c.requires known c.if-size-eq0.false _ _ class place in
    allocate_same _ _ c.place.result e c.place.ensures
