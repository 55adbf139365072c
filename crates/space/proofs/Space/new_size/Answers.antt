-- `space::Space::new_size` meets its contract: each way has its tests' laws, and the sums stay within the limit.
use mathlib.Core.Path.{sym, ◌∙◌}
use native.Mathlib.Omega.{arith}
use Rattle.space.proofs.GiveLaws.{found_lt, found_limit, grow_fits, longer_no_room, longer_beyond, longer_bytes, longer_fits}
use Rattle.space.proofs.GiveLaws.{shorter_too_far, shorter_bytes, shorter_fits, new_size_way}
use Rattle.space.proofs.GiveLaws.{room_behind}
use Rattle.table.proofs.Theorems.{count_fits}
use Rattle.space.proofs.Space.new_size.Goals as goal

pub overflow_add-e : goal.overflow_add-e
overflow_add-e c =
    let f = c.requires in
    omega (arith, found_limit _ _ _ _ f, f.sound.ranges.limit_largest)

pub overflow_add-next : goal.overflow_add-next
overflow_add-next c = omega (arith, found_lt _ _ _ _ c.requires)

pub words_of-behind-requires : goal.words_of-behind-requires
words_of-behind-requires c = (omega (arith, found_lt _ _ _ _ c.requires), count_fits c.requires.sound.ranges)

pub returns-then-not-has_room : goal.returns-then-not-has_room
returns-then-not-has_room c =
    let f = c.requires in
    let law = longer_no_room _ _ _ _ f _ _ c.class-class.ensures _ (room_behind _ _ _ _ c.requires c.words_of-behind.ensures _ _ c.has_room.ensures) c.if-not-has_room.true in
    sym (new_size_way _ _ _ _ f _ c.in-Longer.is ∙ law)

pub grows_beyond-requires : goal.grows_beyond-requires
grows_beyond-requires c = grow_fits _ _ _ _ c.requires

pub returns-then-grows_beyond : goal.returns-then-grows_beyond
returns-then-grows_beyond c =
    let f = c.requires in
    let class = c.class-class.ensures in
    let room = (room_behind _ _ _ _ c.requires c.words_of-behind.ensures _ _ c.has_room.ensures) in
    let law = longer_beyond _ _ _ _ f _ _ class _ room c.if-not-has_room.false _ (c.grows_beyond.ensures _) c.if-grows_beyond.true in
    sym (new_size_way _ _ _ _ f _ c.in-Longer.is ∙ law)

pub overflow_add-result : goal.overflow_add-result
overflow_add-result c =
    let f = c.requires in
    let class = c.class-class.ensures in
    let room = (room_behind _ _ _ _ c.requires c.words_of-behind.ensures _ _ c.has_room.ensures) in
    let grows = c.grows_beyond.ensures _ in
    let ends = longer_fits _ _ _ _ f _ _ class _ room c.if-not-has_room.false _ grows c.if-grows_beyond.false in
    omega (arith, ends, f.sound.ranges.limit_largest)

-- ---- shorter

pub returns-then-not-remains : goal.returns-then-not-remains
returns-then-not-remains c =
    let f = c.requires in
    let law = shorter_too_far _ _ _ _ f _ _ c.class-class.ensures _ c.remains.ensures c.if-not-remains.true in
    sym (new_size_way _ _ _ _ f _ c.in-Shorter.is ∙ law)

pub overflow_sub-result : goal.overflow_sub-result
overflow_sub-result c =
    let class = c.class-class.ensures in
    omega (arith, shorter_fits _ _ _ _ c.requires _ _ class _ c.remains.ensures c.if-not-remains.false)

-- ---- the new sizes

pub returns-else-grows_beyond : goal.returns-else-grows_beyond
returns-else-grows_beyond c =
    let f = c.requires in
    let class = c.class-class.ensures in
    let room = (room_behind _ _ _ _ c.requires c.words_of-behind.ensures _ _ c.has_room.ensures) in
    let grows = c.grows_beyond.ensures _ in
    let law = longer_bytes _ _ _ _ f _ _ class _ room c.if-not-has_room.false _ grows c.if-grows_beyond.false in
    sym (new_size_way _ _ _ _ f _ c.in-Longer.is ∙ law)

pub returns-else-not-remains : goal.returns-else-not-remains
returns-else-not-remains c =
    let f = c.requires in
    let class = c.class-class.ensures in
    let law = shorter_bytes _ _ _ _ f _ _ class _ c.remains.ensures c.if-not-remains.false in
    sym (new_size_way _ _ _ _ f _ c.in-Shorter.is ∙ law)
