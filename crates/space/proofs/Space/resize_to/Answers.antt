-- `space::Space::resize_to` meets its contract: the table is settled with the piece at its new size.
use native.Mathlib.Omega.{arith}
use Rattle.space.proofs.GiveLaws.{found_lt, settle_fits, resized_decided}
use Rattle.space.proofs.Space.resize_to.Goals as goal

pub overflow_add-i : goal.overflow_add-i
overflow_add-i c = omega (arith, found_lt _ _ _ _ c.requires.0)

pub with-requires : goal.with-requires
with-requires c =
    let h = c.requires in
    let r = h.0.sound.ranges in
    (settle_fits _ _ _ _ h.0, omega (arith, h.1, r.limit_largest, r.page.largest))

pub returns : goal.returns
returns c = rw c.ok_or.ensures.value (resized_decided _ _ _ _ c.requires.0 _ _ c.with.ensures)
