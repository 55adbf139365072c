-- `space::Space::release_found` meets its contract: the table is settled without the piece.
use native.Mathlib.Omega.{arith}
use Rattle.space.proofs.GiveLaws.{found_lt, settle_fits, released_decided}
use Rattle.space.proofs.Space.release_found.Goals as goal

pub overflow_add-i : goal.overflow_add-i
overflow_add-i c = omega (arith, found_lt _ _ _ _ c.requires)

pub without-requires : goal.without-requires
without-requires c = settle_fits _ _ _ _ c.requires

pub returns : goal.returns
returns c = rw c.ok_or.ensures.value (released_decided _ _ _ _ c.requires _ c.without.ensures)
