-- `area_calls::carry_out` meets its contract: what it does not write, the change leaves as it was.
use mathlib.Core.Path.{◌≡◌, ap, ◌∙◌}
use native.Mathlib.Omega.{arith}
use lib.ListN.{length}
use Rattle.area_bytes.proofs.AreaLaws.{length_area}
use Rattle.area_bytes.specs.Area.{area_of, AreaFits}
use Rattle.area_calls.proofs.CallLaws.{carry_most, carry_first, carry_written}
use Rattle.area_calls.proofs.carry_out.Goals as goal

pub put_state-requires : goal.put_state-requires
put_state-requires c =
    let a = c.args in
    let long : length a.area.now ≡ length (area_of a.space a.table.now) = ap length c.requires.0 in
    omega (arith, long, length_area a.space a.table.now)

pub put_entries-requires : goal.put_entries-requires
put_entries-requires c =
    let a = c.args in
    let last = c.max-to.ensures in
    let long : AreaFits a.area.now a.table.now = ap length c.requires.0 ∙ length_area a.space a.table.now in (
      omega (arith, long),
      (carry_first a.space a.table.now a.plan c.requires.1 _ last, omega (arith, carry_most a.space a.table.now a.plan c.requires.1 _ last)),
    )

pub returns : goal.returns
returns c =
    let a = c.args in
    carry_written a.space a.table.now a.plan c.requires.1 _ c.max-to.ensures a.area.now _ _ _ _ c.requires.0 c.carry_out-next.ensures
    c.put_state.ensures c.put_entries.ensures
