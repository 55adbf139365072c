-- `by_value::allocate` meets its contract: 2, where the test fails; and else what was decided, with the summary of the new table, or as it came.
use mathlib.Core.Path.{subst}
use Rattle.by_value.proofs.WithLaws.{sound_agreed, not_placed, refused_placing, placed_with, allocated_fits}
use Rattle.by_value.specs.With.{allocated_with}
use Rattle.space.specs.Halves.{AllocateLeads}
use Rattle.space.proofs.PlaceLaws.{allocated_unsound}
use Rattle.by_value.proofs.allocate.Goals as goal

pub returns-then-not-agrees : goal.returns-then-not-agrees
unfolding allocated_with
returns-then-not-agrees c =
    let a = c.args in
    let unsound = allocated_unsound a.space a.request.code a.request.size a.table.now in
    rw c.refused.ensures (not_placed a.space a.table.now a.given c.agrees.ensures c.if-not-agrees.true _ unsound)

pub decide_allocate-requires : goal.decide_allocate-requires
decide_allocate-requires c =
    let a = c.args in
    sound_agreed a.space a.table.now a.given c.agrees.ensures c.if-not-agrees.false

pub carry_out-requires : goal.carry_out-requires
carry_out-requires c =
    let a = c.args in
    let d = subst (AllocateLeads _ _ _) c.in-Ok.is c.decide_allocate.ensures in
    allocated_fits a.space a.table.now a.given c.agrees.ensures c.if-not-agrees.false a.request.code a.request.size d.1

pub returns-in-Ok : goal.returns-in-Ok
unfolding allocated_with
returns-in-Ok c =
    let a = c.args in
    let d = subst (AllocateLeads _ _ _) c.in-Ok.is c.decide_allocate.ensures in
    let left = c.carry_out.ensures in
    rw c.done.ensures (placed_with a.space a.table.now a.given c.agrees.ensures c.if-not-agrees.false _ left d)

pub returns-in-Err : goal.returns-in-Err
unfolding allocated_with
returns-in-Err c =
    let a = c.args in
    let d = subst (AllocateLeads _ _ _) c.in-Err.is c.decide_allocate.ensures in
    rw c.refused-in-Err.ensures (refused_placing a.space a.table.now a.given c.agrees.ensures c.if-not-agrees.false _ d)
