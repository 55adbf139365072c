-- `by_value::resize` meets its contract: 2, where the test fails; and else what was decided, with the summary of the new table, or as it came.
use mathlib.Core.Path.{subst}
use Rattle.by_value.proofs.WithLaws.{sound_agreed, not_agreed, refused_with, changed_with, resized_fits}
use Rattle.by_value.specs.With.{resized_with}
use Rattle.space.proofs.GiveLaws.{resized_unsound}
use Rattle.space.specs.Halves.{ResizeLeads}
use Rattle.by_value.proofs.resize.Goals as goal

pub returns-then-not-agrees : goal.returns-then-not-agrees
unfolding resized_with
returns-then-not-agrees c =
    let a = c.args in
    let unsound = resized_unsound a.space a.change.address a.change.size a.way a.change.by a.table.now in
    rw c.refused.ensures (not_agreed a.space a.table.now a.given c.agrees.ensures c.if-not-agrees.true _ unsound)

pub decide_resize-requires : goal.decide_resize-requires
decide_resize-requires c =
    let a = c.args in
    sound_agreed a.space a.table.now a.given c.agrees.ensures c.if-not-agrees.false

pub carry_out-requires : goal.carry_out-requires
carry_out-requires c =
    let a = c.args in
    let d = subst (ResizeLeads _ _ _) c.in-Ok.is c.decide_resize.ensures in
    let sp = a.space in
    let m = a.change in
    resized_fits sp a.table.now a.given c.agrees.ensures c.if-not-agrees.false m.address m.size a.way m.by d

pub returns-in-Ok : goal.returns-in-Ok
unfolding resized_with
returns-in-Ok c =
    let a = c.args in
    let d = subst (ResizeLeads _ _ _) c.in-Ok.is c.decide_resize.ensures in
    let left = c.carry_out.ensures in
    rw c.done.ensures (changed_with a.space a.table.now a.given c.agrees.ensures c.if-not-agrees.false _ left d)

pub returns-in-Err : goal.returns-in-Err
unfolding resized_with
returns-in-Err c =
    let a = c.args in
    let d = subst (ResizeLeads _ _ _) c.in-Err.is c.decide_resize.ensures in
    rw c.refused-in-Err.ensures (refused_with a.space a.table.now a.given c.agrees.ensures c.if-not-agrees.false _ d)
