-- `by_value::release` meets its contract: 2, where the test fails; and else what was decided, with the summary of the new table, or as it came.
use mathlib.Core.Path.{subst}
use Rattle.by_value.proofs.WithLaws.{sound_agreed, not_agreed, refused_with, changed_with, released_fits}
use Rattle.by_value.specs.With.{released_with}
use Rattle.space.proofs.GiveLaws.{released_unsound}
use Rattle.space.specs.Halves.{ReleaseLeads}
use Rattle.by_value.proofs.release.Goals as goal

pub returns-then-not-agrees : goal.returns-then-not-agrees
unfolding released_with
returns-then-not-agrees c =
    let a = c.args in
    let unsound = released_unsound a.space a.named.address a.named.size a.table.now in
    rw c.refused.ensures (not_agreed a.space a.table.now a.given c.agrees.ensures c.if-not-agrees.true _ unsound)

pub decide_release-requires : goal.decide_release-requires
decide_release-requires c =
    let a = c.args in
    sound_agreed a.space a.table.now a.given c.agrees.ensures c.if-not-agrees.false

pub carry_out-requires : goal.carry_out-requires
carry_out-requires c =
    let a = c.args in
    let d = subst (ReleaseLeads _ _ _) c.in-Ok.is c.decide_release.ensures in
    released_fits a.space a.table.now a.given c.agrees.ensures c.if-not-agrees.false a.named.address a.named.size d

pub returns-in-Ok : goal.returns-in-Ok
unfolding released_with
returns-in-Ok c =
    let a = c.args in
    let d = subst (ReleaseLeads _ _ _) c.in-Ok.is c.decide_release.ensures in
    let left = c.carry_out.ensures in
    rw c.done.ensures (changed_with a.space a.table.now a.given c.agrees.ensures c.if-not-agrees.false _ left d)

pub returns-in-Err : goal.returns-in-Err
unfolding released_with
returns-in-Err c =
    let a = c.args in
    let d = subst (ReleaseLeads _ _ _) c.in-Err.is c.decide_release.ensures in
    rw c.refused-in-Err.ensures (refused_with a.space a.table.now a.given c.agrees.ensures c.if-not-agrees.false _ d)
