use mathlib.Core.Path.{◌∙◌}
use native.Mathlib.Omega.{arith}
use Rattle.log_play.specs.Lent.{file_in}
use Rattle.log_play.proofs.PlayLaws.{play_stops, play_next, play_ends}
use Rattle.log_play.proofs.play.Goals as goal

pub returns-then-not-agrees-clause-is : goal.returns-then-not-agrees-clause-is
returns-then-not-agrees-clause-is c =
    let l = c.loop-i in
    let a = c.args in
    let said = c.record_at-said in
    let told = c.hear-told in
    play_stops a.count l.i a.block.now (file_in l.held l.table) said.result (omega arith) said.ensures told.ensures.is (c.agrees.ensures told.new.table)
    c.if-not-agrees.true
    ∙ l.invariant.1

pub loop-i-preserved : goal.loop-i-preserved
loop-i-preserved c =
    let l = c.loop-i in
    let a = c.args in
    let said = c.record_at-said in
    let told = c.hear-told in
    let next =
    play_next a.count l.i a.block.now (file_in l.held l.table) said.result (omega arith) said.ensures told.ensures.is (c.agrees.ensures told.new.table)
    c.if-not-agrees.false in
    (told.ensures.fits, next ∙ l.invariant.1)

pub returns-clause-is : goal.returns-clause-is
returns-clause-is c =
    let l = c.loop-i in
    let a = c.args in
    play_ends a.count l.i a.block.now (file_in l.held l.table) (omega arith) (omega arith) ∙ l.invariant.1
