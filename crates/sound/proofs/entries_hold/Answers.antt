use mathlib.Core.Path.{sym, ◌∙◌}
use Rattle.sound.proofs.WalkLaws.{standing_start, standing_walked, standing_on, standing_broken, standing_end}
use Rattle.sound.proofs.entries_hold.Goals as goal

pub loop-i-init : goal.loop-i-init
loop-i-init c = rw c.start-walk.ensures (standing_start _ _ _ _)

pub advance-requires : goal.advance-requires
advance-requires c =
    let l = c.loop-i in
    standing_walked c.requires l.invariant c.loop-i-test.true

pub returns-in_default : goal.returns-in_default
returns-in_default c =
    let l = c.loop-i in
    let among = c.loop-i-test.true in
    let read = c.words_at-entry.ensures in
    let broken = sym c.advance.ensures ∙ c.in_default.is in
    sym (standing_broken c.requires l.invariant among _ read broken)

pub loop-i-preserved : goal.loop-i-preserved
loop-i-preserved c =
    let l = c.loop-i in
    let among = c.loop-i-test.true in
    let read = c.words_at-entry.ensures in
    let on = sym c.advance.ensures ∙ c.in-Some.is in
    standing_on c.requires l.invariant among _ read _ on

pub returns : goal.returns
returns c =
    let l = c.loop-i in
    standing_end c.requires l.invariant c.loop-i-test.false
