-- `area_calls::call` meets its contract: what is read out of the area is refused 2 where it is not sound, and else what was decided is written, or told.
use lib.ListN.{get_or}
use borrow.Author.Rules.{rules}
use mir.Syntax.{w8}
use mir.Val.{Fits}
use Rattle.area_calls.proofs.CallLaws.{held, told_unsound, told_done, told_refused}
use Rattle.little.specs.Little.{Bytes}
use Rattle.pages.proofs.Numbers.{fails}
use Rattle.space.proofs.OutcomeLaws.{tested}
use Rattle.area_calls.proofs.call.Goals as goal

pub returns-then-not-is_sound : goal.returns-then-not-is_sound
returns-then-not-is_sound c =
    let a = c.args in
    let got = c.read-space in
    told_unsound a.area.now c.requires.area got.result _ got.ensures.0 got.ensures.1 a.asked (fails c.is_sound.ensures c.if-not-is_sound.true)

pub decide-requires : goal.decide-requires
decide-requires c = tested c.read-space.result _ c.is_sound.ensures c.if-not-is_sound.false

pub carry_out-requires : goal.carry_out-requires
carry_out-requires c =
    let b = c.args.area.now in
    let got = c.read-space in
    let bytes : Bytes b = λ i. let e : Fits w8 (get_or b i 0) = search rules in e.fits in
    (held b c.requires.area got.result _ got.ensures.0 got.ensures.1 bytes, c.in-Ok.ensures.1.fits)

pub returns-in-Ok : goal.returns-in-Ok
returns-in-Ok c =
    let a = c.args in
    let got = c.read-space in
    told_done a.area.now c.requires.area got.result _ got.ensures.0 got.ensures.1 a.asked c.in-Ok.ensures c.carry_out.ensures

pub returns-in-Err : goal.returns-in-Err
returns-in-Err c =
    let a = c.args in
    let got = c.read-space in
    told_refused a.area.now c.requires.area got.result _ got.ensures.0 got.ensures.1 a.asked c.in-Err.ensures
