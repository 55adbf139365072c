-- `find::find` meets its contract: of entries that rise the last that starts at or before the address decides, as the address lies in no other.
use Prim.Native.Nat.{◌-◌}
use mathlib.Core.Path.{sym, ap, ◌∙◌}
use native.Mathlib.Omega.{arith}
use Rattle.find.proofs.WalkLaws.{none_started, last_start, found_last, behind_last}
use Rattle.find.specs.Find.{told_of}
use Rattle.pieces.proofs.WordLaws.{entry_said}
use Rattle.find.proofs.find.Goals as goal

pub overflow_sub-address : goal.overflow_sub-address
overflow_sub-address c =
    let a = c.args in
    let read = sym (entry_said a.entries.now _ _ c.words_at-words.ensures) in
    let low = last_start a.address a.size a.entries.now _ c.requires _ c.if-started-gt0.true c.started-started.ensures _ read in
    omega (arith, low)

pub returns-then-address-words : goal.returns-then-address-words
returns-then-address-words c =
    let a = c.args in
    let is = sym (entry_said a.entries.now _ _ c.words_at-words.ensures) in
    let last = found_last a.address a.size a.entries.now _ c.requires _ c.if-started-gt0.true c.started-started.ensures _ is in
    c.told.ensures
    ∙ (ap (told_of a.address a.size (c.started-started.result - 1)) c.piece_of.ensures ∙ sym (last c.if-address-words.true))

pub returns-else-address-words : goal.returns-else-address-words
returns-else-address-words c =
    let a = c.args in
    let is = sym (entry_said a.entries.now _ _ c.words_at-words.ensures) in
    sym (behind_last a.address a.size a.entries.now _ c.requires _ c.if-started-gt0.true c.started-started.ensures _ is c.if-address-words.false)

pub returns-else-started-gt0 : goal.returns-else-started-gt0
returns-else-started-gt0 c =
    let a = c.args in
    sym (none_started a.address a.size a.entries.now _ c.requires _ c.if-started-gt0.false c.started-started.ensures)
