use Prim.Native.Nat.{◌≤◌, ◌+◌}
use mathlib.Core.Path.{sym, ◌∙◌}
use native.Mathlib.Omega.{arith}
use lib.ListN.{length, length-set}
use Rattle.pieces.proofs.WordLaws.{entry_said}
use Rattle.pieces.specs.Words.{piece_of}
use Rattle.sections.proofs.SectionLaws.{Writing, writing_none, writing_room, writing_section, writing_other}
use Rattle.sections.specs.Sections.{pair_words}
use Rattle.sections.proofs.write_sections.Goals as goal
use Rattle.sections.proofs.write_sections.Goals.{then-is_free_of, else-is_free_of}

room : (c : goal.Then-is_free_of)
    → c.loop-i.at + pair_words ≤ length c.args.out.now
room c =
    let a = c.args in
    let l = c.loop-i in
    let free = sym c.is_free_of.ensures ∙ c.if-is_free_of.true in
    let read = c.words_at-entry in
    let is = sym (entry_said a.entries.now l.i read.result read.ensures) in
    let among = rw c.count_in-i-end.ensures at c.loop-i-test.true in
    let fits = c.requires in
    writing_room a.class a.entries.now l.i (piece_of read.result) is a.out.now l.out l.at l.invariant free _ among fits

pub loop-i-init : goal.loop-i-init
loop-i-init c = let a = c.args in writing_none a.class a.entries.now a.out.now

pub offset_bounds-out-at : goal.offset_bounds-out-at
offset_bounds-out-at c = omega (arith, room c)

pub bounds-out-at : goal.bounds-out-at
bounds-out-at c = omega (arith, room c)

pub offset_bounds-out-at-then-is_free_of : goal.offset_bounds-out-at-then-is_free_of
offset_bounds-out-at-then-is_free_of c = omega (arith, room c)

pub bounds-out-at-then-is_free_of : goal.bounds-out-at-then-is_free_of
bounds-out-at-then-is_free_of c = simp length-set (omega (arith, room c))

pub overflow_add-at : goal.overflow_add-at
overflow_add-at c = omega (arith, room c)

pub loop-i-preserved : goal.loop-i-preserved
loop-i-preserved c =
    let a = c.args in
    let l = c.loop-i in
    let read = c.words_at-entry in
    let is = sym (entry_said a.entries.now l.i read.result read.ensures) in
    let free = sym c.is_free_of.ensures in
    let section = writing_section a.class a.entries.now l.i (piece_of read.result) is a.out.now l.out l.at l.invariant in
    let other = writing_other a.class a.entries.now l.i (piece_of read.result) is a.out.now l.out l.at l.invariant in
    let next : Writing a.class a.entries.now (l.i + 1) a.out.now c.if-is_free_of.out c.if-is_free_of.at =
    elim c.if-is_free_of.branch [
      | then-is_free_of u ↦
          let full = free ∙ u.if-is_free_of.true in
          let fits = writing_room a.class a.entries.now l.i (piece_of read.result) is a.out.now l.out l.at l.invariant full _ (rw c.count_in-i-end.ensures at c.loop-i-test.true) c.requires in
          section full fits _ u.out-is _ u.at-is
      | else-is_free_of u ↦ other (free ∙ u.if-is_free_of.false) _ u.out-is _ u.at-is
    ] in
    next
