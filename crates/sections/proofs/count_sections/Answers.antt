use Prim.Native.Nat.{ℕ, ◌+◌}
use mathlib.Core.Path.{◌≡◌, sym, ap, ◌∙◌}
use native.Mathlib.Omega.{arith}
use lib.ListN.{length}
use Rattle.pieces.proofs.WordLaws.{entry_said}
use Rattle.pieces.specs.Words.{piece_of}
use Rattle.sections.proofs.SectionLaws.{passed, passed_none, passed_few, count_section, count_other}
use Rattle.sections.proofs.count_sections.Goals as goal
use Rattle.sections.proofs.count_sections.Goals.{then-is_free_of, else-is_free_of}

pub loop-i-init : goal.loop-i-init
loop-i-init c = let a = c.args in ap length (sym (passed_none a.class a.entries.now))

pub overflow_add-count : goal.overflow_add-count
overflow_add-count c =
    let a = c.args in
    let l = c.loop-i in
    omega (arith, passed_few a.class a.entries.now l.i)

pub loop-i-preserved : goal.loop-i-preserved
loop-i-preserved c =
    let a = c.args in
    let l = c.loop-i in
    let read = c.words_at in
    let is = sym (entry_said a.entries.now l.i read.result read.ensures) in
    let free = sym c.is_free_of.ensures in
    let section = count_section a.class a.entries.now l.i (piece_of read.result) is in
    let other = count_other a.class a.entries.now l.i (piece_of read.result) is in
    let next : c.if-is_free_of.count ≡ length (passed a.class a.entries.now (l.i + 1)) =
    elim c.if-is_free_of.branch [
      | then-is_free_of u ↦ u.count-is ∙ ap (λ (k : ℕ). k + 1) l.invariant ∙ sym (section (free ∙ u.if-is_free_of.true))
      | else-is_free_of u ↦ u.count-is ∙ l.invariant ∙ sym (other (free ∙ u.if-is_free_of.false))
    ] in
    next
