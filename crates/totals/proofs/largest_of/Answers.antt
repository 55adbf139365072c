use Prim.Native.Nat.{ℕ, ◌+◌, max}
use mathlib.Core.Path.{◌≡◌, sym, ap, ◌∙◌}
use Rattle.pieces.proofs.WordLaws.{entry_said}
use Rattle.pieces.specs.Words.{piece_of}
use Rattle.sections.proofs.SectionLaws.{passed, passed_none, passed_section, passed_other}
use Rattle.totals.proofs.TallyLaws.{largest_one}
use Rattle.totals.specs.Summary.{largest}
use Rattle.totals.proofs.largest_of.Goals as goal
use Rattle.totals.proofs.largest_of.Goals.{then-is_free_of, else-is_free_of}

pub loop-i-init : goal.loop-i-init
unfolding largest
loop-i-init c = let a = c.args in ap largest (sym (passed_none a.class a.entries.now))

pub loop-i-preserved : goal.loop-i-preserved
loop-i-preserved c =
    let a = c.args in
    let l = c.loop-i in
    let read = c.words_at-entry in
    let x = piece_of read.result in
    let is = sym (entry_said a.entries.now l.i read.result read.ensures) in
    let free = sym c.is_free_of.ensures in
    let section = passed_section a.class a.entries.now l.i x is in
    let other = passed_other a.class a.entries.now l.i x is in
    let one = largest_one (passed a.class a.entries.now l.i) x in
    let next : c.if-is_free_of.found ≡ largest (passed a.class a.entries.now (l.i + 1)) =
    elim c.if-is_free_of.branch [
      | then-is_free_of u ↦
          u.found-is ∙ u.max-found.ensures ∙ ap (λ (z : ℕ). max z x.size) l.invariant ∙ sym (ap largest (section (free ∙ u.if-is_free_of.true)) ∙ one)
      | else-is_free_of u ↦ u.found-is ∙ l.invariant ∙ sym (ap largest (other (free ∙ u.if-is_free_of.false)))
    ] in
    next
