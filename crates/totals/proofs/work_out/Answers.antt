use Prim.Native.Nat.{◌+◌}
use mathlib.Core.Path.{◌≡◌, sym, ◌∙◌}
use native.Mathlib.Omega.{arith}
use Rattle.pieces.specs.Words.{count_in}
use Rattle.totals.proofs.CountLaws.{Counted, counted_none, counted_all, sections_fit, decades_fit, bytes_fit}
use Rattle.totals.proofs.CountLaws.{counted_section, counted_other}
use Rattle.totals.proofs.DecadeLaws.{decade_few}
use Rattle.totals.proofs.work_out.Goals as goal
use Rattle.totals.proofs.work_out.Goals.{then-is_free, else-is_free}

pub loop-i-init : goal.loop-i-init
loop-i-init c = counted_none c.args.entries.now

pub overflow_add-sections : goal.overflow_add-sections
overflow_add-sections c =
    let l = c.loop-i in
    let read = c.words_at-entry in
    record { fits = sections_fit c.requires (rw c.count_in-i-end.ensures at c.loop-i-test.true) l.invariant read.result read.ensures c.manager_of-manager.result }

pub overflow_add-bytes : goal.overflow_add-bytes
overflow_add-bytes c =
    let l = c.loop-i in
    let read = c.words_at-entry in
    record { fits = bytes_fit c.requires (rw c.count_in-i-end.ensures at c.loop-i-test.true) l.invariant read.result read.ensures c.manager_of-manager.result }

pub offset_bounds-decades-decade : goal.offset_bounds-decades-decade
offset_bounds-decades-decade c = omega (arith, c.decade_of-decade.ensures, decade_few c.words_at-entry.result.size)

pub bounds-decades-decade : goal.bounds-decades-decade
bounds-decades-decade c = omega (arith, c.decade_of-decade.ensures, decade_few c.words_at-entry.result.size)

pub overflow_add-decades : goal.overflow_add-decades
overflow_add-decades c =
    let l = c.loop-i in
    let read = c.words_at-entry in
    record { fits = decades_fit c.requires (rw c.count_in-i-end.ensures at c.loop-i-test.true) l.invariant read.result read.ensures c.decade_of-decade.result }

pub bounds-decades-decade-then-is_free : goal.bounds-decades-decade-then-is_free
bounds-decades-decade-then-is_free c = omega (arith, c.decade_of-decade.ensures, decade_few c.words_at-entry.result.size)

pub loop-i-preserved : goal.loop-i-preserved
loop-i-preserved c =
    let l = c.loop-i in
    let pre = c.requires in
    let read = c.words_at-entry in
    let among = rw c.count_in-i-end.ensures at c.loop-i-test.true in
    let free = sym c.is_free.ensures in
    let now = c.if-is_free in
    let a = c.args in
    let section = counted_section pre among l.invariant read.result read.ensures in
    let other = counted_other pre among l.invariant read.result read.ensures in
    let next : Counted a.entries.now (l.i + 1) now.sections now.bytes now.largest now.decades =
    elim now.branch [
      | then-is_free u ↦
          section _ _ _ _ (free ∙ u.if-is_free.true) _ _ _ u.manager_of-manager.ensures u.decade_of-decade.ensures u.max.ensures
          u.sections-is u.bytes-is u.largest-is u.decades-is
      | else-is_free u ↦ other _ _ _ _ (free ∙ u.if-is_free.false) u.sections-is u.bytes-is u.largest-is u.decades-is
    ] in
    next

pub returns : goal.returns
returns c =
    let all : c.loop-i.i ≡ count_in c.args.entries.now = omega (arith, c.count_in-i-end.ensures) in
    rw (← all) (counted_all c.loop-i.invariant)
