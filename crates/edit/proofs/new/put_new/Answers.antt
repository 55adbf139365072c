-- `edit::new::put_new` meets its contract: gap, piece and gap are put one after the other, each where the former ends.
use native.Mathlib.Omega.{arith}
use Rattle.edit.specs.New.{new_entries}
use Rattle.edit.proofs.NewLaws.{with_length, put_one, put_append}
use Rattle.edit.proofs.new.put_new.Goals as goal

pub put_gap-requires : goal.put_gap-requires
unfolding new_entries
put_gap-requires c = rw c.in-Without.is at c.requires

pub put_gap-at-requires : goal.put_gap-at-requires
put_gap-at-requires c =
    let fits = rw (c.in-With.is, with_length) at c.requires in
    omega arith

pub put-requires : goal.put-requires
put-requires c =
    let fits = rw (c.in-With.is, with_length) at c.requires in
    let front = c.put_gap-at in
    omega (arith, front.ensures.behind, front.auto.table)

pub overflow_add-at : goal.overflow_add-at
overflow_add-at c =
    let fits = rw (c.in-With.is, with_length) at c.requires in
    let front = c.put_gap-at in
    omega (arith, front.ensures.behind)

pub put_gap-requires-in-With : goal.put_gap-requires-in-With
put_gap-requires-in-With c =
    let fits = rw (c.in-With.is, with_length) at c.requires in
    let front = c.put_gap-at in
    omega (arith, front.ensures.behind, front.auto.table, c.put.auto.table)

pub returns-in-Without : goal.returns-in-Without
unfolding new_entries
returns-in-Without c = rw c.in-Without.is c.put_gap.ensures.words

pub returns-in-With : goal.returns-in-With
unfolding new_entries
returns-in-With c =
    let fits = rw (c.in-With.is, with_length) at c.requires in
    let front = c.put_gap-at in
    let piece = c.put.ensures in
    let rear = c.put_gap-in-With.ensures in
    let both = put_append (omega (arith, front.ensures.behind, front.auto.table)) (put_one piece) rear in
    rw c.in-With.is (put_append (omega (arith, front.ensures.behind)) front.ensures both).words
