-- `edit::new::count_new` meets its contract: it is the count of the gaps, and one for the piece between them.
use native.Mathlib.Omega.{arith}
use Rattle.edit.specs.New.{new_entries}
use Rattle.edit.proofs.NewLaws.{gap_most_lem, with_length}
use Rattle.edit.proofs.new.count_new.Goals as goal

pub overflow_add-result : goal.overflow_add-result
overflow_add-result c = omega (arith, c.count_gap-in-With.ensures, gap_most_lem c.in-With.front)

pub overflow_add-result-in-With : goal.overflow_add-result-in-With
overflow_add-result-in-With c =
    omega (arith, c.count_gap-in-With.ensures, c.count_gap-in-With-2.ensures, gap_most_lem c.in-With.front, gap_most_lem c.in-With.rear)

pub returns-in-Without : goal.returns-in-Without
unfolding new_entries
returns-in-Without c = rw c.in-Without.is c.count_gap.ensures

pub returns-in-With : goal.returns-in-With
returns-in-With c =
    rw (c.in-With.is, with_length) (omega (arith, c.count_gap-in-With.ensures, c.count_gap-in-With-2.ensures))
