-- `change::plan::planned` meets its contract: it puts the parts together.
use native.Mathlib.Omega.{arith}
use Rattle.edit.proofs.NewLaws.{new_most}
use Rattle.change.proofs.plan.planned.Goals as goal

pub overflow_add-result : goal.overflow_add-result
overflow_add-result c = omega (arith, new_most c.args.new, c.count_new-count.ensures)

pub overflow_add-result-2 : goal.overflow_add-result-2
overflow_add-result-2 c = omega (arith, new_most c.args.new, c.count_new-count.ensures)
