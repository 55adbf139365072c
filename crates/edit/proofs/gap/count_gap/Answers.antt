-- `edit::gap::count_gap` meets its contract: each of the three parts has one entry at most.
use native.Mathlib.Omega.{arith}
use Rattle.edit.proofs.NewLaws.{counted_most, gap_length}
use Rattle.edit.proofs.gap.count_gap.Goals as goal

pub overflow_add-result : goal.overflow_add-result
overflow_add-result c = omega (arith, counted_most _ _ _ c.count_free.ensures, counted_most _ _ _ c.count_free-2.ensures)

pub overflow_add-result-2 : goal.overflow_add-result-2
overflow_add-result-2 c =
    let first = counted_most _ _ _ c.count_free.ensures in
    let second = counted_most _ _ _ c.count_free-2.ensures in
    omega (arith, first, second, counted_most _ _ _ c.count_free-3.ensures)

pub returns : goal.returns
returns c =
    let first = c.count_free.ensures in
    omega (arith, gap_length c.args.gap, first, c.count_free-2.ensures, c.count_free-3.ensures)
