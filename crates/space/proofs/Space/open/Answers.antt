-- `space::Space::open` meets its contract: the ranges decide, and of an accepted table every word is cleared.
use mathlib.Core.Path.{sym}
use Rattle.pages.proofs.Numbers.{passes, fails}
use Rattle.space.proofs.OpenLaws.{opened_refused, opened_done}
use Rattle.space.proofs.Space.open.Goals as goal

pub returns-then-not-in_ranges : goal.returns-then-not-in_ranges
returns-then-not-in_ranges c =
    let a = c.args in
    let refused = fails c.in_ranges.ensures c.if-not-in_ranges.true in
    rw c.answers.ensures (sym (opened_refused a.page a.limit a.table.now refused))

pub returns : goal.returns
returns c =
    let a = c.args in
    let may = passes c.in_ranges.ensures c.if-not-in_ranges.false in
    let zeros = c.clear_all.ensures in
    rw c.answers-2.ensures (sym (rw (← zeros) at (opened_done a.page a.limit a.table.now may)))
