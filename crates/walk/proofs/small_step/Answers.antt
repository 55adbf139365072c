-- `walk::small_step` meets its contract: the entry ends at a border, or inside the page.
use Rattle.std.proofs.Common.{◌≤◌, ◌<◌, rules, sym, arith}
use Rattle.walk.proofs.StepLaws.{small_ends, small_inside}
use Rattle.walk.proofs.small_step.Goals as goal

pub returns-then-left-size-2 : goal.returns-then-left-size-2
returns-then-left-size-2 c =
    let a = c.args in
    let some : 1 ≤ a.size = search rules in
    let under : a.size < a.p = search rules in
    sym (small_ends a.p a.walk a.size a.kind some under c.if-left-size-2.true c.requires.1)

pub returns : goal.returns
returns c =
    let a = c.args in
    let some : 1 ≤ a.size = search rules in
    let under : a.size < a.p = search rules in
    sym (small_inside a.p a.walk a.size a.kind some under (omega arith) c.if-left-size-2.false c.requires.0.within)
