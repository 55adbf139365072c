-- `edit::splice::shift` meets its contract: a move down leaves words behind, which are cleared; a move up goes over zeros; entries that
-- stay at their place have the zeros behind them already.
use borrow.Author.Rules.{rules}
use Rattle.edit.proofs.EditLaws.{shift_none, shift_up, shift_down}
use Rattle.edit.proofs.splice.shift.Goals as goal

pub returns-then-a-j : goal.returns-then-a-j
returns-then-a-j c =
    let a = c.args in
    shift_none a.table.now a.n a.a a.j c.requires c.if-a-j.true

pub returns-then-a-j-2 : goal.returns-then-a-j-2
returns-then-a-j-2 c =
    let a = c.args in
    let fits = c.requires in
    let moved = c.move_down.ensures in
    let cleared = c.clear.ensures in
    shift_down a.table.now a.n a.a a.j fits _ _ (search rules) moved cleared

pub returns-else-a-j-2 : goal.returns-else-a-j-2
returns-else-a-j-2 c =
    let a = c.args in
    let fits = c.requires in
    let moved = c.move_up.ensures in
    shift_up a.table.now a.n a.a a.j fits _ (search rules) moved
