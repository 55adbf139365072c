-- `moves::move_up` meets its contract: whole blocks at the end go up, then the words before them.
use Rattle.std.proofs.Common.{ℕ, ◌≡◌, ◌+◌, ◌-◌, ◌*◌, ◌/◌, ◌%◌, arith}
use Rattle.moves.proofs.MoveLaws.{up_more}
use Rattle.moves.specs.Moves.{move_block}
use Rattle.moves.proofs.move_up.Goals as goal

pub returns : goal.returns
returns c =
    let a = c.args in
    let left : ℕ = a.len % move_block in
    let e : a.from + left - a.from ≡ left = omega arith in
    let words = rw e at c.copy_within.ensures.after in
    up_more a.table.now a.to a.from left (a.len / move_block * move_block) a.len (omega arith) _ _ c.requires.0 c.requires.1 c.blocks_up.ensures words
