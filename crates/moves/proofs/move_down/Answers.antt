-- `moves::move_down` meets its contract: whole blocks go down, then the words behind them.
use Rattle.std.proofs.Common.{ℕ, ◌≡◌, ◌+◌, ◌-◌, ◌*◌, ◌/◌, arith}
use Rattle.moves.proofs.MoveLaws.{down_more}
use Rattle.moves.specs.Moves.{move_block}
use Rattle.moves.proofs.move_down.Goals as goal

pub returns : goal.returns
returns c =
    let a = c.args in
    let k : ℕ = a.len / move_block * move_block in
    let e : a.from + a.len - (a.from + k) ≡ a.len - k = omega arith in
    let words = rw e at c.copy_within.ensures.after in
    down_more a.table.now a.to a.from k (a.len - k) a.len (omega arith) _ _ c.requires.0 c.requires.1 c.blocks_down.ensures words
