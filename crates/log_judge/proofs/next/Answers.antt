-- `log_judge::next` meets its contract: damage behind a last block; what stands, or the block decides.
use Rattle.log_judge.proofs.JudgeLaws.{after_last}
use Rattle.log_judge.proofs.next.Goals as goal

pub returns-then-judge : goal.returns-then-judge
returns-then-judge c =
    let a = c.args in
    rw c.damaged.ensures (after_last a.judge a.table.now _ a.block.now c.requires.1 c.if-judge.true)
