-- A turn judges the first block of the bytes that are left; behind the last turn none is left.
use Rattle.std.proofs.Common.{◌≡◌, length, min, ◌∙◌}
use Rattle.log_check.specs.Check.{block_bytes}
use Rattle.log_judge.proofs.CutLaws.{left_next, left_end}
use Rattle.log_judge.proofs.next_blocks.Goals as goal

pub loop-block-preserved : goal.loop-block-preserved
loop-block-preserved c =
    let l = c.loop-block in
    let step = c.in-Some.ensures.steps in
    let rest = l.block-iterator.rest.now in
    let long : length c.in-Some.block.now ≡ min block_bytes (length rest) = rw l.invariant.0 at step.1.1 in
    (step.0 ∙ l.invariant.0, left_next c.in-Some.block.now c.next.new.self.rest.now l.invariant.1 step.1.0 long step.1.2 c.next-carried.ensures)

pub returns : goal.returns
returns c = left_end c.loop-block.block-iterator.rest.now c.loop-block.invariant.1 c.in-None.ensures.steps.1.0
