-- `log_judge::next_blocks` meets its contract: the blocks that are left decide with what was carried, as all did at first.
use Rattle.std.proofs.Common.{◌≡◌}
use Rattle.log_check.specs.Check.{block_bytes}
use Rattle.log_judge.proofs.CutLaws.{Left}
use Rattle.log_judge.proofs.next_blocks.Given as goal

abbrev pub invariant-loop-block : goal.invariant-loop-block
invariant-loop-block l =
    (l.block-iterator.size ≡ block_bytes) × Left l.initial.carried l.initial.table l.part l.carried l.block-iterator.rest.now l.table
