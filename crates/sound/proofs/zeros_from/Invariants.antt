-- `sound::zeros_from` meets its contract: the words from `from` on are all 0 just if those that are left are; so many blocks were looked at.
use Rattle.std.proofs.Common.{◌≡◌, drop}
use Rattle.std.specs.Slice.Iter.{chunks_exact_rest, chunks_exact_size}
use Rattle.sound.proofs.ZeroLaws.{Blocks}
use Rattle.sound.proofs.zeros_from.Given as goal

abbrev pub invariant-loop-block : goal.invariant-loop-block
invariant-loop-block l =
    (goal.iterator-loop-block).can_next l.block-iterator
    × (goal.iterator-loop-block).is_finite l.block-iterator
    × (chunks_exact_size l.block-iterator ≡ 144)
    × Blocks 144 (drop l.from l.table) (chunks_exact_rest l.block-iterator)
