-- `sound::is_sound` meets its contract: the three parts of the local test, in its order; the ranges make the walk safe.
use Rattle.std.proofs.Common.{arith}
use Rattle.pages.proofs.Numbers.{passes}
use Rattle.table.proofs.LocalLaws.{ranges_true}
use Rattle.table.proofs.Theorems.{count_fits}
use Rattle.sound.proofs.is_sound.Goals as goal

pub entries_hold-requires : goal.entries_hold-requires
entries_hold-requires c =
    let ranges = ranges_true _ _ _ _ _ (passes c.in_ranges.ensures c.if-not-in_ranges.false) in
    record {
      page = ranges.page;
      end = omega (arith, ranges.end_limit, ranges.limit_largest);
      count = omega (arith, count_fits ranges, ranges.slice.largest);
      fits = count_fits ranges;
    }

pub overflow_mul-n : goal.overflow_mul-n
overflow_mul-n c =
    let ranges = ranges_true _ _ _ _ _ (passes c.in_ranges.ensures c.if-not-in_ranges.false) in
    omega (arith, count_fits ranges, ranges.slice.largest)

pub zeros_from-requires : goal.zeros_from-requires
zeros_from-requires c = count_fits (ranges_true _ _ _ _ _ (passes c.in_ranges.ensures c.if-not-in_ranges.false))
