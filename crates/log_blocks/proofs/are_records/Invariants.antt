-- `log_blocks::are_records` meets its contract: what is left of the records decides, since those before keep the rules.
use Rattle.std.proofs.Common.{◌≡◌, ◌&&◌, nat_eq, drop}
use Rattle.log_blocks.specs.Blocks.{records_at}
use Rattle.log_blocks.specs.Records.{records_from, recordsb}
use Rattle.log_blocks.proofs.RecordLaws.{records_left}
use Rattle.log_blocks.proofs.are_records.Given as goal

abbrev pub invariant-loop-i : goal.invariant-loop-i
invariant-loop-i l =
    recordsb (l.first && nat_eq l.i 0) (records_left l.count l.i l.block) ≡ recordsb l.first (records_from l.count (drop records_at l.block))
