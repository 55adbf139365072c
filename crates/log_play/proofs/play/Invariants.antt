-- `log_play::play` meets its contract: behind the records that agreed, those that are left are played on what these left.
use mathlib.Core.Path.{◌≡◌}
use lib.ListN.{drop}
use Rattle.log_blocks.specs.Blocks.{records_at}
use Rattle.log_blocks.specs.Records.{records_from}
use Rattle.log_blocks.proofs.RecordLaws.{records_left}
use Rattle.log_play.specs.Lent.{FileFits, file_in}
use Rattle.log_play.specs.Playing.{played}
use Rattle.log_play.proofs.PlayLaws.{plus}
use Rattle.log_play.proofs.play.Given as goal

abbrev pub invariant-loop-i : goal.invariant-loop-i
invariant-loop-i l =
    FileFits l.held
    × (plus l.i (played (file_in l.held l.table) (records_left l.count l.i l.block)) ≡ played (file_in l.initial.held l.initial.table) (records_from l.count (drop records_at l.block)))
