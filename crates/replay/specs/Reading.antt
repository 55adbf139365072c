-- What `replay` carries from read to read.
--
--   buffer_bytes    the bytes of the buffer: whole blocks
--   Carried r       the judge fits, and the buffer has room
use Rattle.std.specs.Prelude.{ℕ, ◌*◌, ◌<◌}
use Rattle.log_check.specs.Check.{block_bytes}
use Rattle.log_judge.specs.Carried.{Fits}
use Rattle.replay.specs.declared.Reading.{Reading}

abbrev pub buffer_bytes : ℕ
buffer_bytes = 128 * block_bytes

pub record Carried (r : Reading) : Type 0 where
  pub fits : Fits r.judge
  pub room : r.filled < buffer_bytes
