-- Records that are played over a lent table: what the code hands back, in the words of Playing.
--
--   table_words         the words of the table that is lent
--   Lent w              it has them
--   FileFits h          the words of the file h lie in it
--   file_in h w         the file that h is, over the lent words w
--   heard_in r w        what r tells, over the lent words w
--   Compares said r t   t is whether the record `said` says what r tells
--   played_in r w       what the run r leaves, over the lent words w
--
-- Assumes nothing.
use Rattle.std.specs.Prelude.{Bool, List, ◌≡◌, ℕ, ◌*◌, ◌≤◌, length, take}
use Rattle.log_blocks.specs.declared.records.Record.{Record}
use Rattle.log_play.specs.Playing.{File, Heard, agreesb, Played}
use Rattle.log_play.specs.declared.Held.{Held}
use Rattle.log_play.specs.declared.Told.{Told}
use Rattle.log_play.specs.declared.Run.{Run}
use Rattle.pieces.specs.Words.{entry_words}
use Rattle.table.specs.Sound.{largest_capacity}

abbrev pub table_words : ℕ
table_words = largest_capacity * entry_words

abbrev pub Lent : List ℕ → Type 0
Lent w = length w ≡ table_words

abbrev pub FileFits : Held → Type 0
FileFits h = h.used ≤ table_words

abbrev pub file_in : Held → List ℕ → File
file_in h w = record { space = h.space; words = take h.used w }

abbrev pub heard_in : Told → List ℕ → Heard
heard_in r w = record { refusal = r.number; answer = r.answer; file = file_in r.file w }

abbrev pub Compares : Record → Told → Bool → Type 0
Compares said r t = (w : List ℕ) → t ≡ agreesb said (heard_in r w)

abbrev pub played_in : Run → List ℕ → Played
played_in r w = record { agreed = r.agreed; file = file_in r.file w }
