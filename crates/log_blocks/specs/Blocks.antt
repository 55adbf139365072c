-- A block of a log (request E6): its number, the count of its records and three zero bytes, the records, zeros, and the check.
--
--   count_at .. records_at  where the fields of a block start; the number starts it
--   most_records            the records of a full block
--   number_in b, count_in b  the number of the block b, and the count of its records
--   records_in b            its records, as many as it counts
--   behind_at b             where the bytes behind them start
--   zerob bs                each of the bytes bs is 0
--   blockb i b              the block b keeps the rules of the block with the number i, whatever follows it
--
-- Assumes nothing.
use Rattle.std.specs.Prelude.{Bool, true, ◌&&◌, List, [], ◌∷◌, ℕ, ◌+◌, ◌*◌, eqb, leb, length, drop}
use Rattle.little.specs.Little.{part, value_at}
use Rattle.log_blocks.specs.Records.{record_bytes, records_from, recordsb}
use Rattle.log_blocks.specs.declared.records.Record.{Record}
use Rattle.log_check.specs.Check.{block_bytes, check_at, checkb}

-- ---- the layout

abbrev pub count_at : ℕ
count_at = 4

abbrev pub head_zeros_at : ℕ
head_zeros_at = 5

abbrev pub records_at : ℕ
records_at = 8

abbrev pub most_records : ℕ
most_records = 12

abbrev pub number_in : List ℕ → ℕ
number_in b = value_at 0 count_at b

abbrev pub count_in : List ℕ → ℕ
count_in b = value_at count_at head_zeros_at b

abbrev pub records_in : List ℕ → List Record
records_in b = records_from (count_in b) (drop records_at b)

abbrev pub behind_at : List ℕ → ℕ
behind_at b = records_at + count_in b * record_bytes

-- ---- the rules

unfoldable pub zerob : List ℕ → Bool
zerob [] = true
zerob (v ∷ bs) = eqb v 0 && zerob bs

-- the number of bytes; the number, the count and the zeros; the records, of which an open is the first of block 0; what is not used; and the check
unfoldable pub blockb : ℕ → List ℕ → Bool
blockb i b =
    eqb (length b) block_bytes
    && (eqb (number_in b) i
    && ((leb 1 (count_in b) && leb (count_in b) most_records)
    && (eqb (value_at head_zeros_at records_at b) 0
    && (recordsb (eqb i 0) (records_in b)
    && (zerob (part (behind_at b) check_at b)
    && checkb b)))))
