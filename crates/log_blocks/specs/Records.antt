-- A record of a log: one call with what the recorder was answered (request E6).
--
--   operation_at .. answer_at  where the fields of a record start
--   record_bytes              the bytes of a record
--   opens .. shortens         the numbers of the operations
--   record_in b               the fields that the bytes b are
--   records_from n b          the first n records in b
--   operationb first o        the first record of a log is an open, and every other one is another operation
--   zerosb r                  the fields that the operation does not use are 0: five bytes behind the refusal; the type and the answer outside
--                             allocate; the address in allocate; the change in allocate and release
--   recordb first r           the record keeps these rules
--   recordsb first rs         each of the records rs does, the first of them as the first of the log or not
--
-- Any type, any refusal number and, of an allocate, any answer keeps them. Assumes nothing.
use Rattle.std.specs.Prelude.{Bool, true, false, cond, ◌&&◌, List, [], ◌∷◌, ℕ, zero, suc, ◌+◌, eqb, leb, take, drop}
use Rattle.little.specs.Little.{word_bytes, value_at}
use Rattle.log_blocks.specs.declared.records.Record.{Record}

-- ---- the layout

abbrev pub operation_at : ℕ
operation_at = 0

abbrev pub code_at : ℕ
code_at = 1

abbrev pub refusal_at : ℕ
refusal_at = 2

abbrev pub zeros_at : ℕ
zeros_at = 3

abbrev pub address_at : ℕ
address_at = 8

abbrev pub size_at : ℕ
size_at = address_at + word_bytes

abbrev pub change_at : ℕ
change_at = size_at + word_bytes

abbrev pub answer_at : ℕ
answer_at = change_at + word_bytes

abbrev pub record_bytes : ℕ
record_bytes = answer_at + word_bytes

abbrev pub record_in : List ℕ → Record
record_in b =
    record {
      operation = value_at operation_at code_at b;
      code = value_at code_at refusal_at b;
      refusal = value_at refusal_at zeros_at b;
      zeros = value_at zeros_at address_at b;
      address = value_at address_at size_at b;
      size = value_at size_at change_at b;
      change = value_at change_at answer_at b;
      answer = value_at answer_at record_bytes b;
    }

unfoldable pub records_from : ℕ → List ℕ → List Record
records_from zero b = []
records_from (suc n) b = record_in (take record_bytes b) ∷ records_from n (drop record_bytes b)

-- ---- the operations

abbrev pub opens : ℕ
opens = 0

abbrev pub allocates : ℕ
allocates = 1

abbrev pub releases : ℕ
releases = 2

abbrev pub extends : ℕ
extends = 3

abbrev pub shortens : ℕ
shortens = 4

-- ---- the rules

unfoldable pub operationb : Bool → ℕ → Bool
operationb first o = cond first (eqb o opens) (leb allocates o && leb o shortens)

unfoldable pub zerosb : Record → Bool
zerosb r =
    eqb r.zeros 0
    && cond (eqb r.operation allocates) (eqb r.address 0 && eqb r.change 0)
    (eqb r.code 0 && (eqb r.answer 0 && cond (eqb r.operation releases) (eqb r.change 0) true))

abbrev pub recordb : Bool → Record → Bool
recordb first r = operationb first r.operation && zerosb r

unfoldable pub recordsb : Bool → List Record → Bool
recordsb first [] = true
recordsb first (r ∷ rs) = recordb first r && recordsb false rs
