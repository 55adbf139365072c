-- The log that records a run of calls (request E6): what a recorder writes, and which records and calls it has room for.
--
--   record_bytes_of r       the bytes of a record
--   records_bytes_of rs     those of several, one behind the other
--   front_of i rs           the bytes of a block before its check: the number i, the count of the records rs and three zeros, the records, zeros
--   check_of front          the check of these bytes
--   block_of i rs            the block
--   blocks_from n i rs       n blocks, from the number i on: each has the next twelve records, or what is left
--   log_of rs               the blocks for the records rs
--
--   Word v                  the number v has room in a word
--   RecordFits r            each number of the record r has room in its bytes
--   Kept first rs           each of the records rs fits and keeps the rules, the first of them as the first of the log or not
--   Fills i rs              the records rs fill a block with the number i: it has room for the number, and they are 1 to 12, and are kept
--
--   answer_to c sp w        the answer that is recorded of a call: allocate's address answer, and else 0
--   record_of C c k n       the record of the call c, with the refusal number k and the answer n; an open has room for C entries
--   records_of C cs sp w    the records of the run of the calls cs on the state sp and the words w
--   Recordable c            the numbers of the call c have room in a record
--
-- Assumes nothing.
use Rattle.std.specs.Prelude.{Bool, true, false, List, [], ◌∷◌, ◌++◌, ◌≡◌, ℕ, zero, suc, ◌+◌, ◌-◌, ◌*◌, ◌/◌, ◌^◌, ◌≤◌, ◌<◌, eqb, length, take, drop, replicate}
use Rattle.demands.specs.Calls.{Call, called}
use Rattle.demands.specs.Calls as calls
use Rattle.little.specs.Little.{byte_values, word_bytes, bytes_of}
use Rattle.log_blocks.specs.Blocks.{count_at, head_zeros_at, records_at, most_records}
use Rattle.log_blocks.specs.Records.{record_bytes, zeros_at, address_at, opens, allocates, releases, extends, shortens, recordb}
use Rattle.log_blocks.specs.declared.records.Record.{Record}
use Rattle.log_check.specs.Check.{check_at, short_bytes, shorts_in, sums_of}
use Rattle.space.specs.Placing.{allocated}
use Rattle.space.specs.declared.Space.{Space}

-- ---- bytes

abbrev pub record_bytes_of : Record → List ℕ
record_bytes_of r =
    bytes_of 1 r.operation
    ++ (bytes_of 1 r.code
    ++ (bytes_of 1 r.refusal
    ++ (bytes_of (address_at - zeros_at) r.zeros
    ++ (bytes_of word_bytes r.address
    ++ (bytes_of word_bytes r.size
    ++ (bytes_of word_bytes r.change
    ++ bytes_of word_bytes r.answer))))))

unfoldable pub records_bytes_of : List Record → List ℕ
records_bytes_of [] = []
records_bytes_of (r ∷ rs) = record_bytes_of r ++ records_bytes_of rs

abbrev pub front_of : ℕ → List Record → List ℕ
front_of i rs =
    bytes_of count_at i
    ++ (bytes_of (head_zeros_at - count_at) (length rs)
    ++ (bytes_of (records_at - head_zeros_at) 0
    ++ (records_bytes_of rs ++ replicate (check_at - (records_at + length rs * record_bytes)) 0)))

abbrev pub check_of : List ℕ → List ℕ
check_of front =
    let s = sums_of (shorts_in front) in
    bytes_of short_bytes s.a ++ bytes_of short_bytes s.b

abbrev pub block_of : ℕ → List Record → List ℕ
block_of i rs = front_of i rs ++ check_of (front_of i rs)

unfoldable pub blocks_from : ℕ → ℕ → List Record → List (List ℕ)
blocks_from zero i rs = []
blocks_from (suc n) i rs = block_of i (take most_records rs) ∷ blocks_from n (suc i) (drop most_records rs)

abbrev pub log_of : List Record → List (List ℕ)
log_of rs = blocks_from ((length rs + (most_records - 1)) / most_records) 0 rs

-- ---- records that a block has room for

abbrev pub Word : ℕ → Type 0
Word v = v < byte_values ^ word_bytes

pub record RecordFits (r : Record) : Type 0 where
  pub operation : r.operation < byte_values ^ 1
  pub code : r.code < byte_values ^ 1
  pub refusal : r.refusal < byte_values ^ 1
  pub zeros : r.zeros < byte_values ^ (address_at - zeros_at)
  pub address : Word r.address
  pub size : Word r.size
  pub change : Word r.change
  pub answer : Word r.answer

pub data Kept : Bool → List Record → Type 0 where
  kept_none : {first : Bool} → Kept first []
  kept_more : {first : Bool} {r : Record} {rs : List Record} → RecordFits r → recordb first r ≡ true → Kept false rs → Kept first (r ∷ rs)

pub record Fills (i : ℕ) (rs : List Record) : Type 0 where
  pub number : i < byte_values ^ count_at
  pub least : 1 ≤ length rs
  pub most : length rs ≤ most_records
  pub kept : Kept (eqb i 0) rs

-- ---- runs

abbrev pub answer_to : Call → Space → List ℕ → ℕ
answer_to (calls.opens P M) sp w = 0
answer_to (calls.allocates t s) sp w = (allocated sp t s w).address
answer_to (calls.releases a z) sp w = 0
answer_to (calls.extends a z m) sp w = 0
answer_to (calls.shortens a z k) sp w = 0

abbrev pub record_of : ℕ → Call → ℕ → ℕ → Record
record_of C (calls.opens P M) k n =
    record { operation = opens; code = 0; refusal = k; zeros = 0; address = C; size = P; change = M; answer = n }
record_of C (calls.allocates t s) k n =
    record { operation = allocates; code = t; refusal = k; zeros = 0; address = 0; size = s; change = 0; answer = n }
record_of C (calls.releases a z) k n =
    record { operation = releases; code = 0; refusal = k; zeros = 0; address = a; size = z; change = 0; answer = n }
record_of C (calls.extends a z m) k n =
    record { operation = extends; code = 0; refusal = k; zeros = 0; address = a; size = z; change = m; answer = n }
record_of C (calls.shortens a z m) k n =
    record { operation = shortens; code = 0; refusal = k; zeros = 0; address = a; size = z; change = m; answer = n }

unfoldable pub records_of : ℕ → List Call → Space → List ℕ → List Record
records_of C [] sp w = []
records_of C (c ∷ cs) sp w =
    let o = called c sp w in
    record_of C c o.refusal (answer_to c sp w) ∷ records_of C cs o.state o.words

abbrev pub Recordable : Call → Type 0
Recordable (calls.opens P M) = Word P × Word M
Recordable (calls.allocates t s) = (t < byte_values) × Word s
Recordable (calls.releases a z) = Word a × Word z
Recordable (calls.extends a z m) = Word a × (Word z × Word m)
Recordable (calls.shortens a z k) = Word a × (Word z × Word k)
