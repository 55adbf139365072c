-- What request E6 says of the judgement of a log, and of a log that a recorder writes. Statements alone: each is proved in proofs/, under its name in small
-- letters, and is a field of the one record that is signed (signed/specs/Signed.antt).
--
--   LogDamaged       a log is judged damaged B exactly when B is the first bad block, and every record in the blocks before it agrees
--   LogDiffers       it is judged differs R exactly when R is the first record that does not agree, and its block and all before it are good
--   LogAgrees        it is judged agrees R E exactly when it has a block, all are good, all records agree, they are R, and E is the end after them
--   LogRefusedOpen   an open with C outside 4 to 1,024 is refused 1; after a refused one E is 0, each call is refused 2, an allocate answers 2^64 - 1
--   LogBlocks        the bytes that keep the rules of a block are exactly those that the writer writes of records that fill it, and these are read back
--   LogCut           bytes of whole blocks, and bytes behind them, are cut into the blocks of both; and whole blocks one behind the other into these
--   LogRecorded      the log of a recorded run, over any table and from any state, is judged agrees, with the count of its records and its E
--   LogOfTheRun      the log of document 01's run, over any 36 words, is judged agrees 13 1024
--
-- What the two sums of a block's check are, is LogSums (log_check/specs/Check.antt).
--
-- The words that they use, in their order; those of what a recorder writes are in Recording.antt. Of a list bs of blocks:
--
--   GoodAt bs i         the block i is there, and is good
--   records_of_all bs   the records of all blocks, in their order
--   first_records B bs  those of the first B blocks
--   left_by f rs        the file that the records rs leave when they are played on the file f, whether they agree or not
--   at rs r             the record at the place r
--   AgreesFrom f rs r   the record r is there, and says what its call is told after those before it, played on the file f
--   AgreesAt rs r       the same from the start of a log on
--   DamagedAt bs B, DiffersAt bs R, AgreesWith bs R E    the three judgements
--   joined bs           the bytes of the blocks, one behind the other
--
-- Assumes nothing.
use Rattle.std.specs.Prelude.{true, ◌≡◌, ℕ, suc, ◌*◌, ◌^◌, ◌≤◌, ◌<◌, length, take, drop, get_or}
use mathlib.Core.List.{List, [], ◌∷◌, ◌++◌, Memᴰ}
use Rattle.call.specs.Answered.{answered}
use Rattle.call.specs.declared.Call.{Call}
use Rattle.call.specs.declared.Call.TheVariants.{Allocate}
use Rattle.demands.specs.Calls.{OnSpace, ran}
use Rattle.demands.specs.Calls as calls
use Rattle.demands.specs.Run.{twelve_steps, calls_of}
use Rattle.little.specs.Little.{byte_values, Bytes}
use Rattle.log_blocks.specs.Blocks.{count_at, most_records, records_in, blockb}
use Rattle.log_blocks.specs.Records.{record_in}
use Rattle.log_blocks.specs.declared.records.Record.{Record}
use Rattle.log_check.specs.Check.{block_bytes}
use Rattle.log_judge.specs.Judged.{Agrees, Differs, Damaged, goodb, judged, blocks_of}
use Rattle.log_play.specs.Playing.{File, no_file, hear_open, heard, agreesb}
use Rattle.log_promises.specs.Recording.{block_of, log_of, Word, Fills, records_of, Recordable}
use Rattle.pieces.specs.Words.{entry_words}
use Rattle.refusals.specs.AnswerNumbers.{out_of_range, not_sound, no_address}
use Rattle.space.specs.Opening.{nowhere}
use Rattle.space.specs.Outcomes.{refused}
use Rattle.space.specs.declared.Space.{Space}
use Rattle.table.specs.Sound.{least_capacity, largest_capacity}

-- ---- blocks and records

abbrev pub GoodAt : List (List ℕ) → ℕ → Type 0
GoodAt bs i = (i < length bs) × (goodb i (get_or bs i []) (drop (suc i) bs) ≡ true)

unfoldable pub records_of_all : List (List ℕ) → List Record
records_of_all [] = []
records_of_all (b ∷ bs) = records_in b ++ records_of_all bs

abbrev pub first_records : ℕ → List (List ℕ) → List Record
first_records B bs = records_of_all (take B bs)

unfoldable pub left_by : File → List Record → File
left_by f [] = f
left_by f (r ∷ rs) = left_by (heard r f).file rs

abbrev pub at : List Record → ℕ → Record
at rs r = get_or rs r (record_in [])

abbrev pub AgreesFrom : File → List Record → ℕ → Type 0
AgreesFrom f rs r = (r < length rs) × (agreesb (at rs r) (heard (at rs r) (left_by f (take r rs))) ≡ true)

abbrev pub AgreesAt : List Record → ℕ → Type 0
AgreesAt rs r = AgreesFrom no_file rs r

-- ---- the three judgements

pub record DamagedAt (bs : List (List ℕ)) (B : ℕ) : Type 0 where
  pub before : (i : ℕ) → i < B → GoodAt bs i
  pub bad : GoodAt bs B → ⊥
  -- the block B is there, but for the log without a block
  pub there : 0 < length bs → B < length bs
  pub agree : (r : ℕ) → r < length (first_records B bs) → AgreesAt (first_records B bs) r

pub record DiffersAt (bs : List (List ℕ)) (R : ℕ) : Type 0 where
  pub block : ℕ
  pub good : (i : ℕ) → i ≤ block → GoodAt bs i
  -- the record R is one of this block
  pub from : length (first_records block bs) ≤ R
  pub to : R < length (first_records (suc block) bs)
  pub before : (r : ℕ) → r < R → AgreesAt (first_records (suc block) bs) r
  pub differs : AgreesAt (first_records (suc block) bs) R → ⊥

pub record AgreesWith (bs : List (List ℕ)) (R E : ℕ) : Type 0 where
  pub some : 0 < length bs
  pub good : (i : ℕ) → i < length bs → GoodAt bs i
  pub agree : (r : ℕ) → r < length (records_of_all bs) → AgreesAt (records_of_all bs) r
  pub count : R ≡ length (records_of_all bs)
  pub end : E ≡ (left_by no_file (records_of_all bs)).space.end

pub record LogDamaged : Type 0 where
  pub is : (bs : List (List ℕ)) (B : ℕ) → judged bs ≡ Damaged B → DamagedAt bs B
  pub of : (bs : List (List ℕ)) (B : ℕ) → DamagedAt bs B → judged bs ≡ Damaged B

pub record LogDiffers : Type 0 where
  pub is : (bs : List (List ℕ)) (R : ℕ) → judged bs ≡ Differs R → DiffersAt bs R
  pub of : (bs : List (List ℕ)) (R : ℕ) → DiffersAt bs R → judged bs ≡ Differs R

pub record LogAgrees : Type 0 where
  pub is : (bs : List (List ℕ)) (R E : ℕ) → judged bs ≡ Agrees R E → AgreesWith bs R E
  pub of : (bs : List (List ℕ)) (R E : ℕ) → AgreesWith bs R E → judged bs ≡ Agrees R E

-- ---- openings

pub record LogRefusedOpen : Type 0 where
  pub range : (r : Record) → (least_capacity ≤ r.address → r.address ≤ largest_capacity → ⊥) → (hear_open r).refusal ≡ out_of_range
  pub state : (r : Record) → ((hear_open r).refusal ≡ 0 → ⊥) → (hear_open r).file.space ≡ nowhere
  pub end : nowhere.end ≡ 0
  pub calls : (c : Call) (w : List ℕ) → (answered c nowhere w).outcome ≡ refused not_sound nowhere w
  pub answer : (t s : ℕ) (w : List ℕ) → (answered (Allocate t s) nowhere w).answer ≡ no_address

-- ---- blocks that are written

-- of any bytes b and any number i: a good block is what is written of its records; and what is written is good, and has these records
pub record LogBlocks : Type 0 where
  pub is : (i : ℕ) (b : List ℕ) → Bytes b → blockb i b ≡ true → Fills i (records_in b) × (b ≡ block_of i (records_in b))
  pub of : (i : ℕ) (rs : List Record) → Fills i rs → blockb i (block_of i rs) ≡ true
  pub read : (i : ℕ) (rs : List Record) → Fills i rs → records_in (block_of i rs) ≡ rs

-- ---- blocks as bytes

-- the bytes of the blocks bs, one behind the other
unfoldable pub joined : List (List ℕ) → List ℕ
joined [] = []
joined (b ∷ bs) = b ++ joined bs

pub record LogCut : Type 0 where
  pub parts : (n : ℕ) (x y : List ℕ) → length x ≡ n * block_bytes → blocks_of (x ++ y) ≡ blocks_of x ++ blocks_of y
  pub blocks : (bs : List (List ℕ)) → ((b : List ℕ) → Memᴰ b bs → length b ≡ block_bytes) → blocks_of (joined bs) ≡ bs

-- ---- recorded runs

-- whatever the table of C entries held and whatever the state was before the opening; each number has room in a record, and each block's number in a block
abbrev pub LogRecorded : Type 0
LogRecorded =
    (C P M : ℕ) (cs : List calls.Call) (sp : Space) (w : List ℕ) → length w ≡ C * entry_words → Word C → Recordable (calls.opens P M)
    → ((c : calls.Call) → Memᴰ c cs → OnSpace c) → ((c : calls.Call) → Memᴰ c cs → Recordable c)
    → suc (length cs) ≤ byte_values ^ count_at * most_records
    → judged (log_of (records_of C (calls.opens P M ∷ cs) sp w)) ≡ Agrees (suc (length cs)) (ran (calls.opens P M ∷ cs) sp w).state.end

-- P = 512, M = 5,120 and C = 12, then the twelve steps
abbrev pub LogOfTheRun : Type 0
LogOfTheRun =
    (sp : Space) (w : List ℕ) → length w ≡ 36
    → judged (log_of (records_of 12 (calls.opens 512 5120 ∷ calls_of twelve_steps) sp w)) ≡ Agrees 13 1024
