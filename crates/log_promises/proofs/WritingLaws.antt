-- A block that is written is read back, and is good.
--
--   kept_take, kept_drop    of records that are kept, some are kept, and those behind; kept-rules, they keep the rules
--   field_read              a number that stands behind others is read back
--   record_read             the bytes of a record are read as that record; records-read of several
--   length_record, length_records_bytes   how many bytes they are
--   zeros_behind rs         the zeros that follow the records rs in a block
--   front_append            the front of a block, with bytes behind it; length_front how many bytes it has
--   number_field, count_field, zeros_field   the fields of a block, each with what stands behind it; behind-zero, behind the records are zeros
--   shorts_read, block_checked               the words of a block that are checked are those of its front, so that it has its check
--   length-block, number_read, count-read, block_read, block-good
--                           a block that records fill has 512 bytes, its number, its count and its records are read back, and it keeps the rules
--
-- Not here: laws of numbers in bytes (little/proofs/LittleLaws.antt) and of the sums (log_check/proofs/CheckLaws.antt).
use Prim.Native.Nat.{ℕ, zero, suc, ◌+◌, ◌-◌, ◌*◌, ◌^◌, ◌≤◌, ◌<◌}
use mathlib.Core.Bool.{Bool, true, false}
use mathlib.Core.List.{List, [], ◌∷◌, ◌++◌, append-nil, append_assoc}
use mathlib.Core.Path.{◌≡◌, refl, sym, ap, ◌∙◌}
use native.Mathlib.Omega.{arith}
use lib.Dec.{lit<, eqb}
use lib.ListN.{length, take, drop, replicate, length-append, length-replicate}
use lib.Seq.{take_at, drop_at, drop-drop}
use borrow.Author.Tests.{eq-eqb, le-leb}
use Rattle.little.proofs.LittleLaws.{length_bytes_of, little_bytes_of, numbers_part}
use Rattle.little.specs.Little.{byte_values, word_bytes, little, bytes_of, part}
use Rattle.log_blocks.specs.Blocks.{count_at, head_zeros_at, records_at, most_records, number_in, count_in, records_in, behind_at, zerob, blockb}
use Rattle.log_blocks.specs.Records.{operation_at, code_at, refusal_at, zeros_at, address_at, size_at, change_at, answer_at, record_bytes}
use Rattle.log_blocks.specs.Records.{record_in, records_from, recordsb}
use Rattle.log_blocks.specs.declared.records.Record.{Record}
use Rattle.log_check.proofs.CheckLaws.{log_sums}
use Rattle.log_check.specs.Check.{block_bytes, short_bytes, check_at, second_at, shorts, shorts_in, sums_of, checkb}
use Rattle.log_check.specs.declared.Sums.{Sums}
use Rattle.log_promises.specs.Recording.{record_bytes_of, records_bytes_of, front_of, check_of, block_of, RecordFits, Kept, kept_none, kept_more, Fills}
use Rattle.pages.proofs.Numbers.{both}

-- ---- records that are kept

pub kept_take : (n : ℕ) {first : Bool} {rs : List Record} → Kept first rs → Kept first (take n rs)
kept_take zero k = kept_none
kept_take (suc n) kept_none = kept_none
kept_take (suc n) (kept_more f e k) = kept_more f e (kept_take n k)

pub kept_drop : (n : ℕ) {first : Bool} {rs : List Record} → Kept first rs → Kept false (drop (suc n) rs)
kept_drop n kept_none = kept_none
kept_drop zero (kept_more f e k) = k
kept_drop (suc n) (kept_more f e k) = kept_drop n k

kept_rules : {first : Bool} {rs : List Record} → Kept first rs → recordsb first rs ≡ true
unfolding recordsb
kept_rules kept_none = refl
kept_rules (kept_more f e k) = both _ _ e (kept_rules k)

-- ---- a field behind others

field_read : (w v from : ℕ) (b rest : List ℕ) → v < byte_values ^ w → drop from b ≡ bytes_of w v ++ rest
    → (little (take w (drop from b)) ≡ v) × (drop (from + w) b ≡ rest)
field_read w v from b rest h e = (
  ap (λ (l : List ℕ). little (take w l)) e ∙ (ap little (take_at (bytes_of w v) rest w (length_bytes_of w v)) ∙ little_bytes_of w v h),
  sym (drop-drop w from b) ∙ (ap (λ (l : List ℕ). drop w l) e ∙ drop_at (bytes_of w v) rest w (length_bytes_of w v)),
)

-- ---- records

pub record_read : (r : Record) → RecordFits r → record_in (record_bytes_of r) ≡ r
record_read r h =
    let b = record_bytes_of r in
    let f0 = field_read 1 r.operation operation_at b _ h.operation refl in
    let f1 = field_read 1 r.code code_at b _ h.code f0.1 in
    let f2 = field_read 1 r.refusal refusal_at b _ h.refusal f1.1 in
    let f3 = field_read (address_at - zeros_at) r.zeros zeros_at b _ h.zeros f2.1 in
    let f4 = field_read word_bytes r.address address_at b _ h.address f3.1 in
    let f5 = field_read word_bytes r.size size_at b _ h.size f4.1 in
    let f6 = field_read word_bytes r.change change_at b _ h.change f5.1 in
    let f7 = field_read word_bytes r.answer answer_at b [] h.answer (f6.1 ∙ sym (append-nil _)) in
    λ i. record {
      operation = f0.0 i;
      code = f1.0 i;
      refusal = f2.0 i;
      zeros = f3.0 i;
      address = f4.0 i;
      size = f5.0 i;
      change = f6.0 i;
      answer = f7.0 i;
    }

length_record : (r : Record) → length (record_bytes_of r) ≡ record_bytes
length_record r = simp (length-append, length_bytes_of)

length_records_bytes : (rs : List Record) → length (records_bytes_of rs) ≡ length rs * record_bytes
unfolding records_bytes_of
length_records_bytes [] = refl
length_records_bytes (r ∷ rs) =
    length-append (record_bytes_of r) (records_bytes_of rs) ∙ rw (length_record r, length_records_bytes rs) (omega arith)

records_read : {first : Bool} {rs : List Record} (rest : List ℕ) → Kept first rs → records_from (length rs) (records_bytes_of rs ++ rest) ≡ rs
unfolding records_from records_bytes_of
records_read rest kept_none = refl
records_read rest (kept_more {r = r} {rs = rs} f e k) =
    let a = append_assoc (record_bytes_of r) (records_bytes_of rs) rest in
    let t = take_at (record_bytes_of r) (records_bytes_of rs ++ rest) record_bytes (length_record r) in
    let d = drop_at (record_bytes_of r) (records_bytes_of rs ++ rest) record_bytes (length_record r) in
    let one = ap (λ (l : List ℕ). record_in (take record_bytes l)) a ∙ (ap record_in t ∙ record_read r f) in
    let others = ap (λ (l : List ℕ). records_from (length rs) (drop record_bytes l)) a ∙ (ap (records_from (length rs)) d ∙ records_read rest k) in
    λ i. one i ∷ others i

zeros_zero : (n : ℕ) → zerob (replicate n 0) ≡ true
unfolding zerob
zeros_zero zero = refl
zeros_zero (suc n) = zeros_zero n

-- ---- a block

abbrev pub zeros_behind : List Record → List ℕ
zeros_behind rs = replicate (check_at - (records_at + length rs * record_bytes)) 0

pub front_append : (i : ℕ) (rs : List Record) (rest : List ℕ) → front_of i rs ++ rest
    ≡ bytes_of count_at i ++ (bytes_of 1 (length rs) ++ (bytes_of 3 0 ++ (records_bytes_of rs ++ (zeros_behind rs ++ rest))))
front_append i rs rest = regroup (bytes_of count_at i) (bytes_of 1 (length rs)) (bytes_of 3 0) (records_bytes_of rs) (zeros_behind rs)
  where
    regroup : (a b c d e : List ℕ) → (a ++ (b ++ (c ++ (d ++ e)))) ++ rest ≡ a ++ (b ++ (c ++ (d ++ (e ++ rest))))
    regroup a b c d e = simp append_assoc

sum_fits : (ws : List ℕ) → ((sums_of ws).a < byte_values ^ short_bytes) × ((sums_of ws).b < byte_values ^ short_bytes)
sum_fits ws = (rw (log_sums.first ws) (omega arith), rw (log_sums.second ws) (omega arith))

pub length_front : (i : ℕ) (rs : List Record) → length rs ≤ most_records → length (front_of i rs) ≡ check_at
length_front i rs h = simp (length-append, length_bytes_of, length_records_bytes, length-replicate) (omega arith)

module _ (i : ℕ) (rs : List Record) (h : Fills i rs) where
  front_long : length (front_of i rs) ≡ check_at
  front_long = length_front i rs h.most

  length_check : length (check_of (front_of i rs)) ≡ block_bytes - check_at
  length_check = simp (length-append, length_bytes_of)

  pub length_block : length (block_of i rs) ≡ block_bytes
  length_block = length-append (front_of i rs) (check_of (front_of i rs)) ∙ rw (front_long, length_check)

  abbrev behind_records : List ℕ
  behind_records = zeros_behind rs ++ check_of (front_of i rs)

  -- the number, the count and the zeros in front of the records, each with what stands behind it
  number_field : (little (take count_at (block_of i rs)) ≡ i)
      × (drop count_at (block_of i rs) ≡ bytes_of 1 (length rs) ++ (bytes_of 3 0 ++ (records_bytes_of rs ++ behind_records)))
  number_field = field_read count_at i 0 (block_of i rs) _ h.number (front_append i rs (check_of (front_of i rs)))

  count_field : (count_in (block_of i rs) ≡ length rs) × (drop head_zeros_at (block_of i rs) ≡ bytes_of 3 0 ++ (records_bytes_of rs ++ behind_records))
  count_field = field_read 1 (length rs) count_at (block_of i rs) _ (omega (arith, h.most)) number_field.1

  zeros_field : (little (take 3 (drop head_zeros_at (block_of i rs))) ≡ 0) × (drop records_at (block_of i rs) ≡ records_bytes_of rs ++ behind_records)
  zeros_field = field_read 3 0 head_zeros_at (block_of i rs) _ (lit< tt) count_field.1

  pub number_read : number_in (block_of i rs) ≡ i
  number_read = number_field.0

  pub count_read : count_in (block_of i rs) ≡ length rs
  count_read = count_field.0

  pub block_read : records_in (block_of i rs) ≡ rs
  block_read =
      ap (λ (n : ℕ). records_from n (drop records_at (block_of i rs))) count_read
      ∙ (ap (records_from (length rs)) zeros_field.1 ∙ records_read behind_records h.kept)

  -- behind the records
  behind_zero : zerob (part (behind_at (block_of i rs)) check_at (block_of i rs)) ≡ true
  behind_zero =
      let n = length rs * record_bytes in
      let d : drop (records_at + n) (block_of i rs) ≡ behind_records =
      sym (drop-drop n records_at (block_of i rs))
      ∙ (ap (λ (l : List ℕ). drop n l) zeros_field.1 ∙ drop_at (records_bytes_of rs) behind_records n (length_records_bytes rs)) in
      let k = check_at - (records_at + n) in
      ap (λ (m : ℕ). zerob (part (records_at + m * record_bytes) check_at (block_of i rs))) count_read
      ∙ (ap (λ (l : List ℕ). zerob (take k l)) d
      ∙ (ap zerob (take_at (zeros_behind rs) (check_of (front_of i rs)) k (length-replicate k 0)) ∙ zeros_zero k))

  -- ---- its check

  shorts_read : shorts_in (block_of i rs) ≡ shorts_in (front_of i rs)
  shorts_read =
      sym (numbers_part short_bytes shorts 0 (block_of i rs))
      ∙ ap shorts_in (take_at (front_of i rs) (check_of (front_of i rs)) check_at front_long)

  block_checked : checkb (block_of i rs) ≡ true
  unfolding checkb
  block_checked =
      let s = sums_of (shorts_in (front_of i rs)) in
      let fit = sum_fits (shorts_in (front_of i rs)) in
      let a = field_read short_bytes s.a check_at (block_of i rs) _ fit.0 (drop_at (front_of i rs) (check_of (front_of i rs)) check_at front_long) in
      let b = field_read short_bytes s.b second_at (block_of i rs) [] fit.1 (a.1 ∙ sym (append-nil _)) in
      let same = ap sums_of shorts_read in
      both _ _ (eq-eqb _ _ (a.0 ∙ sym (ap (λ (t : Sums). t.a) same))) (eq-eqb _ _ (b.0 ∙ sym (ap (λ (t : Sums). t.b) same)))

  -- ---- it is good

  pub block_good : blockb i (block_of i rs) ≡ true
  unfolding blockb
  block_good =
      let least : 1 ≤ count_in (block_of i rs) = rw count_read h.least in
      let most : count_in (block_of i rs) ≤ most_records = rw count_read h.most in
      both _ _ (eq-eqb _ _ length_block)
      (both _ _ (eq-eqb _ _ number_read)
      (both _ _ (both _ _ (le-leb _ _ least) (le-leb _ _ most))
      (both _ _ (eq-eqb _ _ zeros_field.0)
      (both _ _ (ap (recordsb (eqb i 0)) block_read ∙ kept_rules h.kept)
      (both _ _ behind_zero block_checked)))))
