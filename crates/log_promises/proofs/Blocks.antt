-- The good blocks are exactly those that the writer writes: no two blocks of bytes have one number and the same records.
--
--   field_written       a part is the bytes of its number; field_is, of a number that is known
--   record_written      40 bytes are those of the record that they are read as; records-written of several
--   zeros_written       bytes that are 0 are zeros
--   record_room         numbers that are read have room in their bytes; records-kept, so the records of a good block are kept
--   its, front, g       the records of a good block, the front that is written of them, and the rules that it keeps
--   behind_written, its_written, front_whole   its bytes before the check are those that are written: from the end, behind the records, from the
--                       first of them, from the number; check-written of its check
--   its_block           so is the block; its-fill, its records fill one
--   blocks              the statement
use Prim.Native.Nat.{ℕ, zero, suc, ◌+◌, ◌-◌, ◌*◌, ◌≤◌}
use mathlib.Core.Bool.{Bool, true, false}
use mathlib.Core.List.{List, [], ◌∷◌, ◌++◌, append-nil}
use mathlib.Core.Path.{◌≡◌, refl, sym, ap, ◌∙◌}
use native.Mathlib.Omega.{arith}
use lib.Dec.{eqb, lit≤}
use lib.ListN.{length, take, drop, replicate, length-drop, take-append-drop, drop_of_length-le}
use lib.Seq.{length-take-le, take_at, take-add, drop-drop}
use borrow.Author.Tests.{eqb-true}
use Rattle.little.proofs.LittleLaws.{bytes_drop, bytes_take, bytes_of_part, length_part, value_lt, numbers_part}
use Rattle.little.specs.Little.{word_bytes, little, bytes_of, part, value_at, Bytes}
use Rattle.log_blocks.proofs.BlockLaws as block
use Rattle.log_blocks.proofs.BlockLaws.{good_kept, block_number}
use Rattle.log_blocks.proofs.RecordLaws.{length_records}
use Rattle.log_blocks.specs.Blocks.{count_at, head_zeros_at, records_at, count_in, records_in, behind_at, zerob, blockb}
use Rattle.log_blocks.specs.Records.{operation_at, code_at, refusal_at, zeros_at, address_at, size_at, change_at, answer_at, record_bytes}
use Rattle.log_blocks.specs.Records.{record_in, records_from, recordb, recordsb}
use Rattle.log_blocks.specs.declared.records.Record.{Record}
use Rattle.log_check.specs.Check.{block_bytes, short_bytes, check_at, second_at, shorts, shorts_in, sums_of, checkb}
use Rattle.log_check.specs.declared.Sums.{Sums}
use Rattle.log_promises.proofs.WritingLaws.{front_append, length_front, block_read, block_good}
use Rattle.log_promises.specs.Logs.{LogBlocks}
use Rattle.log_promises.specs.Recording.{record_bytes_of, records_bytes_of, front_of, check_of, block_of, RecordFits, Kept, kept_none, kept_more, Fills}
use Rattle.pages.proofs.Numbers.{and_left, and_right}

-- ---- a field behind others

field_written : (w from : ℕ) (b : List ℕ) {rest : List ℕ} → Bytes b → from + w ≤ length b → rest ≡ drop (from + w) b
    → bytes_of w (little (take w (drop from b))) ++ rest ≡ drop from b
field_written w from b h l e =
    let long : length (take w (drop from b)) ≡ w = length-take-le w (drop from b) (simp length-drop (omega arith)) in
    let is = bytes_of_part w (take w (drop from b)) (bytes_take w (drop from b) (bytes_drop from b h)) long in
    (λ i. is i ++ (e ∙ sym (drop-drop w from b)) i) ∙ take-append-drop w (drop from b)

-- ---- records

record_written : (b : List ℕ) → Bytes b → length b ≡ record_bytes → record_bytes_of (record_in b) ≡ b
record_written b h l =
    let short : length b ≤ record_bytes = omega arith in
    let f7 = sym (append-nil _) ∙ next word_bytes answer_at (lit≤ tt) (sym (drop_of_length-le b short)) in
    let f6 = next word_bytes change_at (lit≤ tt) f7 in
    let f5 = next word_bytes size_at (lit≤ tt) f6 in
    let f4 = next word_bytes address_at (lit≤ tt) f5 in
    let f3 = next (address_at - zeros_at) zeros_at (lit≤ tt) f4 in
    next 1 operation_at (lit≤ tt) (next 1 code_at (lit≤ tt) (next 1 refusal_at (lit≤ tt) f3))
  where
    next : (w from : ℕ) {rest : List ℕ} → from + w ≤ record_bytes → rest ≡ drop (from + w) b
        → bytes_of w (little (take w (drop from b))) ++ rest ≡ drop from b
    next w from k e = field_written w from b h (omega arith) e

records_written : (n : ℕ) (b : List ℕ) → Bytes b → n * record_bytes ≤ length b → records_bytes_of (records_from n b) ≡ take (n * record_bytes) b
unfolding records_from records_bytes_of
records_written zero b h l = refl
records_written (suc n) b h l =
    let e : record_bytes + n * record_bytes ≡ suc n * record_bytes = omega arith in
    let one = record_written (take record_bytes b) (bytes_take record_bytes b h) (length-take-le record_bytes b (omega arith)) in
    let others = records_written n (drop record_bytes b) (bytes_drop record_bytes b h) (simp length-drop (omega arith)) in
    (λ i. one i ++ others i) ∙ (sym (take-add record_bytes (n * record_bytes) b) ∙ ap (λ (k : ℕ). take k b) e)

zeros_written : (bs : List ℕ) → zerob bs ≡ true → replicate (length bs) 0 ≡ bs
unfolding zerob
zeros_written [] e = refl
zeros_written (v ∷ bs) e =
    let one : 0 ≡ v = sym (eqb-true v 0 (and_left _ _ e)) in
    let others = zeros_written bs (and_right (eqb v 0) _ e) in
    λ i. one i ∷ others i

-- ---- the records of a good block

record_room : (b : List ℕ) → Bytes b → RecordFits (record_in b)
record_room b h =
    record {
      operation = value_lt operation_at code_at b h;
      code = value_lt code_at refusal_at b h;
      refusal = value_lt refusal_at zeros_at b h;
      zeros = value_lt zeros_at address_at b h;
      address = value_lt address_at size_at b h;
      size = value_lt size_at change_at b h;
      change = value_lt change_at answer_at b h;
      answer = value_lt answer_at record_bytes b h;
    }

records_kept : (n : ℕ) (first : Bool) (b : List ℕ) → Bytes b → recordsb first (records_from n b) ≡ true → Kept first (records_from n b)
unfolding records_from recordsb
records_kept zero first b h e = kept_none
records_kept (suc n) first b h e =
    let r = record_in (take record_bytes b) in
    kept_more (record_room (take record_bytes b) (bytes_take record_bytes b h)) (and_left (recordb first r) _ e)
    (records_kept n false (drop record_bytes b) (bytes_drop record_bytes b h) (and_right (recordb first r) _ e))

-- ---- a block

-- a field that is known
field_is : (w v from : ℕ) (b : List ℕ) {rest : List ℕ} → Bytes b → from + w ≤ length b → little (take w (drop from b)) ≡ v
    → rest ≡ drop (from + w) b → bytes_of w v ++ rest ≡ drop from b
field_is w v from b {rest} h l e f = ap (λ (n : ℕ). bytes_of w n ++ rest) (sym e) ∙ field_written w from b h l f

module _ (i : ℕ) (b : List ℕ) (bytes : Bytes b) (good : blockb i b ≡ true) where
  abbrev g : block.Kept i b
  g = (good_kept i b good).0

  abbrev its : List Record
  its = records_in b

  abbrev front : List ℕ
  front = front_of i its

  long_enough : (n : ℕ) → n ≤ block_bytes → n ≤ length b
  long_enough n l = rw g.full l

  count_is : length its ≡ count_in b
  count_is = length_records (count_in b) (drop records_at b)

  behind_within : behind_at b ≤ check_at
  behind_within = omega (arith, g.most)

  behind_written : replicate (check_at - behind_at b) 0 ++ drop check_at b ≡ drop (behind_at b) b
  behind_written =
      let l = length_part (behind_at b) check_at b behind_within (long_enough check_at (lit≤ tt)) in
      let z = ap (λ (n : ℕ). replicate n 0) (sym l) ∙ zeros_written (part (behind_at b) check_at b) g.behind in
      let n : behind_at b + (check_at - behind_at b) ≡ check_at = omega (arith, g.most) in
      let d = drop-drop (check_at - behind_at b) (behind_at b) b ∙ ap (λ (k : ℕ). drop k b) n in
      (λ j. z j ++ sym d j) ∙ take-append-drop (check_at - behind_at b) (drop (behind_at b) b)

  its_written : records_bytes_of its ++ drop (behind_at b) b ≡ drop records_at b
  its_written =
      let n = count_in b * record_bytes in
      let l : n ≤ length (drop records_at b) = simp length-drop (omega (arith, g.most, g.full)) in
      let r = records_written (count_in b) (drop records_at b) (bytes_drop records_at b bytes) l in
      (λ j. r j ++ sym (drop-drop n records_at b) j) ∙ take-append-drop n (drop records_at b)

  front_whole : front ++ drop check_at b ≡ b
  front_whole =
      let behind = ap (λ (n : ℕ). replicate (check_at - (records_at + n * record_bytes)) 0 ++ drop check_at b) count_is ∙ behind_written in
      let records = ap (λ (l : List ℕ). records_bytes_of its ++ l) behind ∙ its_written in
      let zeros = field_is (records_at - head_zeros_at) 0 head_zeros_at b bytes (long_enough records_at (lit≤ tt)) g.head records in
      let count = field_is 1 (length its) count_at b bytes (long_enough head_zeros_at (lit≤ tt)) (sym count_is) zeros in
      front_append i its (drop check_at b) ∙ field_is count_at i 0 b bytes (long_enough count_at (lit≤ tt)) g.number count

  shorts_same : shorts_in b ≡ shorts_in front
  shorts_same =
      let t = take_at front (drop check_at b) check_at (length_front i its (rw count_is g.most)) in
      sym (numbers_part short_bytes shorts 0 b) ∙ ap shorts_in (ap (λ (l : List ℕ). take check_at l) (sym front_whole) ∙ t)

  check_written : check_of front ≡ drop check_at b
  unfolding checkb
  check_written =
      let short : length b ≤ block_bytes = omega (arith, g.full) in
      let checks = (good_kept i b good).1 in
      let same = ap sums_of shorts_same in
      let a = eqb-true _ _ (and_left (eqb (value_at check_at second_at b) (sums_of (shorts_in b)).a) _ checks) ∙ ap (λ (t : Sums). t.a) same in
      let c = eqb-true _ _ (and_right (eqb (value_at check_at second_at b) (sums_of (shorts_in b)).a) _ checks) ∙ ap (λ (t : Sums). t.b) same in
      let second = sym (append-nil _) ∙ field_is short_bytes _ second_at b bytes (long_enough block_bytes (lit≤ tt)) c (sym (drop_of_length-le b short)) in
      field_is short_bytes _ check_at b bytes (long_enough second_at (lit≤ tt)) a second

  its_block : b ≡ block_of i its
  its_block = sym (ap (λ (l : List ℕ). front ++ l) check_written ∙ front_whole)

  its_fill : Fills i its
  its_fill =
      record {
        number = block_number i b bytes good;
        least = rw count_is g.some;
        most = rw count_is g.most;
        kept = records_kept (count_in b) (eqb i 0) (drop records_at b) (bytes_drop records_at b bytes) g.records;
      }

pub log_blocks_lem : LogBlocks
log_blocks_lem = record { is = λ i b h e. (its_fill i b h e, its_block i b h e); of = block_good; read = block_read }
