-- The laws of an area in bytes.
--
--   area_lengths                  the test of a length is the rule; area_fits, area_most, what it says of the lengths of the parts
--   length_head, length_area      how many bytes there are
--   head_laid, area_laid          a head that is written word by word, and the table behind it
--   head_over, entries_over       a head, and a part of the table, laid over an area
--   area_read, area_written       what is read out of an area is that area, and the other way round
--
-- Not here: laws of numbers in bytes (little/proofs/LittleLaws.antt).
use Prim.Native.Nat.{ℕ, ◌+◌, ◌-◌, ◌*◌, ◌/◌, ◌%◌, ◌≤◌}
use mathlib.Core.Bool.{true}
use mathlib.Core.List.{List, [], ◌++◌, append-nil, append_assoc}
use mathlib.Core.Path.{◌≡◌, refl, sym, ap, ◌∙◌}
use native.Mathlib.Omega.{arith}
use lib.Dec.{leb, eqb}
use lib.ListN.{length, take, drop, get_or, length-append, take-append-drop, drop_of_length-le}
use lib.Seq.{length-take-le, take_at, take-add, drop_at, drop-drop}
use borrow.Rule.Slice.PartMut.{put_mid}
use borrow.Author.Tests.{leb-true, eqb-true, le-leb, eq-eqb}
use Rattle.area_bytes.specs.Area.{page_at, limit_at, end_at, count_at, table_at, AreaLength, table_words, area_lengthb}
use Rattle.area_bytes.specs.Area.{state_in, state_words, head_of, area_of, AreaLengths, AreaRead, AreaWritten}
use Rattle.little.proofs.LittleLaws.{length_bytes_of, length_numbers, length_bytes_of_all, numbers_bytes_of_all, bytes_of_all_numbers, bytes_of_all_append}
use Rattle.little.proofs.LittleLaws.{numbers_add, below_append, take_part, Laid, laid_none, laid_next, laid_back}
use Rattle.little.specs.Little.{word_bytes, bytes_of, numbers, bytes_of_all, part, laid}
use Rattle.pages.proofs.Numbers.{and_left, and_right, both}
use Rattle.pieces.specs.Words.{entry_words}
use Rattle.space.specs.declared.Space.{Space}
use Rattle.table.specs.Local.{table_lengthb}
use Rattle.table.specs.Sound.{least_capacity, largest_capacity}

-- ---- lengths

-- the three tests of a length by themselves
area_parts : (len : ℕ) → area_lengthb len ≡ true → (table_at ≤ len) × (((len - table_at) % word_bytes ≡ 0) × (table_lengthb (table_words len) ≡ true))
unfolding area_lengthb
area_parts len e =
    let rest = and_right (leb table_at len) _ e in (
      leb-true table_at len (and_left (leb table_at len) _ e),
      (eqb-true ((len - table_at) % word_bytes) 0 (and_left (eqb ((len - table_at) % word_bytes) 0) _ rest), and_right (eqb ((len - table_at) % word_bytes) 0) _ rest),
    )

pub area_fits : (len : ℕ) → area_lengthb len ≡ true → (table_at ≤ len) × (len ≡ table_at + table_words len * word_bytes)
area_fits len e = let p = area_parts len e in (p.0, omega (arith, p.0, p.1.0))

pub area_most : (len : ℕ) → area_lengthb len ≡ true → table_words len ≤ largest_capacity * entry_words
unfolding table_lengthb
area_most len e =
    let t = (area_parts len e).1.1 in
    let u = and_right (eqb (table_words len % entry_words) 0) _ t in
    leb-true (table_words len) (largest_capacity * entry_words) (and_right (leb (least_capacity * entry_words) (table_words len)) _ u)

pub area_lengths : AreaLengths
unfolding area_lengthb table_lengthb
area_lengths len = (to, from)
  where
    to : AreaLength len → area_lengthb len ≡ true
    to r =
        let C = r.capacity in
        let low : table_at ≤ len = omega (arith, r.is) in
        let whole : (len - table_at) % word_bytes ≡ 0 = omega (arith, r.is) in
        let words : table_words len ≡ C * entry_words = omega (arith, r.is) in
        let entries : table_words len % entry_words ≡ 0 = omega (arith, words) in
        let least : least_capacity * entry_words ≤ table_words len = omega (arith, words, r.least) in
        let most : table_words len ≤ largest_capacity * entry_words = omega (arith, words, r.largest) in
        both _ _ (le-leb table_at len low)
        (both _ _ (eq-eqb ((len - table_at) % word_bytes) 0 whole)
        (both _ _ (eq-eqb (table_words len % entry_words) 0 entries) (both _ _ (le-leb _ _ least) (le-leb _ _ most))))

    from : area_lengthb len ≡ true → AreaLength len
    from e =
        let p = area_parts len e in
        let t = p.1.1 in
        let u = and_right (eqb (table_words len % entry_words) 0) _ t in
        let entries = eqb-true (table_words len % entry_words) 0 (and_left (eqb (table_words len % entry_words) 0) _ t) in
        let least = leb-true (least_capacity * entry_words) (table_words len) (and_left (leb (least_capacity * entry_words) (table_words len)) _ u) in
        record {
          capacity = table_words len / entry_words;
          is = omega (arith, p.0, p.1.0, entries);
          least = omega (arith, least);
          largest = omega (arith, area_most len e);
        }

pub length_head : (sp : Space) → length (head_of sp) ≡ table_at
length_head sp = length_bytes_of_all word_bytes (state_words sp)

pub length_area : (sp : Space) (w : List ℕ) → length (area_of sp w) ≡ table_at + length w * word_bytes
length_area sp w = length-append (head_of sp) (bytes_of_all word_bytes w) ∙ rw (length_head sp, length_bytes_of_all word_bytes w)

-- ---- laid over an area

-- the four parts were lent one after the other, and each came back with its word
pub head_laid : (sp : Space) (b : List ℕ) {p m e n : List ℕ} → p ≡ bytes_of word_bytes sp.page → m ≡ bytes_of word_bytes sp.limit
    → e ≡ bytes_of word_bytes sp.end → n ≡ bytes_of word_bytes sp.count
    → put_mid count_at word_bytes (put_mid end_at word_bytes (put_mid limit_at word_bytes (put_mid page_at word_bytes b p) m) e) n ≡ laid 0 table_at (head_of sp) b
unfolding bytes_of_all
head_laid sp b {p} {m} {e} {n} eP eM eE en =
    let P = bytes_of word_bytes sp.page in
    let M = bytes_of word_bytes sp.limit in
    let E = bytes_of word_bytes sp.end in
    let N = bytes_of word_bytes sp.count in
    let b1 = put_mid page_at word_bytes b p in
    let b2 = put_mid limit_at word_bytes b1 m in
    let b3 = put_mid end_at word_bytes b2 e in
    let b4 = put_mid count_at word_bytes b3 n in
    let one : Laid b P b1 limit_at =
    laid_next (laid_none b) limit_at P (length_bytes_of word_bytes sp.page) (omega arith) (laid_back page_at limit_at b (omega arith) eP) in
    let two : Laid b (P ++ M) b2 end_at =
    laid_next one end_at M (length_bytes_of word_bytes sp.limit) (omega arith) (laid_back limit_at end_at b1 (omega arith) eM) in
    let three : Laid b ((P ++ M) ++ E) b3 count_at =
    laid_next two count_at E (length_bytes_of word_bytes sp.end) (omega arith) (laid_back end_at count_at b2 (omega arith) eE) in
    let four : Laid b (((P ++ M) ++ E) ++ N) b4 table_at =
    laid_next three table_at N (length_bytes_of word_bytes sp.count) (omega arith) (laid_back count_at table_at b3 (omega arith) en) in
    let is : ((P ++ M) ++ E) ++ N ≡ P ++ (M ++ (E ++ (N ++ []))) = simp (append_assoc, append-nil) refl in
    four.whole ∙ ap (λ (l : List ℕ). l ++ drop table_at b) is

pub head_over : (sp new : Space) (w : List ℕ) → laid 0 table_at (head_of new) (area_of sp w) ≡ area_of new w
head_over sp new w = ap (λ (l : List ℕ). head_of new ++ l) (drop_at (head_of sp) (bytes_of_all word_bytes w) table_at (length_head sp))

-- the head c was laid over b, and all that stands behind it was lent and came back with the words
pub area_laid : (sp : Space) (b c w : List ℕ) {q : List ℕ} → c ≡ laid 0 table_at (head_of sp) b → table_at ≤ length c → q ≡ bytes_of_all word_bytes w
    → put_mid table_at (length c - table_at) c q ≡ area_of sp w
area_laid sp b c w e h f =
    let front : take table_at c ≡ head_of sp = ap (λ (l : List ℕ). take table_at l) e ∙ take_at (head_of sp) (drop table_at b) table_at (length_head sp) in
    let all : length c ≤ length c = omega arith in
    let none : drop (length c) c ≡ [] = drop_of_length-le c all in
    laid_back table_at (length c) c h f ∙ rw (front, none, append-nil)

-- the bytes of the first words of several, and of those behind them
all_split : (i : ℕ) (w : List ℕ) → bytes_of_all word_bytes w ≡ bytes_of_all word_bytes (take i w) ++ bytes_of_all word_bytes (drop i w)
all_split i w = ap (bytes_of_all word_bytes) (sym (take-append-drop i w)) ∙ bytes_of_all_append word_bytes (take i w) (drop i w)

length_front : (i : ℕ) (w : List ℕ) → i ≤ length w → length (bytes_of_all word_bytes (take i w)) ≡ i * word_bytes
length_front i w h = length_bytes_of_all word_bytes (take i w) ∙ rw (length-take-le i w h)

all_take : (i : ℕ) (w : List ℕ) → i ≤ length w → take (i * word_bytes) (bytes_of_all word_bytes w) ≡ bytes_of_all word_bytes (take i w)
all_take i w h = ap (λ (l : List ℕ). take (i * word_bytes) l) (all_split i w) ∙ take_at (bytes_of_all word_bytes (take i w)) _ (i * word_bytes) (length_front i w h)

all_drop : (i : ℕ) (w : List ℕ) → i ≤ length w → drop (i * word_bytes) (bytes_of_all word_bytes w) ≡ bytes_of_all word_bytes (drop i w)
all_drop i w h = ap (λ (l : List ℕ). drop (i * word_bytes) l) (all_split i w) ∙ drop_at (bytes_of_all word_bytes (take i w)) _ (i * word_bytes) (length_front i w h)

-- v is w but for the words from i up to j, which were laid over those of w
pub entries_over : (sp : Space) (w v : List ℕ) (i j : ℕ) → i ≤ j → j ≤ length w → length v ≡ length w → take i v ≡ take i w → drop j v ≡ drop j w
    → laid (table_at + i * word_bytes) (table_at + j * word_bytes) (bytes_of_all word_bytes (part i j v)) (area_of sp w) ≡ area_of sp v
entries_over sp w v i j h l n front back =
    let H = head_of sp in
    let B = bytes_of_all word_bytes w in
    let Q = bytes_of_all word_bytes (part i j v) in
    let before : take (table_at + i * word_bytes) (H ++ B) ≡ H ++ bytes_of_all word_bytes (take i v) =
    take-add table_at (i * word_bytes) (H ++ B)
    ∙ rw (take_at H B table_at (length_head sp), drop_at H B table_at (length_head sp), all_take i w (omega arith), front) in
    let behind : drop (table_at + j * word_bytes) (H ++ B) ≡ bytes_of_all word_bytes (drop j v) =
    sym (drop-drop (j * word_bytes) table_at (H ++ B)) ∙ rw (drop_at H B table_at (length_head sp), all_drop j w l, back) in
    let whole : bytes_of_all word_bytes v ≡ bytes_of_all word_bytes (take i v) ++ (Q ++ bytes_of_all word_bytes (drop j v)) =
    all_split j v
    ∙ ap (λ (u : List ℕ). bytes_of_all word_bytes u ++ bytes_of_all word_bytes (drop j v)) (sym (take_part i j v h))
    ∙ rw (bytes_of_all_append word_bytes (take i v) (part i j v)) (append_assoc (bytes_of_all word_bytes (take i v)) Q (bytes_of_all word_bytes (drop j v))) in
    rw (before, behind, whole) (append_assoc H (bytes_of_all word_bytes (take i v)) (Q ++ bytes_of_all word_bytes (drop j v)))

-- ---- read and written

abbrev head_words : ℕ
head_words = table_at / word_bytes

head_numbers : (b : List ℕ) → state_words (state_in b) ≡ numbers word_bytes head_words b
unfolding numbers
head_numbers b = rw (drop-drop 8 8 b, drop-drop 8 16 b)

pub area_read : AreaRead
area_read b h e =
    let k = table_words (length b) in
    let l : length b ≡ (head_words + k) * word_bytes = omega (arith, (area_fits (length b) e).1) in
    rw (
      head_numbers b,
      ← bytes_of_all_append word_bytes (numbers word_bytes head_words b) (numbers word_bytes k (drop table_at b)),
      ← numbers_add word_bytes head_words k b,
    )
    (bytes_of_all_numbers word_bytes (head_words + k) b h l)

pub area_written : AreaWritten
area_written sp w h =
    let A = area_of sp w in
    let all : A ≡ bytes_of_all word_bytes (state_words sp ++ w) = sym (bytes_of_all_append word_bytes (state_words sp) w) in
    let many : length (state_words sp ++ w) ≡ head_words + length w = length-append (state_words sp) w in
    let back : numbers word_bytes head_words A ++ numbers word_bytes (length w) (drop table_at A) ≡ state_words sp ++ w =
    sym (numbers_add word_bytes head_words (length w) A)
    ∙ ap (λ (n : ℕ). numbers word_bytes n A) (sym many)
    ∙ ap (numbers word_bytes (length (state_words sp ++ w))) all
    ∙ numbers_bytes_of_all word_bytes (state_words sp ++ w) (below_append word_bytes (state_words sp) w h.0 h.1) in
    let long = length_numbers word_bytes head_words A in
    let state : state_words (state_in A) ≡ state_words sp =
    head_numbers A ∙ (sym (take_at (numbers word_bytes head_words A) _ head_words long) ∙ ap (λ (l : List ℕ). take head_words l) back) in
    let words : numbers word_bytes (length w) (drop table_at A) ≡ w =
    sym (drop_at (numbers word_bytes head_words A) _ head_words long) ∙ ap (λ (l : List ℕ). drop head_words l) back in
    let n : table_words (length A) ≡ length w = omega (arith, length_area sp w) in (
      λ i. record { page = get_or (state i) 0 0; limit = get_or (state i) 1 0; end = get_or (state i) 2 0; count = get_or (state i) 3 0 },
      ap (λ (m : ℕ). numbers word_bytes m (drop table_at A)) n ∙ words,
    )
