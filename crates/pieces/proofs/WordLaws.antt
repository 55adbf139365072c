-- Laws of the lent words. Only this file and the proofs of `pieces` know what entry_words is: other proofs cite these laws.
--
-- In this order: lengths; the next entry of a walk; the entries in parts; words, taken, dropped and appended; the two round trips `entries_of_table` and
-- `table_of_entries`; what a table holds; pieces laid one after the other.
--
-- Not here: laws of lists (lib.ListN, lib.Seq). Assumes nothing.
use Prim.Native.Nat.{ℕ, zero, suc, ◌+◌, ◌-◌, ◌*◌, ◌≤◌, ◌<◌}
use mathlib.Core.List.{List, [], ◌∷◌, ◌++◌, append_assoc}
use mathlib.Core.Path.{◌≡◌, refl, sym, ap, ◌∙◌}
use native.Mathlib.Nat.{add-zero, zero-add, sub-zero}
use native.Mathlib.Numerals.{add-one, add-two}
use native.Mathlib.Omega.{arith}
use lib.ListN.{length, get_or, take, drop, set, replicate}
use lib.ListN.{length-append, length-replicate, length-take, length-drop, take-append-drop, get_or-replicate}
use Rattle.std.proofs.lemmas.List.{get_or-take}
use lib.Seq.{drop-cons, ext_get_or, get_or-drop, take_at, drop_at, drop-drop, sets-eq, get_or-append-add}
use Rattle.pieces.proofs.PieceLaws.{kind_of_lem, status_kind, kind_status}
use Rattle.pieces.specs.Pieces.{kind_of, Kind, EntryIs, entry_here, entry_later}
use Rattle.pieces.specs.Words.{entry_words, kind_at, words_at, piece_of, entry_at, entries, words_of, count_in, entries_in, words, table, laid, Zeros, EntriesOfTable, TableOfEntries}
use Rattle.pieces.specs.declared.Piece.{Piece}
use Rattle.pieces.specs.declared.Words.{Words}

-- ---- lengths

pub length_words : (es : List Piece) → length (words es) ≡ length es * entry_words
unfolding words
length_words [] = refl
length_words (x ∷ es) = omega (arith, length_words es)

pub length_table : (len : ℕ) (es : List Piece) → length es * entry_words ≤ len → length (table len es) ≡ len
unfolding table
length_table len es h = simp (length-append, length_words, length-replicate) (omega arith)

pub length_entries : (w : List ℕ) (i k : ℕ) → length (entries w i k) ≡ k
unfolding entries
length_entries w i zero = refl
length_entries w i (suc k) = ap suc (length_entries w (suc i) k)

-- ---- a walk's next entry

-- an entry is the piece that its words say
pub entry_said : (w : List ℕ) (i : ℕ) (u : Words) → u ≡ words_at w i → entry_at w i ≡ piece_of u
unfolding entry_at
entry_said w i u is = ap piece_of (sym is)

pub entries_next : (w : List ℕ) (n i : ℕ) → i < n → entries w i (n - i) ≡ entry_at w i ∷ entries w (i + 1) (n - (i + 1))
unfolding entries
entries_next w n i h =
    let e : n - i ≡ suc (n - (i + 1)) = omega arith in
    rw (e, add-one i)

pub entries_none : (w : List ℕ) (n i : ℕ) → n ≤ i → entries w i (n - i) ≡ []
unfolding entries
entries_none w n i h = let e : n - i ≡ 0 = omega arith in rw e

-- the entries that a walk over words meets
pub entry_read : (w : List ℕ) (j n : ℕ) {i : ℕ} {x : Piece} → EntryIs (entries w j n) i x → (i < n) × (x ≡ entry_at w (j + i))
unfolding entries
entry_read w j zero h = elim h [ ]
entry_read w j (suc n) entry_here = (omega arith, rw add-zero)
entry_read w j (suc n) (entry_later {i = i} e) =
    let h = entry_read w (suc j) n e in
    let k : j + suc i ≡ suc j + i = omega arith in
    (omega (arith, h.0), rw k h.1)

pub entry_is : (w : List ℕ) (n : ℕ) {i : ℕ} {x : Piece} → EntryIs (entries w 0 n) i x → (i < n) × (x ≡ entry_at w i)
entry_is w n {i} e = let r = entry_read w 0 n e in (r.0, r.1 ∙ ap (entry_at w) (zero-add i))

-- ---- the entries in parts

pub entries_append : (w : List ℕ) (i j k : ℕ) → entries w i (j + k) ≡ entries w i j ++ entries w (i + j) k
unfolding entries
entries_append w i zero k = simp (zero-add, add-zero)
entries_append w i (suc j) k =
    let e : suc j + k ≡ suc (j + k) = omega arith in
    let f : i + suc j ≡ suc i + j = omega arith in
    rw (e, f, entries_append w (suc i) j k)

pub entries_parts : (w : List ℕ) (i j n : ℕ) → i ≤ j → j ≤ n → entries w 0 n ≡ entries w 0 i ++ (entries w i (j - i) ++ entries w j (n - j))
entries_parts w i j n l m =
    let e : n ≡ i + ((j - i) + (n - j)) = omega arith in
    let f : i + (j - i) ≡ j = omega arith in
    ap (entries w 0) e
    ∙ (entries_append w 0 i ((j - i) + (n - j))
    ∙ (rw zero-add (ap (λ (l : List Piece). entries w 0 i ++ l) (entries_append w i (j - i) (n - j) ∙ rw f))))

pub entries_halves : (w : List ℕ) (i n : ℕ) → i ≤ n → entries w 0 n ≡ entries w 0 i ++ entries w i (n - i)
unfolding entries
entries_halves w i n l = let z : i - i ≡ 0 = omega arith in entries_parts w i i n (omega arith) l ∙ rw z

pub entries_snoc : (w : List ℕ) (i : ℕ) → entries w 0 (suc i) ≡ entries w 0 i ++ (entry_at w i ∷ [])
unfolding entries
entries_snoc w i =
    let e : suc i ≡ i + 1 = omega arith in
    ap (entries w 0) e ∙ (entries_append w 0 i 1 ∙ rw zero-add)

pub take_entries : (w : List ℕ) (i n : ℕ) → i ≤ n → take i (entries w 0 n) ≡ entries w 0 i
take_entries w i n l = rw (entries_halves w i n l) (take_at (entries w 0 i) (entries w i (n - i)) i (length_entries w 0 i))

pub drop_entries : (w : List ℕ) (i n : ℕ) → i ≤ n → drop i (entries w 0 n) ≡ entries w i (n - i)
drop_entries w i n l = rw (entries_halves w i n l) (drop_at (entries w 0 i) (entries w i (n - i)) i (length_entries w 0 i))

-- ---- the entries in a part of the words

part_word : (w : List ℕ) (j m i k : ℕ) → i * entry_words + k < m
    → get_or (take m (drop (j * entry_words) w)) (i * entry_words + k) 0 ≡ get_or w ((j + i) * entry_words + k) 0
part_word w j m i k h =
    let e : j * entry_words + (i * entry_words + k) ≡ (j + i) * entry_words + k = omega arith in
    rw e at (get_or-take m (drop (j * entry_words) w) (i * entry_words + k) 0 h ∙ get_or-drop (j * entry_words) w (i * entry_words + k) 0)

pub part_kind : (w : List ℕ) (j m i : ℕ) → (i + 1) * entry_words ≤ m → kind_at (take m (drop (j * entry_words) w)) i ≡ kind_at w (j + i)
part_kind w j m i h = part_word w j m i 2 (omega arith)

part_entry : (w : List ℕ) (j m i : ℕ) → (i + 1) * entry_words ≤ m → entry_at (take m (drop (j * entry_words) w)) i ≡ entry_at w (j + i)
unfolding entry_at
part_entry w j m i h =
    let address = rw (add-zero (i * entry_words), add-zero ((j + i) * entry_words)) at (part_word w j m i 0 (omega arith)) in
    rw (address, part_word w j m i 1 (omega arith), part_kind w j m i h)

entries_in_part : (w : List ℕ) (j m i k : ℕ) → (i + k) * entry_words ≤ m → entries (take m (drop (j * entry_words) w)) i k ≡ entries w (j + i) k
unfolding entries
entries_in_part w j m i zero h = refl
entries_in_part w j m i (suc k) h =
    let e : j + suc i ≡ suc (j + i) = omega arith in
    rw (part_entry w j m i (omega arith), entries_in_part w j m (suc i) k (omega arith), e)

module _ (w : List ℕ) (i j : ℕ) (low : i ≤ j) (high : j * entry_words ≤ length w) where
  -- they are as many entries as there are from i up to j
  pub part_count : count_in (words_of w i j) ≡ j - i
  part_count =
      let l : length (words_of w i j) ≡ (j - i) * entry_words = simp (length-take, length-drop) (omega arith) in
      rw l (omega arith)

  pub part_entries : entries_in (words_of w i j) ≡ entries w i (j - i)
  part_entries = rw part_count (rw (add-zero i) at (entries_in_part w i ((j - i) * entry_words) 0 (j - i) (omega arith)))

-- the first n entries
module _ (w : List ℕ) (n : ℕ) (there : n * entry_words ≤ length w) where
  pub front_count : count_in (words_of w 0 n) ≡ n
  front_count = omega (arith, part_count w 0 n (omega arith) there)

  pub front_entries : entries_in (words_of w 0 n) ≡ entries w 0 n
  front_entries = part_entries w 0 n (omega arith) there ∙ ap (entries w 0) (sub-zero n)

  pub front_kind : (i : ℕ) → i < n → kind_at (words_of w 0 n) i ≡ kind_at w i
  front_kind i lt = part_kind w 0 ((n - 0) * entry_words) i (omega arith) ∙ ap (kind_at w) (zero-add i)

  pub front_entry : (i : ℕ) → i < n → entry_at (words_of w 0 n) i ≡ entry_at w i
  front_entry i lt = part_entry w 0 ((n - 0) * entry_words) i (omega arith) ∙ ap (entry_at w) (zero-add i)

-- ---- words of a part

pub words_append : (es fs : List Piece) → words (es ++ fs) ≡ words es ++ words fs
unfolding words
words_append [] fs = refl
words_append (x ∷ es) fs = rw (words_append es fs)

step : (i : ℕ) → suc i * entry_words ≡ suc (suc (suc (i * entry_words)))
step i = omega arith

pub words_take : (i : ℕ) (es : List Piece) → words (take i es) ≡ take (i * entry_words) (words es)
unfolding words
words_take zero es = refl
words_take (suc i) [] = rw (step i)
words_take (suc i) (x ∷ es) = rw (step i, words_take i es)

pub words_drop : (i : ℕ) (es : List Piece) → words (drop i es) ≡ drop (i * entry_words) (words es)
unfolding words
words_drop zero es = refl
words_drop (suc i) [] = rw (step i)
words_drop (suc i) (x ∷ es) = rw (step i, words_drop i es)

-- ---- the round trips

shift_entry : (x y z : ℕ) (w : List ℕ) (i : ℕ) → entry_at (x ∷ y ∷ z ∷ w) (suc i) ≡ entry_at w i
unfolding entry_at
shift_entry x y z w i =
    let a : suc i * entry_words ≡ suc (suc (suc (i * entry_words))) = omega arith in
    let b : suc i * entry_words + 1 ≡ suc (suc (suc (i * entry_words + 1))) = omega arith in
    let c : suc i * entry_words + 2 ≡ suc (suc (suc (i * entry_words + 2))) = omega arith in
    rw (b, c, a)

shift : (x y z : ℕ) (w : List ℕ) (i k : ℕ) → entries (x ∷ y ∷ z ∷ w) (suc i) k ≡ entries w i k
unfolding entries
shift x y z w i zero = refl
shift x y z w i (suc k) = rw (shift_entry x y z w i, shift x y z w (suc i) k)

entries_words : (es : List Piece) (v : List ℕ) → entries (words es ++ v) 0 (length es) ≡ es
unfolding entries words entry_at
entries_words [] v = refl
entries_words (x ∷ es) v =
    rw (shift x.address x.size (kind_of x.status) (words es ++ v) 0 (length es), entries_words es v, status_kind x.status)

pub entries_of_table : EntriesOfTable
unfolding table
entries_of_table len es = entries_words es (replicate (len - length es * entry_words) 0)

words_entries : (w : List ℕ) (i n : ℕ) → (i + n) * entry_words ≤ length w → ((j : ℕ) → i ≤ j → j < i + n → Kind (kind_at w j))
    → words (entries w i n) ≡ take (n * entry_words) (drop (i * entry_words) w)
unfolding words entries entry_at
words_entries w i zero l h = refl
words_entries w i (suc n) l h =
    let e : suc n * entry_words ≡ suc (suc (suc (n * entry_words))) = omega arith in
    let a : drop (i * entry_words) w ≡ get_or w (i * entry_words) 0 ∷ drop (suc (i * entry_words)) w = drop-cons w (i * entry_words) 0 (omega arith) in
    let b : drop (suc (i * entry_words)) w ≡ get_or w (i * entry_words + 1) 0 ∷ drop (suc (suc (i * entry_words))) w =
    rw add-one (drop-cons w (suc (i * entry_words)) 0 (omega arith)) in
    let c : drop (suc (suc (i * entry_words))) w ≡ get_or w (i * entry_words + 2) 0 ∷ drop (suc (suc (suc (i * entry_words)))) w =
    rw add-two (drop-cons w (suc (suc (i * entry_words))) 0 (omega arith)) in
    let d : suc i * entry_words ≡ suc (suc (suc (i * entry_words))) = omega arith in
    let r = words_entries w (suc i) n (omega arith) (λ j x y. h j (omega arith) (omega arith)) in
    rw (e, a, b, c, kind_status (kind_at w i) (h i (omega arith) (omega arith)), r, d)

pub zeros_replicate : (w : List ℕ) (n : ℕ) → Zeros w n → drop (n * entry_words) w ≡ replicate (length w - n * entry_words) 0
zeros_replicate w n z =
    ext_get_or 0 (drop (n * entry_words) w) (replicate (length w - n * entry_words) 0) (simp (length-drop, length-replicate))
    (λ i h. let l : i < length w - n * entry_words = rw length-drop at h in
    get_or-drop (n * entry_words) w i 0 ∙ (z (n * entry_words + i) (omega arith) (omega arith) ∙ sym (get_or-replicate (length w - n * entry_words) i 0 0 l)))

pub table_of_entries : TableOfEntries
unfolding table
table_of_entries w n l h z =
    let e : words (entries w 0 n) ≡ take (n * entry_words) w = words_entries w 0 n (omega arith) (λ j x y. h j (omega arith)) in
    let c : length (entries w 0 n) ≡ n = length_entries w 0 n in
    rw (e, c, ← (zeros_replicate w n z)) (take-append-drop (n * entry_words) w)

-- ---- what a table holds

shift_kind : (x y z : ℕ) (w : List ℕ) (i : ℕ) → kind_at (x ∷ y ∷ z ∷ w) (suc i) ≡ kind_at w i
shift_kind x y z w i = let e : suc i * entry_words + 2 ≡ suc (suc (suc (i * entry_words + 2))) = omega arith in rw e

kinds_words : (es : List Piece) (v : List ℕ) (i : ℕ) → i < length es → Kind (kind_at (words es ++ v) i)
unfolding words
kinds_words [] v i h = absurd (omega arith)
kinds_words (x ∷ es) v zero h = kind_of_lem x.status
kinds_words (x ∷ es) v (suc i) h =
    rw (shift_kind x.address x.size (kind_of x.status) (words es ++ v) i) (kinds_words es v i (omega arith))

pub kinds_of_table : (len : ℕ) (es : List Piece) (i : ℕ) → i < length es → Kind (kind_at (table len es) i)
unfolding table
kinds_of_table len es i h = kinds_words es (replicate (len - length es * entry_words) 0) i h

pub zeros_of_table : (len : ℕ) (es : List Piece) → Zeros (table len es) (length es)
unfolding table
zeros_of_table len es i l h =
    let m : ℕ = len - length es * entry_words in
    let k : ℕ = i - length es * entry_words in
    let e : length (words es) + k ≡ i = omega (arith, length_words es) in
    let f : i < length es * entry_words + m = rw (length-append, length_words, length-replicate) at h in
    rw (← e) (get_or-append-add (words es) (replicate m 0) k 0 ∙ get_or-replicate m k 0 0 (omega arith))

-- ---- pieces laid one after the other

pub laid_one : (w : List ℕ) (i : ℕ) (x : Piece) → (i + 1) * entry_words ≤ length w
    → set (set (set w (i * entry_words) x.address) (i * entry_words + 1) x.size) (i * entry_words + 2) (kind_of x.status) ≡ laid w i (x ∷ [])
unfolding laid words
laid_one w i x h =
    let e : (i + 1) * entry_words ≡ i * entry_words + entry_words = omega arith in
    let v : List ℕ = x.address ∷ x.size ∷ kind_of x.status ∷ [] in
    rw (add-one (i * entry_words), add-two (i * entry_words))
    (sets-eq v w (i * entry_words) (omega arith) ∙ rw e (append_assoc (take (i * entry_words) w) v (drop (i * entry_words + entry_words) w)))

pub laid_none : (w : List ℕ) (i : ℕ) → laid w i [] ≡ w
unfolding laid words
laid_none w i = rw add-zero (take-append-drop (i * entry_words) w)

laid_front : (w : List ℕ) (i : ℕ) (es : List Piece) → (i + length es) * entry_words ≤ length w
    → length (take (i * entry_words) w ++ words es) ≡ (i + length es) * entry_words
laid_front w i es fits = simp (length-append, length_words, length-take) (omega arith)

-- pieces laid behind others are laid with them
pub laid_append : (w : List ℕ) (i : ℕ) (xs ys : List Piece) → (i + length xs) * entry_words ≤ length w
    → laid (laid w i xs) (i + length xs) ys ≡ laid w i (xs ++ ys)
unfolding laid
laid_append w i xs ys fits =
    let m : ℕ = (i + length xs) * entry_words in
    let k : ℕ = length ys * entry_words in
    let f : List ℕ = take (i * entry_words) w ++ words xs in
    let lf : length f ≡ m = laid_front w i xs fits in
    let e : (i + length xs + length ys) * entry_words ≡ m + k = omega arith in
    let g : (i + length (xs ++ ys)) * entry_words ≡ m + k = rw length-append (omega arith) in
    let s : take (i * entry_words) w ++ (words xs ++ drop m w) ≡ f ++ drop m w = sym (append_assoc (take (i * entry_words) w) (words xs) (drop m w)) in
    let back : drop (m + k) (f ++ drop m w) ≡ drop (m + k) w =
    sym (drop-drop k m (f ++ drop m w)) ∙ ap (λ (l : List ℕ). drop k l) (drop_at f (drop m w) m lf) ∙ drop-drop k m w in
    rw (s, take_at f (drop m w) m lf, e, g, back, words_append xs ys) (simp append_assoc)
