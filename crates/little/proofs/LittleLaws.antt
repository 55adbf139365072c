-- The laws of numbers in bytes, over the width.
--
-- In this order: parts of bytes are bytes; `little` of one byte more and of a word, and its bound; `bytes_of`, also as bytes that are stored one by
-- one, and how it and `little` undo each other; the same of several numbers; parts at places; several numbers in parts; one number more, as a loop over several goes on.
--
-- Not here: laws of lists (lib.Seq), of `/`, `%` and `^` (native.Mathlib.Nat). Assumes nothing.
use Prim.Native.Nat.{ℕ, zero, suc, ◌+◌, ◌-◌, ◌*◌, ◌/◌, ◌%◌, ◌^◌, ◌≤◌, ◌<◌, zero-le}
use mathlib.Core.List.{List, [], ◌∷◌, ◌++◌, append-nil, append_assoc}
use mathlib.Core.Path.{◌≡◌, refl, sym, ap, ◌∙◌}
use Rattle.std.specs.Int.{w64, byte_at, bytes_low_first, to_le_bytes, from_le_bytes}
use native.Mathlib.Nat.{div-div-eq-div-mul, sub-zero, zero-sub, suc-sub-suc, lt_of_lt_of_le, pow-succ', pow-le-pow_right, mod-lt, div-add-mod}
use native.Mathlib.Numerals.{add-one}
use native.Mathlib.Omega.{arith}
use lib.Dec.{lit<}
use lib.ListN.{length, take, drop, get_or, set, replicate, length-append, length-take, length-drop, take-append-drop, drop_of_length-le}
use lib.Seq.{drop-cons, length-take-le, take_all, take-suc, take-suc-set, append_snoc, get_or-drop, take_at, drop_at, drop-append-add}
use lib.Seq.{drop-drop, set_split, take-take, take-add, take-nil}
use borrow.Rule.Slice.PartMut.{put_mid, Post-is}
use Rattle.little.specs.Little.{byte_values, word_bytes, little, bytes_of, numbers, bytes_of_all, part, value_at, laid, Bytes, Below}

pow_pos : (w : ℕ) → 0 < byte_values ^ w
pow_pos w = let p : byte_values ^ 0 ≤ byte_values ^ w = pow-le-pow_right (lit< tt) zero-le in p

-- ---- bytes

pub bytes_tail : (b : ℕ) (bs : List ℕ) → Bytes (b ∷ bs) → Bytes bs
bytes_tail b bs h i = h (suc i)

-- what is below a bound in a list is so behind its front, and in it
below_drop_at : (m n : ℕ) (vs : List ℕ) → ((i : ℕ) → get_or vs i 0 < m) → (i : ℕ) → get_or (drop n vs) i 0 < m
below_drop_at m n vs h i = rw (get_or-drop n vs i 0) (h (n + i))

below_take_at : (m : ℕ) → 0 < m → (n : ℕ) (vs : List ℕ) → ((i : ℕ) → get_or vs i 0 < m) → (i : ℕ) → get_or (take n vs) i 0 < m
below_take_at m p zero vs h i = p
below_take_at m p (suc n) [] h i = p
below_take_at m p (suc n) (v ∷ vs) h zero = h zero
below_take_at m p (suc n) (v ∷ vs) h (suc i) = below_take_at m p n vs (λ j. h (suc j)) i

pub bytes_drop : (n : ℕ) (bs : List ℕ) → Bytes bs → Bytes (drop n bs)
bytes_drop = below_drop_at byte_values

pub bytes_take : (n : ℕ) (bs : List ℕ) → Bytes bs → Bytes (take n bs)
bytes_take = below_take_at byte_values (lit< tt)

-- ---- one number

little_cons : (bs : List ℕ) (i : ℕ) → i < length bs → little (drop i bs) ≡ get_or bs i 0 + byte_values * little (drop (suc i) bs)
unfolding little
little_cons bs i h = ap little (drop-cons bs i 0 h)

-- a byte more before those passed, as the reader goes down
pub passed_more : (bs front rest t : List ℕ) (x : ℕ) → bs ≡ front ++ t → front ≡ rest ++ x ∷ [] → bs ≡ rest ++ x ∷ t
passed_more bs front rest t x e f = e ∙ rw f (append_assoc rest (x ∷ []) t)

-- the eight bytes of a word, as the standard library reads them
pub little_word : (b : List ℕ) → length b ≡ word_bytes → from_le_bytes w64 b ≡ little b
unfolding little
little_word b l =
    let at : (i : ℕ) → i < word_bytes → little (drop i b) ≡ get_or b i 0 + byte_values * little (drop (suc i) b) = λ i h. little_cons b i (omega arith) in
    let short : length b ≤ 8 = omega arith in
    let none : little (drop 8 b) ≡ 0 = ap little (drop_of_length-le b short) in
    omega (arith, at 0 (lit< tt), at 1 (lit< tt), at 2 (lit< tt), at 3 (lit< tt), at 4 (lit< tt), at 5 (lit< tt), at 6 (lit< tt), at 7 (lit< tt), none)

pub little_lt : (bs : List ℕ) → Bytes bs → little bs < byte_values ^ length bs
unfolding little
little_lt [] h = lit< tt
little_lt (b ∷ bs) h =
    omega (arith, h 0, little_lt bs (bytes_tail b bs h), pow-succ' byte_values (length bs))

pub little_take_lt : (w : ℕ) (bs : List ℕ) → Bytes bs → little (take w bs) < byte_values ^ w
little_take_lt w bs h =
    lt_of_lt_of_le (little_lt (take w bs) (bytes_take w bs h)) (pow-le-pow_right (lit< tt) (simp length-take (omega arith)))

pub little_fits : (bs : List ℕ) → Bytes bs → length bs ≤ 8 → little bs < 2 ^ 64
little_fits bs h l =
    let p : byte_values ^ length bs ≤ byte_values ^ 8 = pow-le-pow_right (lit< tt) l in
    omega (arith, little_lt bs h, p)

pub passed_fits : (bs front t : List ℕ) → Bytes bs → length bs ≤ 8 → bs ≡ front ++ t → little t < 2 ^ 64
passed_fits bs front t h l e =
    let behind : drop (length front) bs ≡ t = rw e (drop_at front t (length front) refl) in
    let b : Bytes t = rw behind at (bytes_drop (length front) bs h) in
    little_fits t b (omega (arith, ap length e, length-append front t))

pub length_bytes_of : (w v : ℕ) → length (bytes_of w v) ≡ w
unfolding bytes_of
length_bytes_of zero v = refl
length_bytes_of (suc w) v = ap suc (length_bytes_of w (v / byte_values))

-- a byte more behind, as the writer goes up
pub bytes_of_up : (out : List ℕ) (i n rest : ℕ) → i < n → length out ≡ n
    → take (i + 1) (set out i (rest % byte_values)) ++ bytes_of (n - (i + 1)) (rest / byte_values) ≡ take i out ++ bytes_of (n - i) rest
unfolding bytes_of
bytes_of_up out i n rest h l =
    let m : i < length out = omega arith in
    let e : n - i ≡ suc (n - (i + 1)) = omega arith in
    rw (e, add-one, take-suc-set out i (rest % byte_values)) (append_snoc (take i out) (rest % byte_values) (bytes_of (n - suc i) (rest / byte_values)))

pub bytes_of_end : (out : List ℕ) (i n rest : ℕ) → n ≤ i → length out ≡ n → take i out ++ bytes_of (n - i) rest ≡ out
unfolding bytes_of
bytes_of_end out i n rest h l =
    let e : n - i ≡ zero = omega arith in
    let m : length out ≤ i = omega arith in
    rw (e, take_all i out m, append-nil)

-- the bytes of a word, as the standard library writes them
low_first : (i k v : ℕ) → bytes_low_first i k v ≡ bytes_of k (v / byte_values ^ i)
unfolding bytes_of
low_first i zero v = refl
low_first i (suc k) v =
    let b : byte_at i v ≡ v / byte_values ^ i % byte_values = elim i as (λ n. byte_at n v ≡ v / byte_values ^ n % byte_values) [ zero ↦ omega arith | suc n ↦ refl ] in
    let p : byte_values ^ i * byte_values ≡ byte_values ^ suc i = omega (arith, pow-succ' byte_values i) in
    let d : v / byte_values ^ i / byte_values ≡ v / byte_values ^ suc i = div-div-eq-div-mul v (byte_values ^ i) byte_values ∙ ap (λ n. v / n) p in
    rw (b, d, low_first (suc i) k v)

pub word_bytes_of : (v : ℕ) → to_le_bytes w64 v ≡ bytes_of word_bytes v
word_bytes_of v = let e : v / byte_values ^ 0 ≡ v = omega arith in low_first 0 word_bytes v ∙ ap (bytes_of word_bytes) e

pub little_bytes_of : (w v : ℕ) → v < byte_values ^ w → little (bytes_of w v) ≡ v
unfolding little bytes_of
little_bytes_of zero v h = omega arith
little_bytes_of (suc w) v h =
    let q : v / byte_values < byte_values ^ w = omega (arith, pow-succ' byte_values w, div-add-mod v byte_values) in
    let e : little (bytes_of w (v / byte_values)) ≡ v / byte_values = little_bytes_of w (v / byte_values) q in
    omega (arith, div-add-mod v byte_values)

pub bytes_of_little : (bs : List ℕ) → Bytes bs → bytes_of (length bs) (little bs) ≡ bs
unfolding little bytes_of
bytes_of_little [] h = refl
bytes_of_little (b ∷ bs) h =
    let l : b < byte_values = h 0 in
    let m : (b + byte_values * little bs) % byte_values ≡ b = omega arith in
    let q : (b + byte_values * little bs) / byte_values ≡ little bs = omega arith in
    rw (m, q, bytes_of_little bs (bytes_tail b bs h))

pub bytes_of_part : (w : ℕ) (bs : List ℕ) → Bytes bs → length bs ≡ w → bytes_of w (little bs) ≡ bs
bytes_of_part w bs h l = rw (← l) (bytes_of_little bs h)

pub bytes_bytes_of : (w v : ℕ) → Bytes (bytes_of w v)
unfolding bytes_of
bytes_bytes_of zero v i = lit< tt
bytes_bytes_of (suc w) v zero = mod-lt v {m = byte_values} (omega arith)
bytes_bytes_of (suc w) v (suc i) = bytes_bytes_of w (v / byte_values) i

-- ---- several numbers

pub below_tail : (w v : ℕ) (vs : List ℕ) → Below w (v ∷ vs) → Below w vs
below_tail w v vs h i = h (suc i)

pub below_take : (w n : ℕ) (vs : List ℕ) → Below w vs → Below w (take n vs)
below_take w = below_take_at (byte_values ^ w) (pow_pos w)

pub below_drop : (w n : ℕ) (vs : List ℕ) → Below w vs → Below w (drop n vs)
below_drop w = below_drop_at (byte_values ^ w)

pub below_replicate : (w n v : ℕ) → v < byte_values ^ w → Below w (replicate n v)
below_replicate w zero v h i = pow_pos w
below_replicate w (suc n) v h zero = h
below_replicate w (suc n) v h (suc i) = below_replicate w n v h i

pub below_append : (w : ℕ) (vs us : List ℕ) → Below w vs → Below w us → Below w (vs ++ us)
below_append w [] us h k i = k i
below_append w (v ∷ vs) us h k zero = h zero
below_append w (v ∷ vs) us h k (suc i) = below_append w vs us (below_tail w v vs h) k i

pub length_numbers : (w n : ℕ) (bs : List ℕ) → length (numbers w n bs) ≡ n
unfolding numbers
length_numbers w zero bs = refl
length_numbers w (suc n) bs = ap suc (length_numbers w n (drop w bs))

pub length_bytes_of_all : (w : ℕ) (vs : List ℕ) → length (bytes_of_all w vs) ≡ length vs * w
unfolding bytes_of_all
length_bytes_of_all w [] = omega arith
length_bytes_of_all w (v ∷ vs) =
    length-append (bytes_of w v) (bytes_of_all w vs) ∙ rw (length_bytes_of w v, length_bytes_of_all w vs) (omega arith)

pub numbers_bytes_of_all : (w : ℕ) (vs : List ℕ) → Below w vs → numbers w (length vs) (bytes_of_all w vs) ≡ vs
unfolding numbers bytes_of_all
numbers_bytes_of_all w [] h = refl
numbers_bytes_of_all w (v ∷ vs) h =
    rw (
      take_at (bytes_of w v) (bytes_of_all w vs) w (length_bytes_of w v),
      drop_at (bytes_of w v) (bytes_of_all w vs) w (length_bytes_of w v),
      little_bytes_of w v (h 0),
      numbers_bytes_of_all w vs (below_tail w v vs h),
    )

pub bytes_of_all_numbers : (w n : ℕ) (bs : List ℕ) → Bytes bs → length bs ≡ n * w → bytes_of_all w (numbers w n bs) ≡ bs
unfolding numbers bytes_of_all
bytes_of_all_numbers w zero [] h l = refl
bytes_of_all_numbers w zero (b ∷ bs) h l = absurd (omega arith)
bytes_of_all_numbers w (suc n) bs h l =
    let t : length (take w bs) ≡ w = length-take-le w bs (omega arith) in
    let d : length (drop w bs) ≡ n * w = length-drop w bs ∙ omega arith in
    rw (bytes_of_part w (take w bs) (bytes_take w bs h) t, bytes_of_all_numbers w n (drop w bs) (bytes_drop w bs h) d) (take-append-drop w bs)

pub below_numbers : (w n : ℕ) (bs : List ℕ) → Bytes bs → Below w (numbers w n bs)
unfolding numbers
below_numbers w zero bs h i = pow_pos w
below_numbers w (suc n) bs h zero = little_take_lt w bs h
below_numbers w (suc n) bs h (suc i) = below_numbers w n (drop w bs) (bytes_drop w bs h) i

-- ---- places

drop_behind : (p b : List ℕ) (from to : ℕ) → length p ≡ from → from ≤ to → drop to (p ++ drop from b) ≡ drop to b
drop_behind p b from to l h =
    let n : length p + (to - from) ≡ to = omega arith in
    let m : from + (to - from) ≡ to = omega arith in
    ap (λ (k : ℕ). drop k (p ++ drop from b)) (sym n)
    ∙ drop-append-add p (drop from b) (to - from)
    ∙ drop-drop (to - from) from b
    ∙ ap (λ (k : ℕ). drop k b) m

pub length_part : (from to : ℕ) (b : List ℕ) → from ≤ to → to ≤ length b → length (part from to b) ≡ to - from
length_part from to b h l = length-take-le (to - from) (drop from b) (simp length-drop (omega arith))

pub bytes_part : (from to : ℕ) (b : List ℕ) → Bytes b → Bytes (part from to b)
bytes_part from to b h = bytes_take (to - from) (drop from b) (bytes_drop from b h)

pub value_lt : (from to : ℕ) (b : List ℕ) → Bytes b → value_at from to b < byte_values ^ (to - from)
value_lt from to b h = little_take_lt (to - from) (drop from b) (bytes_drop from b h)

drop_take : (m n : ℕ) (l : List ℕ) → drop m (take n l) ≡ take (n - m) (drop m l)
drop_take zero n l = rw (sub-zero n)
drop_take (suc m) zero l = rw (zero-sub (suc m))
drop_take (suc m) (suc n) [] = sym (take-nil (suc n - suc m))
drop_take (suc m) (suc n) (x ∷ l) = rw (suc-sub-suc n m) (drop_take m n l)

-- a part of a part
pub part_part : (a e from to : ℕ) (b : List ℕ) → to ≤ e - a → part from to (part a e b) ≡ part (a + from) (a + to) b
part_part a e from to b h =
    let n : to - from ≤ e - a - from = omega arith in
    let m : a + to - (a + from) ≡ to - from = omega arith in
    rw (drop_take from (e - a) (drop a b), take-take (to - from) (e - a - from) (drop from (drop a b)) n, drop-drop from a b, m)

-- a part behind what stands before it
pub take_part : (from to : ℕ) (b : List ℕ) → from ≤ to → take from b ++ part from to b ≡ take to b
take_part from to b h =
    let n : from + (to - from) ≡ to = omega arith in
    sym (take-add from (to - from) b) ∙ ap (λ (k : ℕ). take k b) n

-- the front of b in two pieces
pub front_split : (p q b : List ℕ) (from to : ℕ) → length p ≡ from → from ≤ to → take to b ≡ p ++ q → (take from b ≡ p) × (part from to b ≡ q)
front_split p q b from to l h e = (
  sym (take-take from to b h) ∙ ap (λ (k : List ℕ). take from k) e ∙ take_at p q from l,
  sym (drop_take from to b) ∙ ap (λ (k : List ℕ). drop from k) e ∙ drop_at p q from l,
)

-- a byte is the number of the part that has it alone
pub value_byte : (at : ℕ) (b : List ℕ) → at < length b → little (take 1 (drop at b)) ≡ get_or b at 0
unfolding little
value_byte at b h = rw (drop-cons b at 0 h) (omega arith)

-- a byte that is stored is the part that has it alone
pub laid_byte : (at v : ℕ) (b : List ℕ) → v < byte_values → at < length b → set b at v ≡ laid at (at + 1) (bytes_of 1 v) b
unfolding bytes_of
laid_byte at v b h l =
    let m : v % byte_values ≡ v = omega arith in
    rw (m, add-one) (set_split b at v l)

-- a part that was lent, and that holds p when it comes back
pub laid_back : (from to : ℕ) (b : List ℕ) {q p : List ℕ} → from ≤ to → q ≡ p → put_mid from (to - from) b q ≡ laid from to p b
laid_back from to b {q} h e =
    ap (λ (l : List ℕ). take from b ++ (q ++ l)) (Post-is from to b h) ∙ ap (λ (l : List ℕ). take from b ++ (l ++ drop to b)) e

-- c is b with p in the place of its first `at` elements
pub record Laid (b p c : List ℕ) (at : ℕ) : Type 0 where
  pub long : length p ≡ at
  pub whole : c ≡ p ++ drop at b

pub laid_none : (b : List ℕ) → Laid b [] b 0
laid_none b = record { long = refl; whole = refl }

-- behind p, q goes to the next place
pub laid_next : {b p c : List ℕ} {from : ℕ} → Laid b p c from → (to : ℕ) (q : List ℕ) {d : List ℕ} → length q ≡ to - from → from ≤ to
    → d ≡ laid from to q c → Laid b (p ++ q) d to
laid_next {b} {p} {c} {from} s to q {d} l h e =
    let t : take from c ≡ p = rw s.whole (take_at p (drop from b) from s.long) in
    let r : drop to c ≡ drop to b = rw s.whole (drop_behind p b from to s.long h) in
    record {
      long = length-append p q ∙ rw (s.long, l) (omega arith);
      whole = e ∙ rw (t, r) (sym (append_assoc p q (drop to b)));
    }

pub laid_number : {b p c : List ℕ} {from : ℕ} → Laid b p c from → (to v : ℕ) {d : List ℕ} → from ≤ to
    → d ≡ laid from to (bytes_of (to - from) v) c → Laid b (p ++ bytes_of (to - from) v) d to
laid_number {from = from} s to v h e = laid_next s to (bytes_of (to - from) v) (length_bytes_of (to - from) v) h e

-- ---- several numbers, in parts

-- only the bytes of the numbers count
numbers_take : (w n : ℕ) (bs : List ℕ) → numbers w n (take (n * w) bs) ≡ numbers w n bs
unfolding numbers
numbers_take w zero bs = refl
numbers_take w (suc n) bs =
    let h : w ≤ suc n * w = omega arith in
    let m : suc n * w - w ≡ n * w = omega arith in
    rw (take-take w (suc n * w) bs h, drop_take w (suc n * w) bs, m, numbers_take w n (drop w bs))

pub numbers_part : (w n from : ℕ) (b : List ℕ) → numbers w n (part from (from + n * w) b) ≡ numbers w n (drop from b)
numbers_part w n from b = let e : from + n * w - from ≡ n * w = omega arith in rw e (numbers_take w n (drop from b))

pub numbers_add : (w n m : ℕ) (bs : List ℕ) → numbers w (n + m) bs ≡ numbers w n bs ++ numbers w m (drop (n * w) bs)
unfolding numbers
numbers_add w zero m bs = let e : 0 + m ≡ m = omega arith in let z : 0 * w ≡ 0 = omega arith in rw (e, z)
numbers_add w (suc n) m bs =
    let e : suc n + m ≡ suc (n + m) = omega arith in
    let d : w + n * w ≡ suc n * w = omega arith in
    rw (e, numbers_add w n m (drop w bs), drop-drop (n * w) w bs, d)

pub bytes_of_all_append : (w : ℕ) (vs us : List ℕ) → bytes_of_all w (vs ++ us) ≡ bytes_of_all w vs ++ bytes_of_all w us
unfolding bytes_of_all
bytes_of_all_append w [] us = refl
bytes_of_all_append w (v ∷ vs) us = rw (bytes_of_all_append w vs us) (sym (append_assoc (bytes_of w v) (bytes_of_all w vs) (bytes_of_all w us)))

-- ---- one number more, of several

width_at : (i w : ℕ) → i * w + w - i * w ≡ w
width_at i w = omega arith

number_at : (w n i : ℕ) (bs : List ℕ) → i < n → get_or (numbers w n bs) i 0 ≡ little (take w (drop (i * w) bs))
unfolding numbers
number_at w zero i bs h = absurd (omega arith)
number_at w (suc n) zero bs h = let e : 0 * w ≡ 0 = omega arith in rw e
number_at w (suc n) (suc i) bs h =
    let e : w + i * w ≡ suc i * w = omega arith in
    number_at w n i (drop w bs) (omega arith)
    ∙ ap (λ (l : List ℕ). little (take w l)) (drop-drop (i * w) w bs)
    ∙ ap (λ (k : ℕ). little (take w (drop k bs))) e

pub get_d_numbers : (w n i : ℕ) (bs : List ℕ) → i < n → get_or (numbers w n bs) i 0 ≡ value_at (i * w) (i * w + w) bs
get_d_numbers w n i bs h = number_at w n i bs h ∙ ap (λ (k : ℕ). little (take k (drop (i * w) bs))) (sym (width_at i w))

pub numbers_up : (w n i v : ℕ) (found bs : List ℕ) → i < n → length found ≡ n → take i found ≡ take i (numbers w n bs)
    → v ≡ value_at (i * w) (i * w + w) bs → take (i + 1) (set found i v) ≡ take (i + 1) (numbers w n bs)
numbers_up w n i v found bs h l e f =
    let m : i < length found = omega arith in
    let k : i < length (numbers w n bs) = simp length_numbers h in
    rw (add-one, take-suc-set found i v m, take-suc (numbers w n bs) i 0 k, e, f, get_d_numbers w n i bs h)

pub numbers_end : (w n i : ℕ) (found bs : List ℕ) → n ≤ i → length found ≡ n → take i found ≡ take i (numbers w n bs) → found ≡ numbers w n bs
numbers_end w n i found bs h l e =
    let m : length found ≤ i = omega arith in
    let k : length (numbers w n bs) ≤ i = simp length_numbers h in
    sym (take_all i found m) ∙ e ∙ take_all i (numbers w n bs) k

bytes_of_all_one : (w v : ℕ) → bytes_of_all w (v ∷ []) ≡ bytes_of w v
unfolding bytes_of_all
bytes_of_all_one w v = append-nil (bytes_of w v)

pub bytes_of_all_none : (w : ℕ) (vs b : List ℕ) → Laid b (bytes_of_all w (take 0 vs)) b (0 * w)
unfolding bytes_of_all
bytes_of_all_none w vs b = let e : 0 * w ≡ 0 = omega arith in rw e (laid_none b)

pub bytes_of_all_up : (w i : ℕ) (vs : List ℕ) {b c d : List ℕ} → Laid b (bytes_of_all w (take i vs)) c (i * w) → i < length vs
    → d ≡ laid (i * w) (i * w + w) (bytes_of w (get_or vs i 0)) c → Laid b (bytes_of_all w (take (i + 1) vs)) d ((i + 1) * w)
bytes_of_all_up w i vs s h e =
    let g : (i + 1) * w ≡ i * w + w = omega arith in
    let t : bytes_of_all w (take (i + 1) vs) ≡ bytes_of_all w (take i vs) ++ bytes_of w (get_or vs i 0) =
    rw (add-one, take-suc vs i 0 h, bytes_of_all_append, bytes_of_all_one) in
    rw (t, g) (laid_next s (i * w + w) (bytes_of w (get_or vs i 0)) (length_bytes_of w (get_or vs i 0) ∙ sym (width_at i w)) (omega arith) e)

pub bytes_of_all_end : (w i : ℕ) (vs : List ℕ) {b c : List ℕ} → Laid b (bytes_of_all w (take i vs)) c (i * w) → length vs ≤ i → length b ≤ i * w
    → c ≡ bytes_of_all w vs
bytes_of_all_end w i vs {b} s h l = s.whole ∙ rw (take_all i vs h, drop_of_length-le b l, append-nil)
