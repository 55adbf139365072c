-- The local test is true of the chains and of no other entries.
--
-- In this order: an entry by itself (Shape); an entry and the one before it (Beside); the last entry; one entry; all entries, as
-- `chain_true` and `true_chain`; the ranges, kinds and zeros of state and slice.
--
-- Assumes nothing.
use Prim.Native.Nat.{ℕ, zero, suc, ◌+◌, ◌-◌, ◌*◌, ◌%◌, ◌≤◌, ◌<◌}
use mathlib.Core.Bool.{Bool, true, not, ◌&&◌}
use mathlib.Core.List.{List, [], ◌∷◌}
use mathlib.Core.Path.{◌≡◌, refl, sym, ap, ◌∙◌, subst⁻¹}
use native.Mathlib.Omega.{arith}
use lib.Dec.{leb, ltb, eqb}
use lib.ListN.{length, get_or, drop, length-drop}
use lib.Seq.{get_or-drop}
use borrow.Author.Tests.{ltb-true, leb-true, eqb-true, lt-ltb, le-leb, eq-eqb}
use Rattle.pages.proofs.Numbers.{split, and_left, and_right, both, not_both}
use Rattle.pages.proofs.PageLaws.{dec_border, border_true, true_border, false_border, page_size_true, true_page_size}
use Rattle.pages.specs.Pages.{page_sizeb, Border, borderb, down}
use Rattle.pieces.proofs.PieceLaws.{large_small, live_free, same_class_lem, class_same, kind_true, true_kind}
use Rattle.pieces.specs.Pieces.{piece, class_of, Small, metadata, raw, IsFree, is_free, freeb, same_class, large_freeb, Kind, kindb}
use Rattle.pieces.specs.Words.{entry_words, kind_at, Zeros}
use Rattle.pieces.specs.declared.Class.TheVariants.{SmallMetadata, SmallRaw, Large}
use Rattle.pieces.specs.declared.Class.{Class}
use Rattle.pieces.specs.declared.Piece.{Piece}
use Rattle.pieces.specs.declared.Status.TheVariants.{Live, Free}
use Rattle.pieces.specs.declared.Status.{Status}
use Rattle.table.proofs.Chain.{Entry, ChainFrom, stop, step}
use Rattle.table.proofs.ChainLaws.{chain_le}
use Rattle.table.specs.Fill.{Within}
use Rattle.table.specs.Local.{table_lengthb, rangesb, kindsb, zerosb, withinb, shapeb, besideb, cutb, entryb, noneb, chainb}
use Rattle.table.specs.Sound.{largest_limit, least_capacity, largest_capacity, capacity, TableLength, Ranges}

-- ---- an entry by itself

record Shape (P : ℕ) (t : Status) (a z : ℕ) : Type 0 where
  small : Small (class_of t) → Within P a z
  aligned : t ≡ Live Large → Border P a
  whole : t ≡ Live Large → P ≤ z

within_true : (P a z : ℕ) → withinb P a z ≡ true → Within P a z
within_true P a z h =
    let s : Bool = ltb z P in
    let t : Bool = leb (a + z) (down P a + P) in
    record { under = ltb-true z P (and_left s t h); in_page = leb-true (a + z) (down P a + P) (and_right s t h) }

true_within : (P a z : ℕ) → Within P a z → withinb P a z ≡ true
true_within P a z w = both _ _ (lt-ltb z P w.under) (le-leb (a + z) (down P a + P) w.in_page)

-- a small entry, or a free one, is not live large
shape_small : {P a z : ℕ} {t : Status} → (t ≡ Live Large → ⊥) → (Small (class_of t) → Within P a z) → Shape P t a z
shape_small other w = record { small = w; aligned = λ e. absurd (other e); whole = λ e. absurd (other e) }

live_small : {c : Class} → Small c → Live c ≡ Live Large → ⊥
live_small s e = large_small s (cc)

free_live : {c : Class} → Free c ≡ Live Large → ⊥
free_live e = live_free (sym e)

shape_true : (P : ℕ) (t : Status) (a z : ℕ) → shapeb P t a z ≡ true → Shape P t a z
unfolding shapeb
shape_true P (Live SmallMetadata) a z h = shape_small (live_small metadata) (λ s. within_true P a z h)
shape_true P (Live SmallRaw) a z h = shape_small (live_small raw) (λ s. within_true P a z h)
shape_true P (Live Large) a z h =
    record {
      small = λ s. absurd (large_small s refl);
      aligned = λ e. border_true P a (and_left (borderb P a) (leb P z) h);
      whole = λ e. leb-true P z (and_right (borderb P a) (leb P z) h);
    }
shape_true P (Free SmallMetadata) a z h = shape_small free_live (λ s. within_true P a z h)
shape_true P (Free SmallRaw) a z h = shape_small free_live (λ s. within_true P a z h)
shape_true P (Free Large) a z h = shape_small free_live (λ s. absurd (large_small s refl))

true_shape : (P : ℕ) (t : Status) (a z : ℕ) → Shape P t a z → shapeb P t a z ≡ true
unfolding shapeb
true_shape P (Live SmallMetadata) a z h = true_within P a z (h.small metadata)
true_shape P (Live SmallRaw) a z h = true_within P a z (h.small raw)
true_shape P (Live Large) a z h = both _ _ (true_border (h.aligned refl)) (le-leb P z (h.whole refl))
true_shape P (Free SmallMetadata) a z h = true_within P a z (h.small metadata)
true_shape P (Free SmallRaw) a z h = true_within P a z (h.small raw)
true_shape P (Free Large) a z h = refl

-- ---- an entry and the one before it

record Beside (P : ℕ) (s : Status) (a : ℕ) (t : Status) : Type 0 where
  family : ¬ Border P a → class_of s ≡ class_of t
  merged : ¬ Border P a → IsFree s → IsFree t → ⊥
  large_merged : s ≡ Free Large → t ≡ Free Large → ⊥

pub beside_on : {P a : ℕ} (s t : Status) → Border P a → besideb P s a t ≡ not (large_freeb s && large_freeb t)
unfolding besideb
beside_on s t b = rw (true_border b)

pub beside_off : (P a : ℕ) (s t : Status) → ¬ Border P a → besideb P s a t ≡ (same_class (class_of s) (class_of t) && not (freeb s && freeb t))
unfolding besideb
beside_off P a s t nb = rw (false_border P a nb)

not_both_free : {s t : Status} → not (freeb s && freeb t) ≡ true → IsFree s → IsFree t → ⊥
not_both_free h is_free is_free = not_both h refl

not_both_large : {s t : Status} → not (large_freeb s && large_freeb t) ≡ true → s ≡ Free Large → t ≡ Free Large → ⊥
not_both_large h e f = not_both (rw (e, f) at h) refl

beside_true : (P : ℕ) (s : Status) (a : ℕ) (t : Status) → besideb P s a t ≡ true → Beside P s a t
beside_true P s a t h = elim (dec_border P a) [ yes b ↦ on b | no nb ↦ off nb ]
  where
    on : Border P a → Beside P s a t
    on b =
        record {
          family = λ nb. absurd (nb b);
          merged = λ nb. absurd (nb b);
          large_merged = not_both_large {s = s} {t = t} (sym (beside_on s t b) ∙ h);
        }

    off : ¬ Border P a → Beside P s a t
    off nb =
        let u : Bool = same_class (class_of s) (class_of t) in
        let v : Bool = not (freeb s && freeb t) in
        let g : (u && v) ≡ true = sym (beside_off P a s t nb) ∙ h in
        let m : IsFree s → IsFree t → ⊥ = not_both_free {s = s} {t = t} (and_right u v g) in
        record {
          family = λ x. same_class_lem (class_of s) (class_of t) (and_left u v g);
          merged = λ x. m;
          large_merged = λ e f. m (rw e is_free) (rw f is_free);
        }

true_not_large : (s t : Status) → (s ≡ Free Large → t ≡ Free Large → ⊥) → not (large_freeb s && large_freeb t) ≡ true
true_not_large (Live c) t h = refl
true_not_large (Free SmallMetadata) t h = refl
true_not_large (Free SmallRaw) t h = refl
true_not_large (Free Large) (Live d) h = refl
true_not_large (Free Large) (Free SmallMetadata) h = refl
true_not_large (Free Large) (Free SmallRaw) h = refl
true_not_large (Free Large) (Free Large) h = absurd (h refl refl)

true_not_free : (s t : Status) → (IsFree s → IsFree t → ⊥) → not (freeb s && freeb t) ≡ true
true_not_free (Live c) t h = refl
true_not_free (Free c) (Live d) h = refl
true_not_free (Free c) (Free d) h = absurd (h is_free is_free)

true_beside : (P : ℕ) (s : Status) (a : ℕ) (t : Status) → Beside P s a t → besideb P s a t ≡ true
true_beside P s a t h =
    elim (dec_border P a) [
      | yes b ↦ beside_on s t b ∙ true_not_large s t h.large_merged
      | no nb ↦ beside_off P a s t nb
          ∙ both _ _ (class_same (class_of s) (class_of t) (h.family nb)) (true_not_free s t (h.merged nb))
    ]

-- ---- the last entry

cut_true : (P : ℕ) (t : Status) (z : ℕ) (es : List Piece) → cutb P t z (noneb es) ≡ true → es ≡ [] → t ≡ Free Large → z < P
unfolding cutb
cut_true P t z es h e f = ltb-true z P (rw (e, f) at h)

true_cut : (P : ℕ) (t : Status) (z : ℕ) (es : List Piece) → (es ≡ [] → t ≡ Free Large → z < P) → cutb P t z (noneb es) ≡ true
unfolding cutb
true_cut P (Live c) z [] h = refl
true_cut P (Free SmallMetadata) z [] h = refl
true_cut P (Free SmallRaw) z [] h = refl
true_cut P (Free Large) z [] h = lt-ltb z P (h refl refl)
true_cut P t z (x ∷ es) h = refl

-- ---- one entry

pub entry_room : (P E : ℕ) (s : Status) (a : ℕ) (x : Piece) (last : Bool) → entryb P E s a x last ≡ true → a + x.size ≤ E
unfolding entryb
entry_room P E s a x last h =
    let b1 : Bool = eqb x.address a in
    let b2 : Bool = leb 1 x.size in
    let b3 : Bool = leb (a + x.size) E in
    let b4 : Bool = shapeb P x.status a x.size && (besideb P s a x.status && cutb P x.status x.size last) in
    leb-true (a + x.size) E (and_left b3 b4 (and_right b2 (b3 && b4) (and_right b1 (b2 && (b3 && b4)) h)))

record Tested (P : ℕ) (s : Status) (a : ℕ) (x : Piece) (es : List Piece) : Type 0 where
  here : x.address ≡ a
  entry : Entry P s a x.size x.status es

entry_true : (P E : ℕ) (s : Status) (a : ℕ) (x : Piece) (es : List Piece) → entryb P E s a x (noneb es) ≡ true → Tested P s a x es
unfolding entryb
entry_true P E s a x es h =
    let z : ℕ = x.size in
    let t : Status = x.status in
    let b1 : Bool = eqb x.address a in
    let b2 : Bool = leb 1 z in
    let b3 : Bool = leb (a + z) E in
    let b4 : Bool = shapeb P t a z in
    let b5 : Bool = besideb P s a t in
    let b6 : Bool = cutb P t z (noneb es) in
    let h2 : (b2 && (b3 && (b4 && (b5 && b6)))) ≡ true = and_right b1 (b2 && (b3 && (b4 && (b5 && b6)))) h in
    let h4 : (b4 && (b5 && b6)) ≡ true = and_right b3 (b4 && (b5 && b6)) (and_right b2 (b3 && (b4 && (b5 && b6))) h2) in
    let h5 : (b5 && b6) ≡ true = and_right b4 (b5 && b6) h4 in
    let u : Shape P t a z = shape_true P t a z (and_left b4 (b5 && b6) h4) in
    let v : Beside P s a t = beside_true P s a t (and_left b5 b6 h5) in
    record {
      here = eqb-true x.address a (and_left b1 (b2 && (b3 && (b4 && (b5 && b6)))) h);
      entry = record {
        some = leb-true 1 z (and_left b2 (b3 && (b4 && (b5 && b6))) h2);
        small = u.small;
        aligned = u.aligned;
        whole = u.whole;
        family = v.family;
        merged = v.merged;
        large_merged = v.large_merged;
        cut = cut_true P t z es (and_right b5 b6 h5);
      };
    }

true_entry : (P E : ℕ) (s : Status) (a z : ℕ) (t : Status) (es : List Piece) → Entry P s a z t es → a + z ≤ E
    → entryb P E s a (piece a z t) (noneb es) ≡ true
unfolding entryb
true_entry P E s a z t es y l =
    both _ _ (eq-eqb a a refl)
    (both _ _ (le-leb 1 z y.some)
    (both _ _ (le-leb (a + z) E l)
    (both _ _ (true_shape P t a z (record { small = y.small; aligned = y.aligned; whole = y.whole }))
    (both _ _ (true_beside P s a t (record { family = y.family; merged = y.merged; large_merged = y.large_merged }))
    (true_cut P t z es y.cut)))))

-- ---- all entries

pub chain_true : (P E : ℕ) (s : Status) (a : ℕ) (es : List Piece) → Border P E → chainb P E s a es ≡ true → ChainFrom P E s a es
unfolding chainb
chain_true P E s a [] b h = let e : a ≡ E = eqb-true a E h in stop e (rw e b)
chain_true P E s a (x ∷ es) b h =
    let b1 : Bool = entryb P E s a x (noneb es) in
    let b2 : Bool = chainb P E x.status (a + x.size) es in
    let y : Tested P s a x es = entry_true P E s a x es (and_left b1 b2 h) in
    let r = chain_true P E x.status (a + x.size) es b (and_right b1 b2 h) in
    let q : x ≡ piece a x.size x.status = ap (λ (v : ℕ). piece v x.size x.status) y.here in
    subst⁻¹ (λ (v : Piece). ChainFrom P E s a (v ∷ es)) q (step y.entry r)

pub true_chain : {P E : ℕ} {s : Status} {a : ℕ} {es : List Piece} → ChainFrom P E s a es → chainb P E s a es ≡ true
unfolding chainb
true_chain {P} {E} (stop {a = a} e b) = eq-eqb a E e
true_chain {P} {E} (step {s = s} {t = t} {a = a} {n = z} {es = es} y r) =
    both _ _ (true_entry P E s a z t es y (chain_le r)) (true_chain r)

-- ---- state and slice

length_true : (len : ℕ) → table_lengthb len ≡ true → TableLength len
unfolding table_lengthb
length_true len h =
    let b1 : Bool = eqb (len % entry_words) 0 in
    let b2 : Bool = leb (least_capacity * entry_words) len in
    let b3 : Bool = leb len (largest_capacity * entry_words) in
    record {
      whole_entries = eqb-true (len % entry_words) 0 (and_left b1 (b2 && b3) h);
      least = leb-true (least_capacity * entry_words) len (and_left b2 b3 (and_right b1 (b2 && b3) h));
      largest = leb-true len (largest_capacity * entry_words) (and_right b2 b3 (and_right b1 (b2 && b3) h));
    }

true_length : (len : ℕ) → TableLength len → table_lengthb len ≡ true
unfolding table_lengthb
true_length len h =
    both _ _ (eq-eqb (len % entry_words) 0 h.whole_entries)
    (both _ _ (le-leb (least_capacity * entry_words) len h.least) (le-leb len (largest_capacity * entry_words) h.largest))

pub ranges_true : (P M E n len : ℕ) → rangesb P M E n len ≡ true → Ranges P M E n len
unfolding rangesb
ranges_true P M E n len h1 =
    let b1 : Bool = page_sizeb P in
    let b2 : Bool = leb P M in
    let b3 : Bool = leb M largest_limit in
    let b4 : Bool = borderb P E in
    let b5 : Bool = leb E M in
    let b6 : Bool = table_lengthb len in
    let b7 : Bool = leb n (capacity len) in
    let h2 : (b2 && (b3 && (b4 && (b5 && (b6 && b7))))) ≡ true = and_right b1 (b2 && (b3 && (b4 && (b5 && (b6 && b7))))) h1 in
    let h3 : (b3 && (b4 && (b5 && (b6 && b7)))) ≡ true = and_right b2 (b3 && (b4 && (b5 && (b6 && b7)))) h2 in
    let h4 : (b4 && (b5 && (b6 && b7))) ≡ true = and_right b3 (b4 && (b5 && (b6 && b7))) h3 in
    let h5 : (b5 && (b6 && b7)) ≡ true = and_right b4 (b5 && (b6 && b7)) h4 in
    let h6 : (b6 && b7) ≡ true = and_right b5 (b6 && b7) h5 in
    record {
      page = page_size_true P (and_left b1 (b2 && (b3 && (b4 && (b5 && (b6 && b7))))) h1);
      limit_least = leb-true P M (and_left b2 (b3 && (b4 && (b5 && (b6 && b7)))) h2);
      limit_largest = leb-true M largest_limit (and_left b3 (b4 && (b5 && (b6 && b7))) h3);
      end_border = border_true P E (and_left b4 (b5 && (b6 && b7)) h4);
      end_limit = leb-true E M (and_left b5 (b6 && b7) h5);
      count = leb-true n (capacity len) (and_right b6 b7 h6);
      slice = length_true len (and_left b6 b7 h6);
    }

pub true_ranges : (P M E n len : ℕ) → Ranges P M E n len → rangesb P M E n len ≡ true
unfolding rangesb
true_ranges P M E n len h =
    both _ _ (true_page_size P h.page)
    (both _ _ (le-leb P M h.limit_least)
    (both _ _ (le-leb M largest_limit h.limit_largest)
    (both _ _ (true_border h.end_border)
    (both _ _ (le-leb E M h.end_limit)
    (both _ _ (true_length len h.slice) (le-leb n (capacity len) h.count))))))

kinds_from : (w : List ℕ) (i k : ℕ) → kindsb w i k ≡ true → (j : ℕ) → i ≤ j → j < i + k → Kind (kind_at w j)
unfolding kindsb
kinds_from w i zero h j l m = absurd (omega arith)
kinds_from w i (suc k) h j l m =
    let b1 : Bool = kindb (kind_at w i) in
    let b2 : Bool = kindsb w (suc i) k in
    split (suc i) j (λ g. kinds_from w (suc i) k (and_right b1 b2 h) j g (omega arith))
    (λ g. let e : j ≡ i = omega arith in rw e (kind_true (kind_at w i) (and_left b1 b2 h)))

from_kinds : (w : List ℕ) (i k : ℕ) → ((j : ℕ) → i ≤ j → j < i + k → Kind (kind_at w j)) → kindsb w i k ≡ true
unfolding kindsb
from_kinds w i zero h = refl
from_kinds w i (suc k) h =
    both _ _ (true_kind (kind_at w i) (h i (omega arith) (omega arith))) (from_kinds w (suc i) k (λ j l m. h j (omega arith) (omega arith)))

pub kinds_true : (w : List ℕ) (n : ℕ) → kindsb w 0 n ≡ true → (i : ℕ) → i < n → Kind (kind_at w i)
kinds_true w n h i l = kinds_from w 0 n h i (omega arith) (omega arith)

pub true_kinds : (w : List ℕ) (n : ℕ) → ((i : ℕ) → i < n → Kind (kind_at w i)) → kindsb w 0 n ≡ true
true_kinds w n h = from_kinds w 0 n (λ j l m. h j (omega arith))

all_zero : (v : List ℕ) → zerosb v ≡ true → (i : ℕ) → get_or v i 0 ≡ 0
unfolding zerosb
all_zero [] h i = refl
all_zero (x ∷ v) h zero = eqb-true x 0 (and_left (eqb x 0) (zerosb v) h)
all_zero (x ∷ v) h (suc i) = all_zero v (and_right (eqb x 0) (zerosb v) h) i

zero_all : (v : List ℕ) → ((i : ℕ) → i < length v → get_or v i 0 ≡ 0) → zerosb v ≡ true
unfolding zerosb
zero_all [] h = refl
zero_all (x ∷ v) h = both _ _ (eq-eqb x 0 (h 0 (omega arith))) (zero_all v (λ i l. h (suc i) (omega arith)))

pub zeros_true : (w : List ℕ) (n : ℕ) → zerosb (drop (n * entry_words) w) ≡ true → Zeros w n
zeros_true w n h i l m =
    let k : ℕ = i - n * entry_words in
    let e : i ≡ n * entry_words + k = omega arith in
    ap (λ (v : ℕ). get_or w v 0) e ∙ (sym (get_or-drop (n * entry_words) w k 0) ∙ all_zero (drop (n * entry_words) w) h k)

pub true_zeros : (w : List ℕ) (n : ℕ) → Zeros w n → zerosb (drop (n * entry_words) w) ≡ true
true_zeros w n z =
    zero_all (drop (n * entry_words) w)
    (λ i h. let l : i < length w - n * entry_words = rw length-drop at h in
    get_or-drop (n * entry_words) w i 0 ∙ z (n * entry_words + i) (omega arith) (omega arith))
