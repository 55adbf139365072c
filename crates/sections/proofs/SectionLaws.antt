-- Laws of a listing.
--
--   passed k w i              the sections of class k among the first i entries of w
--   written k w i v           the words v with the pairs of those sections in front
--   Writing k w i v out at    the loop that writes into v has passed i entries: out is what v is now, and at is behind the last pair
--
-- In this order: one entry more (passed, count); how many sections there can be (few); one pair more (writing); the whole, refused and done
-- (listed).
--
-- Not here: laws of lists (lib.ListN, lib.Seq), and of a table's entries (pieces' WordLaws).
use Prim.Native.Nat.{ℕ, suc, ◌+◌, ◌-◌, ◌*◌, ◌≤◌, ◌<◌}
use mathlib.Core.Bool.{Bool, true, false, cond}
use mathlib.Core.List.{List, [], ◌∷◌, ◌++◌, append-nil}
use mathlib.Core.Path.{◌≡◌, refl, sym, ap, ◌∙◌}
use native.Mathlib.Nat.{zero-add, le_refl}
use native.Mathlib.Numerals.{add-one}
use native.Mathlib.Omega.{arith}
use lib.ListN.{length, drop, set, length-append, length-drop, length-set}
use lib.Seq.{take_at, drop_at, drop-drop, sets-eq}
use borrow.Author.Tests.{le-ltb, lt-ltb}
use Rattle.pieces.proofs.WordLaws.{entries_append, length_entries}
use Rattle.pieces.specs.Pieces.{free_of}
use Rattle.pieces.specs.Words.{entry_at, entries}
use Rattle.pieces.specs.declared.Class.{Class}
use Rattle.pieces.specs.declared.Piece.{Piece}
use Rattle.sections.specs.Sections.{sections, pair_words, pairs, Left, listed_in}
use Rattle.std.specs.Prelude.{Some, None}

-- ---- one entry more

abbrev pub passed : Class → List ℕ → ℕ → List Piece
passed k w i = sections k (entries w 0 i)

pub passed_none : (k : Class) (w : List ℕ) → passed k w 0 ≡ []
unfolding sections entries
passed_none k w = refl

pub sections_append : (k : Class) (es fs : List Piece) → sections k (es ++ fs) ≡ sections k es ++ sections k fs
unfolding sections
sections_append k [] fs = refl
sections_append k (x ∷ es) fs = go (free_of k x.status) (sections_append k es fs)
  where
    go : (t : Bool) → sections k (es ++ fs) ≡ sections k es ++ sections k fs
        → cond t (x ∷ sections k (es ++ fs)) (sections k (es ++ fs)) ≡ cond t (x ∷ sections k es) (sections k es) ++ sections k fs
    go true e = rw e
    go false e = e

passed_more : (k : Class) (w : List ℕ) (i j : ℕ) → passed k w (i + j) ≡ passed k w i ++ sections k (entries w i j)
passed_more k w i j =
    ap (sections k) (entries_append w 0 i j)
    ∙ sections_append k (entries w 0 i) (entries w (0 + i) j)
    ∙ ap (λ (s : ℕ). passed k w i ++ sections k (entries w s j)) (zero-add i)

module _ (k : Class) (w : List ℕ) (i : ℕ) (x : Piece) (is : x ≡ entry_at w i) where
  last_section : free_of k x.status ≡ true → sections k (entries w i 1) ≡ x ∷ []
  unfolding sections entries
  last_section h = rw (← is, h)

  last_other : free_of k x.status ≡ false → sections k (entries w i 1) ≡ []
  unfolding sections entries
  last_other h = rw (← is, h)

  pub passed_section : free_of k x.status ≡ true → passed k w (i + 1) ≡ passed k w i ++ (x ∷ [])
  passed_section h = passed_more k w i 1 ∙ ap (λ (r : List Piece). passed k w i ++ r) (last_section h)

  pub passed_other : free_of k x.status ≡ false → passed k w (i + 1) ≡ passed k w i
  passed_other h = passed_more k w i 1 ∙ ap (λ (r : List Piece). passed k w i ++ r) (last_other h) ∙ append-nil (passed k w i)

  pub count_section : free_of k x.status ≡ true → length (passed k w (i + 1)) ≡ length (passed k w i) + 1
  count_section h = ap length (passed_section h) ∙ length-append (passed k w i) (x ∷ [])

  pub count_other : free_of k x.status ≡ false → length (passed k w (i + 1)) ≡ length (passed k w i)
  count_other h = ap length (passed_other h)

-- ---- how many there can be

sections_few : (k : Class) (es : List Piece) → length (sections k es) ≤ length es
unfolding sections
sections_few k [] = le_refl 0
sections_few k (x ∷ es) = go (free_of k x.status) (sections_few k es)
  where
    go : (t : Bool) → length (sections k es) ≤ length es → length (cond t (x ∷ sections k es) (sections k es)) ≤ suc (length es)
    go true h = omega arith
    go false h = omega arith

pub passed_few : (k : Class) (w : List ℕ) (i : ℕ) → length (passed k w i) ≤ i
passed_few k w i = rw (length_entries w 0 i) at (sections_few k (entries w 0 i))

-- one of the first n entries is one of their sections
section_among : (k : Class) (w : List ℕ) (n i : ℕ) (x : Piece) → x ≡ entry_at w i → free_of k x.status ≡ true → i < n
    → length (passed k w i) + 1 ≤ length (passed k w n)
section_among k w n i x is h lt =
    let e : i + 1 + (n - (i + 1)) ≡ n = omega arith in
    let l : length (passed k w n) ≡ length (passed k w (i + 1)) + length (sections k (entries w (i + 1) (n - (i + 1)))) =
    rw e at (ap length (passed_more k w (i + 1) (n - (i + 1))) ∙ length-append (passed k w (i + 1)) _) in
    omega (arith, count_section k w i x is h)

-- ---- one pair more

length_pairs : (xs : List Piece) → length (pairs xs) ≡ length xs * pair_words
unfolding pairs
length_pairs [] = refl
length_pairs (x ∷ xs) = omega (arith, length_pairs xs)

pairs_append : (xs ys : List Piece) → pairs (xs ++ ys) ≡ pairs xs ++ pairs ys
unfolding pairs
pairs_append [] ys = refl
pairs_append (x ∷ xs) ys = rw (pairs_append xs ys)

abbrev pub written : Class → List ℕ → ℕ → List ℕ → List ℕ
written k w i v = pairs (passed k w i) ++ drop (length (passed k w i) * pair_words) v

-- a pair of words stored behind a front p that stands in place of the first m words
two_stored : (p v : List ℕ) (m a z : ℕ) → length p ≡ m → m + 2 ≤ length v
    → set (set (p ++ drop m v) m a) (m + 1) z ≡ (p ++ (a ∷ z ∷ [])) ++ drop (m + 2) v
two_stored p v m a z e fits =
    let l : List ℕ = p ++ drop m v in
    let room : m + 2 ≤ length l = simp (length-append, length-drop) (omega arith) in
    let back : drop (m + 2) l ≡ drop (m + 2) v =
    sym (drop-drop 2 m l) ∙ ap (λ (r : List ℕ). drop 2 r) (drop_at p (drop m v) m e) ∙ drop-drop 2 m v in
    rw add-one (rw (back, take_at p (drop m v) m e) at (sets-eq (a ∷ z ∷ []) l m room))

-- where the loop that writes has come
pub record Writing (k : Class) (w : List ℕ) (i : ℕ) (v out : List ℕ) (at : ℕ) : Type 0 where
  pub kept : length out ≡ length v
  pub behind : at ≡ length (passed k w i) * pair_words
  pub words : out ≡ written k w i v

pub writing_none : (k : Class) (w v : List ℕ) → Writing k w 0 v v 0
unfolding sections entries pairs
writing_none k w v = record { kept = refl; behind = refl; words = refl }

module _ (k : Class) (w : List ℕ) (i : ℕ) (x : Piece) (is : x ≡ entry_at w i) (v t : List ℕ) (at : ℕ) (g : Writing k w i v t at) where
  -- a section has room for its pair, where there is room for all
  pub writing_room : free_of k x.status ≡ true → (n : ℕ) → i < n
      → length (passed k w n) * pair_words ≤ length v → at + pair_words ≤ length v
  writing_room h n lt all = omega (arith, section_among k w n i x is h lt, g.behind)

  written_section : free_of k x.status ≡ true → at + pair_words ≤ length v
      → set (set t at x.address) (at + 1) x.size ≡ written k w (i + 1) v
  unfolding pairs
  written_section h room =
      let p : List ℕ = pairs (passed k w i) in
      let m : length (passed k w (i + 1)) * pair_words ≡ at + 2 = omega (arith, count_section k w i x is h, g.behind) in
      let front : pairs (passed k w (i + 1)) ≡ p ++ (x.address ∷ x.size ∷ []) =
      ap pairs (passed_section k w i x is h) ∙ pairs_append (passed k w i) (x ∷ []) in
      let now : t ≡ p ++ drop at v = rw g.behind g.words in
      rw (now, m, front) (two_stored p v at x.address x.size (rw g.behind (length_pairs (passed k w i))) room)

  pub writing_section : free_of k x.status ≡ true → at + pair_words ≤ length v → (out : List ℕ)
      → out ≡ set (set t at x.address) (at + 1) x.size → (b : ℕ) → b ≡ at + pair_words → Writing k w (i + 1) v out b
  writing_section h room out e b f =
      record {
        kept = ap length e ∙ simp length-set g.kept;
        behind = omega (arith, g.behind, count_section k w i x is h);
        words = e ∙ written_section h room;
      }

  pub writing_other : free_of k x.status ≡ false → (out : List ℕ) → out ≡ t → (b : ℕ) → b ≡ at → Writing k w (i + 1) v out b
  writing_other h out e b f =
      record {
        kept = ap length e ∙ g.kept;
        behind = omega (arith, g.behind, count_other k w i x is h);
        words = e ∙ g.words ∙ ap (λ (xs : List Piece). pairs xs ++ drop (length xs * pair_words) v) (sym (passed_other k w i x is h));
      }

-- ---- the whole

module _ (k : Class) (w v : List ℕ) (n count : ℕ) (counts : count ≡ length (passed k w n)) where
  pub listed_short : length v < count * pair_words
      → ◌≡◌ {A = Left} (record { answer = None; words = v }) (listed_in v (passed k w n))
  unfolding listed_in
  listed_short h = rw (← counts, lt-ltb (length v) (count * pair_words) h)

  pub listed_all : count * pair_words ≤ length v → (t : List ℕ) → t ≡ written k w n v
      → ◌≡◌ {A = Left} (record { answer = Some count; words = t }) (listed_in v (passed k w n))
  unfolding listed_in
  listed_all h t words = rw (words, ← counts, le-ltb (length v) (count * pair_words) h)
