-- Where a piece stands that is inserted among live pieces by its address.
--
--   Each Q ps                    Q holds of each of ps
--   Below b ps, Above b ps       each of ps starts at b or below it; above b
--   insert_first, insert_later   a piece stands before those that start above it, and behind one that does not
--   insert_between               so it stands between the two
--
--   good_at, above_good, below_good      where good live pieces start
--   insert_at                    a piece stands where good live pieces have it
--
--   lives_each                   what holds of entries of words holds of the live ones among them
--   insert_halves                a piece stands between the live ones of the first i entries and the others
--   insert_within                a piece within a free entry of a table
--   insert_last                  a piece at the end of the file
--
-- Assumes nothing.
use Prim.Native.Nat.{ℕ, zero, suc, ◌+◌, ◌-◌, ◌≤◌, ◌<◌}
use mathlib.Core.List.{List, [], ◌∷◌, ◌++◌}
use mathlib.Core.Path.{◌≡◌, refl, sym, ap, ◌∙◌}
use native.Mathlib.Omega.{arith}
use borrow.Author.Tests.{lt-ltb, le-ltb}
use Rattle.pieces.proofs.WordLaws.{entries_next, entries_halves}
use Rattle.pieces.specs.Pieces.{piece, behind}
use Rattle.pieces.specs.Words.{entry_at, entries}
use Rattle.pieces.specs.declared.Class.{Class}
use Rattle.pieces.specs.declared.Piece.{Piece}
use Rattle.pieces.specs.declared.Status.TheVariants.{Live, Free}
use Rattle.pieces.specs.declared.Status.{Status}
use Rattle.rules.specs.Between.{lives_with}
use Rattle.rules.specs.Editing.{insert}
use Rattle.table.proofs.GapLaws.{apart_le}
use Rattle.table.proofs.LivesLaws.{lives_live, lives_free, lives_append}
use Rattle.table.proofs.TilingLaws.{rising, ends_below}
use Rattle.table.specs.Fill.{lives, GoodFrom, none, next}
use Rattle.table.specs.Sound.{Tiles}

pub data Each (Q : Piece → Type 0) : List Piece → Type 0 where
  each_none : Each Q []
  each_more : {x : Piece} {ps : List Piece} → Q x → Each Q ps → Each Q (x ∷ ps)

abbrev pub Below : ℕ → List Piece → Type 0
Below b ps = Each (λ x. x.address ≤ b) ps

abbrev pub Above : ℕ → List Piece → Type 0
Above b ps = Each (λ x. b < x.address) ps

pub insert_first : (x : Piece) {ps : List Piece} → Above x.address ps → insert x ps ≡ x ∷ ps
unfolding insert
insert_first x each_none = refl
insert_first x (each_more {x = y} l h) = rw (lt-ltb x.address y.address l)

pub insert_later : (x y : Piece) (ps : List Piece) → y.address ≤ x.address → insert x (y ∷ ps) ≡ y ∷ insert x ps
unfolding insert
insert_later x y ps l = rw (le-ltb x.address y.address l)

pub insert_between : (x : Piece) {ps qs : List Piece} → Below x.address ps → Above x.address qs → insert x (ps ++ qs) ≡ ps ++ (x ∷ qs)
insert_between x each_none h = insert_first x h
insert_between x {qs = qs} (each_more {x = y} {ps = ps} l g) h =
    insert_later x y (ps ++ qs) l ∙ ap (λ (l : List Piece). y ∷ l) (insert_between x g h)

-- ---- among good live pieces

module _ (P : ℕ) (pos : 0 < P) where
  pub good_at : (ps : List Piece) {k : Class} {a : ℕ} (p : Piece) (qs : List Piece) → GoodFrom P k a (ps ++ (p ∷ qs)) → a ≤ p.address
  good_at [] p qs (next d w g) = apart_le P pos d
  good_at (x ∷ ps) p qs (next {z = n} d w g) = omega (arith, apart_le P pos d, good_at ps p qs g)

  -- those behind a lie above what is before it
  pub above_good : {k : Class} {a b : ℕ} {ps : List Piece} → b < a → GoodFrom P k a ps → Above b ps
  above_good l none = each_none
  above_good {b = b} l (next {m = m} {b = c} {z = z} d w g) =
      let h : b < c = omega (arith, apart_le P pos d) in
      each_more {x = piece c z (Live m)} h (above_good (omega arith) g)

  pub below_good : (ps : List Piece) {k : Class} {a : ℕ} (p : Piece) (qs : List Piece) → GoodFrom P k a (ps ++ (p ∷ qs)) → Below p.address ps
  below_good [] p qs g = each_none
  below_good (x ∷ ps) p qs (next d w g) = each_more {x = x} (omega (arith, good_at ps p qs g)) (below_good ps p qs g)

  rest_above : (ps : List Piece) {k : Class} {a : ℕ} (p : Piece) (qs : List Piece) → GoodFrom P k a (ps ++ (p ∷ qs)) → Above p.address qs
  rest_above [] p qs (next d w g) = above_good (omega (arith, w.some)) g
  rest_above (x ∷ ps) p qs (next d w g) = rest_above ps p qs g

  pub insert_at : {k : Class} {a : ℕ} (ps : List Piece) (p : Piece) (qs : List Piece) → GoodFrom P k a (ps ++ (p ∷ qs))
      → insert p (ps ++ qs) ≡ ps ++ (p ∷ qs)
  insert_at ps p qs g = insert_between p (below_good ps p qs g) (rest_above ps p qs g)

-- ---- among the live ones of a table

-- what holds of k entries from entry j on holds of the live ones
pub lives_each : (Q : Piece → Type 0) (w : List ℕ) (j k : ℕ) → ((i : ℕ) → j ≤ i → i < j + k → Q (entry_at w i))
    → Each Q (lives (entries w j k))
unfolding entries lives
lives_each Q w j zero h = each_none
lives_each Q w j (suc k) h = go (entry_at w j).status refl (lives_each Q w (suc j) k (λ i l m. h i (omega arith) (omega arith)))
  where
    go : (t : Status) → (entry_at w j).status ≡ t → Each Q (lives (entries w (suc j) k)) → Each Q (lives (entry_at w j ∷ entries w (suc j) k))
    go (Live c) e r = rw (lives_live (entry_at w j) (entries w (suc j) k) e) (each_more (h j (omega arith) (omega arith)) r)
    go (Free c) e r = rw (lives_free (entry_at w j) (entries w (suc j) k) e) r

pub insert_halves : (w : List ℕ) (n i : ℕ) (x : Piece) → i ≤ n → Below x.address (lives (entries w 0 i))
    → Above x.address (lives (entries w i (n - i))) → insert x (lives (entries w 0 n)) ≡ lives_with w n i i (x ∷ [])
insert_halves w n i x l g h =
    rw (entries_halves w i n l, lives_append (entries w 0 i) (entries w i (n - i))) (insert_between x g h)

module _ {E : ℕ} (w : List ℕ) (n : ℕ) (t : Tiles E 0 (entries w 0 n)) where
  pub insert_within : (i : ℕ) (f : Piece) (c : Class) (x : Piece) → i < n → f ≡ entry_at w i → f.status ≡ Free c → f.address ≤ x.address
      → x.address < behind f → insert x (lives (entries w 0 n)) ≡ lives_with w n i i (x ∷ [])
  insert_within i f c x l is e low high =
      let free : (entry_at w i).status ≡ Free c = sym (ap (λ (v : Piece). v.status) is) ∙ e in
      let a : f.address ≡ (entry_at w i).address = ap (λ (v : Piece). v.address) is in
      let d : behind f ≡ behind (entry_at w i) = ap behind is in
      insert_halves w n i x (omega arith)
      (lives_each (λ y. y.address ≤ x.address) w 0 i (λ k m h. omega (arith, rising w t k i (omega arith) l)))
      (rw (entries_next w n i l, lives_free (entry_at w i) (entries w (i + 1) (n - (i + 1))) free)
      (lives_each (λ y. x.address < y.address) w (i + 1) (n - (i + 1)) (λ k m h. omega (arith, rising w t i k (omega arith) (omega arith)))))

  pub insert_last : (x : Piece) → x.address ≡ E → insert x (lives (entries w 0 n)) ≡ lives_with w n n n (x ∷ [])
  insert_last x e =
      insert_halves w n n x (omega arith)
      (lives_each (λ y. y.address ≤ x.address) w 0 n (λ i l m. omega (arith, ends_below w t i (omega arith))))
      (lives_each (λ y. x.address < y.address) w n (n - n) (λ i l m. absurd (omega arith)))
