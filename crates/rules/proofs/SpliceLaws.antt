-- A change between two live pieces leaves what is before the first and from the second on as it is.
--
--   fill_append               a table is the front of its first live pieces, and the rest
--   EndsLive, StartsLive      the last entry, the first entry is live, or there is none
--   splice                    new live pieces between two live entries change only what lies between
--   remove_at, resize_at      an edit by its place among the live pieces
--
-- Assumes nothing.
use Prim.Native.Nat.{ℕ, ◌+◌, ◌<◌}
use mathlib.Core.Bool.{true, false}
use mathlib.Core.List.{List, [], ◌∷◌, ◌++◌, append_assoc, append-nil}
use mathlib.Core.Path.{◌≡◌, refl, sym, ap, ◌∙◌}
use native.Mathlib.Omega.{arith}
use borrow.Author.Tests.{ne_eqb}
use Rattle.pages.specs.Pages.{up}
use Rattle.pieces.specs.Pieces.{piece, behind, class_of}
use Rattle.pieces.specs.declared.Class.TheVariants.{Large}
use Rattle.pieces.specs.declared.Class.{Class}
use Rattle.pieces.specs.declared.Piece.{Piece}
use Rattle.pieces.specs.declared.Status.TheVariants.{Live, Free}
use Rattle.pieces.specs.declared.Status.{Status}
use Rattle.rules.proofs.InsertLaws.{good_at}
use Rattle.rules.proofs.RemoveLaws.{named_address}
use Rattle.rules.specs.Between.{front_from, last_class, closing}
use Rattle.rules.specs.Editing.{Name, names, remove, resize}
use Rattle.table.proofs.Canon.{canon, Widen, widened}
use Rattle.table.proofs.Chain.{ChainFrom, step, Chain}
use Rattle.table.proofs.GapLaws.{gap_here, apart_le}
use Rattle.table.proofs.LivesLaws.{lives_append}
use Rattle.table.specs.Fill.{lives, free, gap, fill_from, fill, last_end, GoodFrom, none, next}

pub fill_append : (P : ℕ) (k : Class) (a : ℕ) (ps qs : List Piece)
    → fill_from P k a (ps ++ qs) ≡ front_from P k a ps ++ fill_from P (last_class k ps) (last_end a ps) qs
unfolding fill_from front_from last_class last_end
fill_append P k a [] qs = refl
fill_append P k a (p ∷ ps) qs =
    rw (append_assoc, fill_append P (class_of p.status) (behind p) ps qs)

-- no entry, or the last one is live
pub data EndsLive : List Piece → Type 0 where
  ends_none : EndsLive []
  ends_live : {a n : ℕ} {m : Class} {es : List Piece} → EndsLive es → EndsLive (piece a n (Live m) ∷ es)
  ends_free : {a n : ℕ} {c : Class} {x : Piece} {es : List Piece} → EndsLive (x ∷ es) → EndsLive (piece a n (Free c) ∷ x ∷ es)

-- no entry, or the first one is live
pub data StartsLive : List Piece → Type 0 where
  starts_none : StartsLive []
  starts_live : {b n : ℕ} {m : Class} {es : List Piece} → StartsLive (piece b n (Live m) ∷ es)

-- the first live piece
record First (ps : List Piece) : Type 0 where
  at : ℕ
  bytes : ℕ
  class : Class
  others : List Piece
  is : ps ≡ piece at bytes (Live class) ∷ others

first : (x : Piece) (es : List Piece) → EndsLive (x ∷ es) → First (lives (x ∷ es))
unfolding lives
first x es (ends_live {a = a} {n = n} {m = m} e) = record { at = a; bytes = n; class = m; others = lives es; is = refl }
first x es (ends_free {x = y} {es = ys} e) = first y ys e

module _ (P : ℕ) (pos : 0 < P) where
  -- a live entry and the front behind it; a free one and the front behind it, which has a live piece
  front_live : (k : Class) (a n : ℕ) (m : Class) (xs : List Piece) → xs ≡ front_from P m (a + n) (lives xs)
      → piece a n (Live m) ∷ xs ≡ front_from P k a (piece a n (Live m) ∷ lives xs)
  unfolding front_from
  front_live k a n m xs i = rw (gap_here P pos k m a) (ap (λ (l : List Piece). piece a n (Live m) ∷ l) i)

  front_free : {k c : Class} {a n : ℕ} (ps xs qs : List Piece) → Widen P pos k a n c (qs ++ ps) → First qs → xs ≡ front_from P c (a + n) qs
      → piece a n (Free c) ∷ xs ≡ front_from P k a qs
  unfolding front_from
  front_free {k} {c} {a} {n} ps xs qs w f i =
      let g = w.gaps f.at f.bytes f.class (f.others ++ ps) (ap (λ (l : List Piece). l ++ ps) f.is) in
      let j : xs ≡ front_from P c (a + n) (piece f.at f.bytes (Live f.class) ∷ f.others) = i ∙ ap (front_from P c (a + n)) f.is in
      ap (λ (l : List Piece). piece a n (Free c) ∷ l) j
      ∙ (sym (ap (λ (l : List Piece). l ++ (piece f.at f.bytes (Live f.class) ∷ front_from P f.class (f.at + f.bytes) f.others)) g)
      ∙ ap (front_from P k a) (sym f.is))

  front_canon : {E : ℕ} {xs : List Piece} {s : Status} {a : ℕ} (ys : List Piece) → EndsLive xs → ChainFrom P E s a (xs ++ ys)
      → xs ≡ front_from P (class_of s) a (lives xs)
  unfolding lives front_from
  front_canon ys ends_none h = refl
  front_canon {s = s} ys (ends_live {a = b} {n = n} {m = m} {es = es} e) (step y r) = front_live (class_of s) b n m es (front_canon ys e r)
  front_canon {s = s} ys (ends_free {a = b} {n = n} {c = c} {x = x} {es = es} e) (step y r) =
      let w : Widen P pos (class_of s) b n c (lives (x ∷ es) ++ lives ys) = rw (lives_append (x ∷ es) ys) at (widened P pos y r) in
      front_free (lives ys) (x ∷ es) (lives (x ∷ es)) w (first x es e) (front_canon ys e r)

  -- ---- from a live piece on

  record Tail (E : ℕ) (es : List Piece) : Type 0 where
    status : Status
    at : ℕ
    sound : ChainFrom P E status at es

  tail_of : {E : ℕ} (xs : List Piece) {s : Status} {a : ℕ} {ys : List Piece} → ChainFrom P E s a (xs ++ ys) → Tail E ys
  tail_of [] {s = s} {a = a} h = record { status = s; at = a; sound = h }
  tail_of (x ∷ xs) (step y r) = tail_of xs r

module _ (P : ℕ) (pos : 0 < P) where
  back_canon : {E : ℕ} {s : Status} {x : ℕ} {ys : List Piece} (k : Class) (a : ℕ) → StartsLive ys → ChainFrom P E s x ys
      → fill_from P k a (lives ys) ≡ closing P k a ys ++ ys
  unfolding lives fill_from closing
  back_canon k a starts_none h = sym (append-nil (free k a (up P a)))
  back_canon k a (starts_live {b = b} {n = n} {m = m}) (step y r) =
      ap (λ (l : List Piece). gap P k a b m ++ (piece b n (Live m) ∷ l)) (sym (canon P pos r).filled)

  -- new live pieces ps in place of those between xs and ys: only the entries between xs and ys change
  pub splice : {E : ℕ} (xs mid ys ps : List Piece) → EndsLive xs → StartsLive ys → Chain P E (xs ++ (mid ++ ys))
      → fill P (lives xs ++ (ps ++ lives ys))
      ≡ xs ++ (front_from P (last_class Large (lives xs)) (last_end 0 (lives xs)) ps
      ++ (closing P (last_class (last_class Large (lives xs)) ps) (last_end (last_end 0 (lives xs)) ps) ys ++ ys))
  unfolding fill
  splice xs mid ys ps e f h =
      let k : Class = last_class Large (lives xs) in
      let a : ℕ = last_end 0 (lives xs) in
      let t = tail_of P pos mid (tail_of P pos xs h).sound in
      let b = back_canon (last_class k ps) (last_end a ps) f t.sound in
      let c : front_from P Large 0 (lives xs) ≡ xs = sym (front_canon P pos (mid ++ ys) e h) in
      fill_append P Large 0 (lives xs) (ps ++ lives ys) ∙ (rw c (ap (λ (l : List Piece). xs ++ l) (fill_append P k a ps (lives ys) ∙ rw b)))

  -- ---- the live pieces of a change, by its place

  other_name : (n : Name) (x : Piece) → (x.address ≡ n.address → ⊥) → names n x ≡ false
  other_name n x h = rw (ne_eqb x.address n.address h)

  remove_none : {k : Class} {e : ℕ} {qs : List Piece} (n : Name) → n.address < e → GoodFrom P k e qs → remove n qs ≡ qs
  unfolding remove
  remove_none n l none = refl
  remove_none n l (next {m = m} {b = b} {z = z} d w g) =
      let h : n.address < b = omega (arith, apart_le P pos d) in
      rw (other_name n (piece b z (Live m)) (λ e. omega arith), remove_none n (omega arith) g)

  pub remove_at : (n : Name) (ps : List Piece) {k : Class} {a : ℕ} (p : Piece) (qs : List Piece) → GoodFrom P k a (ps ++ (p ∷ qs)) → names n p ≡ true
      → remove n (ps ++ (p ∷ qs)) ≡ ps ++ qs
  unfolding remove
  remove_at n [] p qs (next {b = b} d w g) e =
      rw e (remove_none n (omega (arith, named_address n p e, w.some)) g)
  remove_at n (x ∷ ps) p qs (next {b = b} {z = z} d w g) e =
      let h : b < n.address = omega (arith, good_at P pos ps p qs g, named_address n p e, w.some) in
      rw (other_name n x (λ i. omega arith), remove_at n ps p qs g e)

  pub resize_at : (n : Name) (z : ℕ) (ps : List Piece) {k : Class} {a : ℕ} (p : Piece) (qs : List Piece) → GoodFrom P k a (ps ++ (p ∷ qs))
      → names n p ≡ true → resize n z (ps ++ (p ∷ qs)) ≡ ps ++ (piece p.address z p.status ∷ qs)
  unfolding resize
  resize_at n z [] p qs g e = rw e
  resize_at n z (x ∷ ps) p qs (next {b = b} d w g) e =
      let h : b < n.address = omega (arith, good_at P pos ps p qs g, named_address n p e, w.some) in
      rw (other_name n x (λ i. omega arith), resize_at n z ps p qs g e)
