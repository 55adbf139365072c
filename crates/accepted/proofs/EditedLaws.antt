-- The members of an edited list of live pieces, and what good live pieces leave between them.
--
--   Apart a b y                 y lies before a, or from b on
--   in_insert, in_remove, in_resize      the members of an edited list
--   insert_stays, resize_stays           a piece that is not named is still a member
--   insert_apart                a piece among good ones has no byte in common with the others
--   resize_apart                nor has a resized one
--   end_within                  the file ends within M if the page of each piece does
--
-- Assumes nothing.
use Prim.Native.Nat.{ℕ, ◌+◌, ◌≤◌, ◌<◌}
use mathlib.Core.Bool.{Bool, true, false, cond}
use mathlib.Core.List.{List, [], ◌∷◌, Memᴰ}
use mathlib.Core.Path.{◌≡◌, refl, ap, ◌∙◌}
use native.Mathlib.Omega.{arith}
use lib.Dec.{ltb}
use Rattle.accepted.proofs.AmongLaws.{Among}
use Rattle.pages.proofs.Numbers.{not_both}
use Rattle.pages.proofs.PageLaws.{up_of, border_zero}
use Rattle.pages.specs.Pages.{up}
use Rattle.pieces.specs.Pieces.{piece, behind, class_of}
use Rattle.pieces.specs.declared.Class.{Class}
use Rattle.pieces.specs.declared.Piece.{Piece}
use Rattle.rules.proofs.RemoveLaws.{named_address}
use Rattle.rules.specs.Editing.{Name, names, insert, remove, resize}
use Rattle.table.proofs.GapLaws.{apart_le}
use Rattle.table.specs.Fill.{last_end, end_of, GoodFrom, next, none}

-- ---- members

-- x is y, or one of ps
pub data IsOr (x y : Piece) (ps : List Piece) : Type 0 where
  is_it : x ≡ y → IsOr x y ps
  is_old : Memᴰ x ps → IsOr x y ps

or_later : {x y : Piece} (q : Piece) {ps : List Piece} → IsOr x y ps → IsOr x y (q ∷ ps)
or_later q (is_it e) = is_it e
or_later q (is_old h) = is_old (Memᴰ.tail h)

pub in_insert : {x : Piece} (p : Piece) (ps : List Piece) → Memᴰ x (insert p ps) → IsOr x p ps
unfolding insert
in_insert p [] (Memᴰ.head e) = is_it e
in_insert p [] (Memᴰ.tail h) = is_old h
in_insert {x} p (q ∷ ps) h = go (ltb p.address q.address) h (in_insert p ps)
  where
    front : Memᴰ x (p ∷ q ∷ ps) → IsOr x p (q ∷ ps)
    front (Memᴰ.head e) = is_it e
    front (Memᴰ.tail i) = is_old i

    back : Memᴰ x (q ∷ insert p ps) → (Memᴰ x (insert p ps) → IsOr x p ps) → IsOr x p (q ∷ ps)
    back (Memᴰ.head e) r = is_old (Memᴰ.head e)
    back (Memᴰ.tail i) r = or_later q (r i)

    go : (t : Bool) → Memᴰ x (cond t (p ∷ q ∷ ps) (q ∷ insert p ps)) → (Memᴰ x (insert p ps) → IsOr x p ps) → IsOr x p (q ∷ ps)
    go true i r = front i
    go false i r = back i r

pub insert_has : (p : Piece) (ps : List Piece) → Memᴰ p (insert p ps)
unfolding insert
insert_has p [] = Memᴰ.head refl
insert_has p (q ∷ ps) = go (ltb p.address q.address) (insert_has p ps)
  where
    go : (t : Bool) → Memᴰ p (insert p ps) → Memᴰ p (cond t (p ∷ q ∷ ps) (q ∷ insert p ps))
    go true i = Memᴰ.head refl
    go false i = Memᴰ.tail i

pub insert_stays : {x : Piece} (p : Piece) {ps : List Piece} → Memᴰ x ps → Memᴰ x (insert p ps)
unfolding insert
insert_stays {x} p (Memᴰ.head {x = q} {xs = ps} e) = go (ltb p.address q.address)
  where
    go : (t : Bool) → Memᴰ x (cond t (p ∷ q ∷ ps) (q ∷ insert p ps))
    go true = Memᴰ.tail (Memᴰ.head e)
    go false = Memᴰ.head e
insert_stays {x} p (Memᴰ.tail {x = q} {xs = ps} h) = go (ltb p.address q.address) (insert_stays p h)
  where
    go : (t : Bool) → Memᴰ x (insert p ps) → Memᴰ x (cond t (p ∷ q ∷ ps) (q ∷ insert p ps))
    go true i = Memᴰ.tail (Memᴰ.tail h)
    go false i = Memᴰ.tail i

pub in_remove : {x : Piece} (n : Name) (ps : List Piece) → Memᴰ x (remove n ps) → Memᴰ x ps
unfolding remove
in_remove n [] h = h
in_remove {x} n (q ∷ ps) h = go (names n q) h (in_remove n ps)
  where
    back : Memᴰ x (q ∷ remove n ps) → (Memᴰ x (remove n ps) → Memᴰ x ps) → Memᴰ x (q ∷ ps)
    back (Memᴰ.head e) r = Memᴰ.head e
    back (Memᴰ.tail i) r = Memᴰ.tail (r i)

    go : (t : Bool) → Memᴰ x (cond t (remove n ps) (q ∷ remove n ps)) → (Memᴰ x (remove n ps) → Memᴰ x ps) → Memᴰ x (q ∷ ps)
    go true i r = Memᴰ.tail (r i)
    go false i r = back i r

-- x is the piece n made z bytes long, or one of ps
pub data ResizedOr (x : Piece) (n : Name) (z : ℕ) (ps : List Piece) : Type 0 where
  is_resized : x.address ≡ n.address → x.size ≡ z → ResizedOr x n z ps
  is_kept : Memᴰ x ps → ResizedOr x n z ps

pub in_resize : {x : Piece} (n : Name) (z : ℕ) (ps : List Piece) → Memᴰ x (resize n z ps) → ResizedOr x n z ps
unfolding resize
in_resize n z [] h = is_kept h
in_resize {x} n z (q ∷ ps) h = go (names n q) refl h (in_resize n z ps)
  where
    front : names n q ≡ true → Memᴰ x (piece q.address z q.status ∷ ps) → ResizedOr x n z (q ∷ ps)
    front f (Memᴰ.head e) = is_resized (ap (λ (v : Piece). v.address) e ∙ named_address n q f) (ap (λ (v : Piece). v.size) e)
    front f (Memᴰ.tail i) = is_kept (Memᴰ.tail i)

    later : ResizedOr x n z ps → ResizedOr x n z (q ∷ ps)
    later (is_resized e f) = is_resized e f
    later (is_kept i) = is_kept (Memᴰ.tail i)

    back : Memᴰ x (q ∷ resize n z ps) → (Memᴰ x (resize n z ps) → ResizedOr x n z ps) → ResizedOr x n z (q ∷ ps)
    back (Memᴰ.head e) r = is_kept (Memᴰ.head e)
    back (Memᴰ.tail i) r = later (r i)

    go : (t : Bool) → names n q ≡ t → Memᴰ x (cond t (piece q.address z q.status ∷ ps) (q ∷ resize n z ps))
        → (Memᴰ x (resize n z ps) → ResizedOr x n z ps) → ResizedOr x n z (q ∷ ps)
    go true f i r = front f i
    go false f i r = back i r

pub resize_stays : {x : Piece} (n : Name) (z : ℕ) {ps : List Piece} → names n x ≡ false → Memᴰ x ps → Memᴰ x (resize n z ps)
unfolding resize
resize_stays {x} n z f (Memᴰ.head {x = q} e) = let g : names n q ≡ false = rw e at f in rw g (Memᴰ.head e)
resize_stays {x} n z f (Memᴰ.tail {x = q} {xs = ps} h) = go (names n q) (resize_stays n z f h)
  where
    go : (t : Bool) → Memᴰ x (resize n z ps) → Memᴰ x (cond t (piece q.address z q.status ∷ ps) (q ∷ resize n z ps))
    go true i = Memᴰ.tail h
    go false i = Memᴰ.tail i

-- the named piece is there, with another size
record ResizedIn (n : Name) (ps : List Piece) : Type 0 where
  it : Piece
  among : Memᴰ it ps
  address : it.address ≡ n.address

among_rest : (n : Name) (q : Piece) {ps : List Piece} → names n q ≡ false → Among n (q ∷ ps) → Among n ps
among_rest n q {ps} f h = go h.among
  where
    go : Memᴰ h.it (q ∷ ps) → Among n ps
    go (Memᴰ.head e) = absurd (not_both (rw e at h.named) f)
    go (Memᴰ.tail i) = record { it = h.it; among = i; named = h.named }

resize_has : (n : Name) (z : ℕ) (ps : List Piece) → Among n ps → ResizedIn n (resize n z ps)
unfolding resize
resize_has n z [] h = elim h.among [ ]
resize_has n z (q ∷ ps) h = go (names n q) refl (λ i. resize_has n z ps i)
  where
    go : (t : Bool) → names n q ≡ t → (Among n ps → ResizedIn n (resize n z ps))
        → ResizedIn n (cond t (piece q.address z q.status ∷ ps) (q ∷ resize n z ps))
    go true f r = record { it = piece q.address z q.status; among = Memᴰ.head refl; address = named_address n q f }
    go false f r =
        let x = r (among_rest n q f h) in
        record { it = x.it; among = Memᴰ.tail x.among; address = x.address }

-- ---- good pieces have no byte in common

pub data Apart (a b : ℕ) (y : Piece) : Type 0 where
  before : behind y ≤ a → Apart a b y
  after : b ≤ y.address → Apart a b y

module _ (P : ℕ) (pos : 0 < P) where
  pub good_above : {k : Class} {a : ℕ} {ps : List Piece} {x : Piece} → GoodFrom P k a ps → Memᴰ x ps → a ≤ x.address
  good_above {x = x} (next d w g) (Memᴰ.head e) = omega (arith, apart_le P pos d, ap (λ (v : Piece). v.address) e)
  good_above {x = x} (next d w g) (Memᴰ.tail h) = omega (arith, apart_le P pos d, good_above g h)
  good_above {x = x} none x10 = elim x10 [ ]

  good_rest : {k : Class} {a : ℕ} {q : Piece} {ps : List Piece} → GoodFrom P k a (q ∷ ps) → GoodFrom P (class_of q.status) (behind q) ps
  good_rest (next d w g) = g

  pub insert_apart : (p : Piece) (ps : List Piece) {k : Class} {a : ℕ} {y : Piece} → GoodFrom P k a (insert p ps) → Memᴰ y ps
      → Apart p.address (behind p) y
  unfolding insert
  insert_apart p [] g h = elim h [ ]
  insert_apart p (q ∷ ps) {k} {a} {y} g h = go (ltb p.address q.address) g h (λ r i. insert_apart p ps r i)
    where
      Rest : Type 0
      Rest = GoodFrom P (class_of q.status) (behind q) (insert p ps) → Memᴰ y ps → Apart p.address (behind p) y

      back : GoodFrom P k a (q ∷ insert p ps) → Memᴰ y (q ∷ ps) → Rest → Apart p.address (behind p) y
      back r (Memᴰ.head e) f = before (omega (arith, good_above (good_rest r) (insert_has p ps), ap behind e))
      back r (Memᴰ.tail i) f = f (good_rest r) i

      go : (t : Bool) → GoodFrom P k a (cond t (p ∷ q ∷ ps) (q ∷ insert p ps)) → Memᴰ y (q ∷ ps) → Rest → Apart p.address (behind p) y
      go true r i f = after (good_above (good_rest r) i)
      go false r i f = back r i f

  -- y is the piece n, or has no byte in common with it when it is z bytes long
  pub data NamedOr (n : Name) (z : ℕ) (y : Piece) : Type 0 where
    is_named : names n y ≡ true → NamedOr n z y
    is_apart : Apart n.address (n.address + z) y → NamedOr n z y

  pub resize_apart : (n : Name) (z : ℕ) (ps : List Piece) {k : Class} {a : ℕ} {y : Piece} → GoodFrom P k a (resize n z ps) → Among n ps
      → Memᴰ y ps → NamedOr n z y
  unfolding resize
  resize_apart n z [] g among h = elim h [ ]
  resize_apart n z (q ∷ ps) {k} {a} {y} g among h = go (names n q) refl g h (λ r m i. resize_apart n z ps r m i)
    where
      Rest : Type 0
      Rest = GoodFrom P (class_of q.status) (behind q) (resize n z ps) → Among n ps → Memᴰ y ps → NamedOr n z y

      front : names n q ≡ true → GoodFrom P k a (piece q.address z q.status ∷ ps) → Memᴰ y (q ∷ ps) → NamedOr n z y
      front f r (Memᴰ.head e) = is_named (rw e f)
      front f r (Memᴰ.tail i) = is_apart (after (omega (arith, good_above (good_rest r) i, named_address n q f)))

      back : names n q ≡ false → GoodFrom P k a (q ∷ resize n z ps) → Memᴰ y (q ∷ ps) → Rest → NamedOr n z y
      back f r (Memᴰ.head e) rest =
          let x = resize_has n z ps (among_rest n q f among) in
          is_apart (before (omega (arith, good_above (good_rest r) x.among, x.address, ap behind e)))
      back f r (Memᴰ.tail i) rest = rest (good_rest r) (among_rest n q f among) i

      go : (t : Bool) → names n q ≡ t → GoodFrom P k a (cond t (piece q.address z q.status ∷ ps) (q ∷ resize n z ps)) → Memᴰ y (q ∷ ps)
          → Rest → NamedOr n z y
      go true f r i rest = front f r i
      go false f r i rest = back f r i rest

  -- ---- where the file ends

  last_within : (M a : ℕ) (ps : List Piece) → up P a ≤ M → ((x : Piece) → Memᴰ x ps → up P (behind x) ≤ M) → up P (last_end a ps) ≤ M
  unfolding last_end
  last_within M a [] l h = l
  last_within M a (x ∷ ps) l h = last_within M (behind x) ps (h x (Memᴰ.head refl)) (λ y i. h y (Memᴰ.tail i))

  pub end_within : (M : ℕ) (ps : List Piece) → ((x : Piece) → Memᴰ x ps → up P (behind x) ≤ M) → end_of P ps ≤ M
  unfolding end_of
  end_within M ps h = last_within M 0 ps (omega (arith, up_of P pos (border_zero P))) h
