-- A piece that is put into free bytes, made longer or made shorter leaves good live pieces.
--
--   Fits, insert_good       where a piece may be put: at the end, into a free large entry from a border on, at a free small entry's start
--   Room, resize_good       how long a piece may become: shorter, into the free entry of its class behind it, or beyond the end
--
-- Assumes nothing.
use Prim.Native.Nat.{ℕ, ◌+◌, ◌≤◌, ◌<◌}
use mathlib.Core.List.{List, [], ◌∷◌}
use mathlib.Core.Path.{◌≡◌, refl}
use native.Mathlib.Omega.{arith}
use borrow.Author.Tests.{eq-eqb, ne_eqb}
use Rattle.pages.proofs.PageLaws.{dec_border, up_of, up_least, up_mono}
use Rattle.pages.specs.Pages.{up, Border}
use Rattle.pieces.specs.Pieces.{piece, class_of, Small}
use Rattle.pieces.specs.declared.Class.TheVariants.{Large}
use Rattle.pieces.specs.declared.Class.{Class}
use Rattle.pieces.specs.declared.Piece.{Piece}
use Rattle.pieces.specs.declared.Status.TheVariants.{Live, Free}
use Rattle.pieces.specs.declared.Status.{Status}
use Rattle.rules.proofs.InsertLaws.{insert_first, insert_later, above_good}
use Rattle.rules.specs.Editing.{insert, resize}
use Rattle.table.proofs.Build.{large_apart}
use Rattle.table.proofs.Canon.{canon, live_apart, live_whole, apart_widen}
use Rattle.table.proofs.Chain.{ChainFrom, stop, step}
use Rattle.table.specs.Fill.{lives, Whole, Apart, border_between, one_family, GoodFrom, none, next}

module _ (P : ℕ) (pos : 0 < P) where
  good_earlier : {c : Class} {e' e : ℕ} {ps : List Piece} → e' ≤ e → GoodFrom P c e ps → GoodFrom P c e' ps
  good_earlier l none = none
  good_earlier {c} {e'} {e} l (next d w g) = next (go d) w g
    where
      go : {b : ℕ} {m : Class} → Apart P c e b m → Apart P c e' b m
      go (border_between h) = border_between (omega (arith, up_mono P pos l))
      go (one_family h s q) = one_family (omega arith) s q

  -- what is good behind a free large entry is good behind any piece that ends before that entry does
  good_any : {c : Class} {e' e : ℕ} {ps : List Piece} → e' ≤ e → GoodFrom P Large e ps → GoodFrom P c e' ps
  good_any l none = none
  good_any {e' = e'} l (next {b = b} d w g) =
      let h : up P e' ≤ b = omega (arith, large_apart P pos d, up_mono P pos l) in
      next (border_between h) w g

  good_widen : {k c : Class} {a : ℕ} {ps : List Piece} (n : ℕ) → (¬ Border P a → k ≡ c) → GoodFrom P c (a + n) ps → GoodFrom P k a ps
  good_widen n f none = none
  good_widen n f (next d w g) = next (apart_widen P pos n f d) w g

  small_apart : {k m : Class} (a : ℕ) → Small m → (¬ Border P a → k ≡ m) → Apart P k a a m
  small_apart a s f =
      elim (dec_border P a) [
        | yes b ↦ border_between (omega (arith, up_of P pos b))
        | no nb ↦ one_family (omega arith) (rw (f nb) s) (f nb)
      ]

  -- ---- where a piece of class m, z bytes long, may be put at b

  pub data Fits (E b z : ℕ) (m : Class) : List Piece → Type 0 where
    at_end_lem : b ≡ E → Fits E b z m []
    in_large_lem : {a n : ℕ} {es : List Piece} → Border P b → a ≤ b → b + z ≤ a + n → Fits E b z m (piece a n (Free Large) ∷ es)
    in_small_lem : {n : ℕ} {es : List Piece} → Small m → z ≤ n → Fits E b z m (piece b n (Free m) ∷ es)
    beyond : {x : Piece} {es : List Piece} → Fits E b z m es → Fits E b z m (x ∷ es)

  fits_from : {E b z a : ℕ} {m : Class} {s : Status} {es : List Piece} → ChainFrom P E s a es → Fits E b z m es → a ≤ b
  fits_from (stop e bo) (at_end_lem q) = omega arith
  fits_from (step y r) (in_large_lem bo l h) = l
  fits_from (step y r) (in_small_lem s h) = omega arith
  fits_from (step y r) (beyond f) = omega (arith, fits_from r f)

  pub insert_good : {E b z a : ℕ} {m : Class} {s : Status} {es : List Piece} → Whole P m b z → ChainFrom P E s a es → Fits E b z m es
      → GoodFrom P (class_of s) a (insert (piece b z (Live m)) (lives es))
  unfolding lives insert
  insert_good {b = b} {a = a} w (stop e bo) (at_end_lem q) =
      let h : up P a ≤ b = omega (arith, up_of P pos bo) in
      next (border_between h) w none
  insert_good {b = b} {z = z} {m = m} {s = s} w (step {a = a} {n = n} y r) (in_large_lem bo l h) =
      let g : GoodFrom P Large (a + n) _ = (canon P pos r).good in
      rw (insert_first (piece b z (Live m)) (above_good P pos (omega (arith, w.some)) g))
      (next (border_between (up_least P pos bo l)) w (good_any h g))
  insert_good {b = b} {z = z} {m = m} {s = s} w (step {a = a} {n = n} y r) (in_small_lem t h) =
      let g : GoodFrom P m (b + n) _ = (canon P pos r).good in
      rw (insert_first (piece b z (Live m)) (above_good P pos (omega (arith, w.some)) g))
      (next (small_apart b t y.family) w (good_earlier (omega arith) g))
  insert_good {b = b} {z = z} {m = m} w (step {t = Live c} {a = a} {n = n} {es = es} y r) (beyond f) =
      rw (insert_later (piece b z (Live m)) (piece a n (Live c)) (lives es) (omega (arith, fits_from r f)))
      (next (live_apart P pos y) (live_whole P pos y) (insert_good w r f))
  insert_good w (step {t = Free c} {n = n} y r) (beyond f) = good_widen n y.family (insert_good w r f)

  -- ---- a live piece made shorter or longer

  -- a piece named by b and n, of class m, has room for z bytes: it had as many, or has them with the free bytes of its class behind it, or
  -- ends at the end of the file
  pub data Room (b n z : ℕ) (m : Class) : List Piece → Type 0 where
    less : {es : List Piece} → z ≤ n → Room b n z m (piece b n (Live m) ∷ es)
    last : Room b n z m (piece b n (Live m) ∷ [])
    more : {x f : ℕ} {k : Class} {es : List Piece} → k ≡ m → z ≤ n + f → Room b n z m (piece b n (Live m) ∷ piece x f (Free k) ∷ es)
    further : {x : Piece} {es : List Piece} → Room b n z m es → Room b n z m (x ∷ es)

  room_from : {E b n z a : ℕ} {m : Class} {s : Status} {es : List Piece} → ChainFrom P E s a es → Room b n z m es → a ≤ b
  room_from (step y r) (less l) = omega arith
  room_from (step y r) last = omega arith
  room_from (step y r) (more q l) = omega arith
  room_from (step y r) (further f) = omega (arith, room_from r f)
  room_from {E = E} {b = b} {n = n} {z = z} {m = m} (stop {s = s} {a = a} _ _) x7 = elim x7 [ ]

  pub resize_good : {E b n z a : ℕ} {m : Class} {s : Status} {es : List Piece} → Whole P m b z → ChainFrom P E s a es → Room b n z m es
      → GoodFrom P (class_of s) a (resize (record { address = b; size = n }) z (lives es))
  unfolding lives resize
  resize_good {b = b} {n = n} w (step y r) (less l) =
      simp (eq-eqb b b refl, eq-eqb n n refl) (next (live_apart P pos y) w (good_earlier (omega arith) (canon P pos r).good))
  resize_good {b = b} {n = n} w (step y r) last = simp (eq-eqb b b refl, eq-eqb n n refl) (next (live_apart P pos y) w none)
  resize_good {b = b} {n = n} {m = m} w (step y (step {n = f} y' r)) (more q l) =
      let g = rw q at (canon P pos r).good in
      simp (eq-eqb b b refl, eq-eqb n n refl) (next (live_apart P pos y) w (good_earlier {c = m} {e = b + n + f} (omega arith) g))
  resize_good {b = b} {n = n} w (step {t = Live c} {a = a} y r) (further f) =
      simp (ne_eqb a b (λ e. omega (arith, room_from r f, y.some))) (next (live_apart P pos y) (live_whole P pos y) (resize_good w r f))
  resize_good w (step {t = Free c} {n = n} y r) (further f) = good_widen n y.family (resize_good w r f)
  resize_good {E = E} {b = b} {n = n} {z = z} {m = m} w (stop {s = s} {a = a} _ _) x11 = elim x11 [ ]
