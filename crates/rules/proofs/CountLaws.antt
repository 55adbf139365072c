-- A release needs no more entries than there are.
--
--   tick a b            1 if there is a byte from a to b, and else 0: the entries of `free`
--   release_count       without one live piece a table has no more entries
--
-- Assumes nothing.
use Prim.Native.Nat.{ℕ, suc, ◌+◌, ◌≤◌, ◌<◌, min}
use mathlib.Core.Bool.{Bool, true, false, cond}
use mathlib.Core.List.{List, ◌∷◌, ◌++◌}
use mathlib.Core.Path.{◌≡◌, refl, sym, ap, ◌∙◌}
use native.Mathlib.Omega.{arith}
use lib.Dec.{ltb}
use lib.ListN.{length, length-append}
use borrow.Author.Tests.{lt-ltb, le-ltb}
use Rattle.pages.proofs.Numbers.{split}
use Rattle.pages.proofs.PageLaws.{dec_border, down_le, down_lt, down_border, up_border, up_ge, up_lt, border_same, up_in, up_of, up_least, down_most, up_down}
use Rattle.pages.specs.Pages.{down, up, Border}
use Rattle.pieces.proofs.PieceLaws.{View, small, large, view}
use Rattle.pieces.specs.Pieces.{piece, Small}
use Rattle.pieces.specs.declared.Class.TheVariants.{Large}
use Rattle.pieces.specs.declared.Class.{Class}
use Rattle.pieces.specs.declared.Piece.{Piece}
use Rattle.pieces.specs.declared.Status.TheVariants.{Live}
use Rattle.rules.proofs.RemoveLaws.{remove_good, apart_over}
use Rattle.rules.specs.Editing.{Name, names, remove}
use Rattle.table.proofs.Build.{Low, High, low, high}
use Rattle.table.proofs.GapLaws.{free_none, free_cons, lo_small, lo_large, hi_small, gap_is, apart_le}
use Rattle.table.specs.Fill.{free, lo, hi, gap, fill_from, fill, Whole, Apart, border_between, one_family, GoodFrom, none, next, Good}

-- 1 if there is a byte from a to b, and else 0
pub tick : ℕ → ℕ → ℕ
tick a b = cond (ltb a b) 1 0

tick_one : (a b : ℕ) → a < b → tick a b ≡ 1
unfolding tick
tick_one a b h = simp (lt-ltb a b h)

tick_none : (a b : ℕ) → b ≤ a → tick a b ≡ 0
unfolding tick
tick_none a b h = simp (le-ltb a b h)

tick_le : (a b : ℕ) → tick a b ≤ 1
tick_le a b = split b a (λ h. omega (arith, tick_none a b h)) (λ h. omega (arith, tick_one a b h))

length_free : (c : Class) (a b : ℕ) → length (free c a b) ≡ tick a b
length_free c a b = split b a (λ h. rw (free_none c a b h, tick_none a b h)) (λ h. rw (free_cons c a b h, tick_one a b h))

length_gap : (P : ℕ) (k : Class) (a b : ℕ) (m : Class) {l h : ℕ} → lo P k a b ≡ l → hi P l b m ≡ h
    → length (gap P k a b m) ≡ tick a l + (tick l h + tick h b)
length_gap P k a b m e f = rw (gap_is P k a b m e f) (simp (length-append, length_free))

module _ (P : ℕ) (pos : 0 < P) where
  -- where the upper border of a gap is below the next piece, it is that piece's page
  hi_page : {m : Class} (l b : ℕ) → Small m → l ≤ down P b → hi P l b m ≡ down P b
  hi_page l b s h = hi_small P l b s ∙ omega arith

  lo_under : {k : Class} (a b : ℕ) → View k → a ≤ down P b → lo P k a b ≤ down P b
  lo_under a b (small s) h = omega (arith, lo_small P a b s, up_least P pos {a = a} {b = down P b} (down_border P pos b) h)
  lo_under a b large h = omega (arith, lo_large P a b)

  -- a piece of class m from b to b + n stands right behind one of class k that ends at b, off the border
  touching : {k m : Class} {b : ℕ} → Small k → b < up P b → Apart P k b b m → Small m
  touching s h (border_between g) = absurd (omega arith)
  touching s h (one_family g t q) = rw q at s

  up_touching : {m : Class} {b n : ℕ} → Small m → b < up P b → Whole P m b n → up P (b + n) ≡ up P b
  up_touching {b = b} {n = n} s h w =
      elim (dec_border P b) [
        | yes bo ↦ absurd (omega (arith, up_of P pos bo))
        | no nb ↦ up_in P pos (up_border P pos b) (omega (arith, up_down P pos nb, w.small s)) (omega (arith, up_lt P pos b))
      ]

  same_low : {k m : Class} {b n : ℕ} (b' : ℕ) → Small k → b < lo P k b b' → Apart P k b b m → Whole P m b n → lo P m (b + n) b' ≡ lo P k b b'
  same_low {k} {m} {b} {n} b' s h d w =
      let e : lo P k b b' ≡ min b' (up P b) = lo_small P b b' s in
      let g : b < up P b = omega arith in
      let t : Small m = touching s g d in
      lo_small P (b + n) b' t ∙ (rw (up_touching t g w) (sym e))

  -- a small piece that ends in the page of the next piece: what is before it stays as it is
  record Shared (k m : Class) (a b : ℕ) (l' h' : ℕ) : Type 0 where
    low_same : lo P k a b ≡ l'
    high_same : hi P l' b m ≡ h'

  lo_same : {k : Class} (a b b' : ℕ) → View k → lo P k a b' ≤ down P b' → down P b' < b' → down P b' ≤ b → lo P k a b ≡ lo P k a b'
  lo_same a b b' (small s) h g r = lo_small P a b s ∙ (omega (arith, lo_small P a b' s) ∙ sym (lo_small P a b' s))
  lo_same a b b' large h g r = lo_large P a b ∙ sym (lo_large P a b')

  shared : (k : Class) {m m' : Class} (a : ℕ) {b n b' : ℕ} → Apart P m (b + n) b' m' → Whole P m b n → lo P k a b' ≤ down P b'
      → down P b' < b' → down P b' < b + n → Shared k m a b (lo P k a b') (down P b')
  shared k a {b} {n} {b'} (border_between g) w h u r =
      absurd (omega (arith, up_ge P pos (b + n), down_most P pos {a = b'} {b = up P (b + n)} (up_border P pos (b + n)) g))
  shared k {m} {m'} a {b} {n} {b'} (one_family g s q) w h u r =
      let e : down P b ≡ down P b' =
      border_same P pos (down_border P pos b) (down_border P pos b') (omega (arith, down_le P pos b, down_lt P pos b')) (omega (arith, w.small s)) in
      let v : down P b' ≤ b = omega (arith, down_le P pos b) in
      record { low_same = lo_same a b b' (view k) h u v; high_same = hi_small P (lo P k a b') b s ∙ omega arith }

  -- ---- the entries of a gap, counted

  module _ {k m m' : Class} {a b n b' : ℕ} (d : Apart P k a b m) (w : Whole P m b n) (d' : Apart P m (b + n) b' m') (al' : m' ≡ Large → Border P b') where
    abbrev e : ℕ
    e = b + n

    abbrev l' : ℕ
    l' = lo P k a b'

    abbrev h' : ℕ
    h' = hi P l' b' m'

    abbrev l₁ : ℕ
    l₁ = lo P k a b

    abbrev h₁ : ℕ
    h₁ = hi P l₁ b m

    abbrev l₂ : ℕ
    l₂ = lo P m e b'

    abbrev h₂ : ℕ
    h₂ = hi P l₂ b' m'

    low' : Low P pos k a b' m' l'
    low' = low P pos (view k) (apart_over P pos n d d')

    high' : High P pos b' m' l' h'
    high' = high P pos l' b' (view m') low'.l_b low'.below al'

    -- the pieces touch: the gap behind the middle one has the free large entry
    touched : a < l' → b ≤ a → l₂ ≡ l'
    touched x z =
        let q : a ≡ b = omega (arith, apart_le P pos d) in
        rw q (same_low b' (low'.own x) (rw q at x) (rw q at d) w)

    first_two : tick a l' + tick l' h' ≤ tick a l₁ + (1 + tick l₂ h₂)
    first_two =
        split l' a (λ x. omega (arith, tick_none a l' x, tick_le l' h'))
        (λ x. split h' l' (λ y. omega (arith, tick_none l' h' y, tick_le a l'))
        (λ y. split b a
        (λ z. rw (touched x z) (omega (arith, tick_le a l')))
        (λ z. let u : a < l₁ = omega (arith, lo_small P a b (low'.own x), low'.reach) in
        omega (arith, tick_one a l₁ u, tick_le a l', tick_le l' h'))))

    -- the free entry in the next piece's page is there already, or the middle piece was before it in that page
    gap_count : tick a l' + (tick l' h' + tick h' b') ≤ (tick a l₁ + (tick l₁ h₁ + tick h₁ b)) + suc (tick e l₂ + (tick l₂ h₂ + tick h₂ b'))
    gap_count =
        split b' h' (λ x. omega (arith, tick_none h' b' x, first_two))
        (λ x.
        let s : Small m' = high'.own x in
        let g : l' ≤ down P b' = low'.below (omega (arith, high'.l_h)) in
        let f : h' ≡ down P b' = hi_page l' b' s g in
        split e (down P b')
        (λ y.
        let f₂ : h₂ ≡ h' = hi_page l₂ b' s (lo_under e b' (view m) y) ∙ sym f in
        let t : tick h₂ b' ≡ tick h' b' = ap (λ (v : ℕ). tick v b') f₂ in
        omega (arith, t, first_two))
        (λ y.
        let v : Shared k m a b l' (down P b') = shared k a d' w g (omega arith) y in
        let t : tick a l₁ ≡ tick a l' = ap (tick a) v.low_same in
        let u : tick l₁ h₁ ≡ tick l' h' = rw (v.low_same, v.high_same, f) in
        omega (arith, t, u, tick_le h' b')))

  -- without the piece at b the rest behind class k and a has no more entries than with it
  drop_count : {k m : Class} {a b n : ℕ} {ps : List Piece} → Apart P k a b m → Whole P m b n → GoodFrom P m (b + n) ps
      → length (fill_from P k a ps) ≤ length (gap P k a b m) + suc (length (fill_from P m (b + n) ps))
  unfolding fill_from
  drop_count {k} {m} {a} {b} {n} d w none =
      omega (arith, length_free k a (up P a), tick_le a (up P a))
  drop_count {k} {m} {a} {b} {n} d w (next {m = m'} {b = b'} {z = n'} {ps = ps} d' w' g) =
      let c = gap_count d w d' w'.aligned in
      simp (length-append, length_gap P k a b' m' refl refl, length_gap P k a b m refl refl, length_gap P m (b + n) b' m' refl refl)
      (omega (arith, c))

  pub remove_count : {k : Class} {a : ℕ} {ps : List Piece} (x : Name) → GoodFrom P k a ps
      → length (fill_from P k a (remove x ps)) ≤ length (fill_from P k a ps)
  unfolding remove fill_from
  remove_count x none = omega arith
  remove_count {k} {a} x (next {m = m} {b = b} {z = n} {ps = ps} d w g) = go (names x (piece b n (Live m))) (remove_count x g)
    where
      go : (t : Bool) → length (fill_from P m (b + n) (remove x ps)) ≤ length (fill_from P m (b + n) ps)
          → length (fill_from P k a (cond t (remove x ps) (piece b n (Live m) ∷ remove x ps)))
          ≤ length (gap P k a b m ++ (piece b n (Live m) ∷ fill_from P m (b + n) ps))
      go true i = simp length-append (omega (arith, drop_count d w (remove_good P pos x g)))
      go false i = simp length-append (omega arith)

-- a release's table has no more entries than the one before
pub release_count : {P : ℕ} {ps : List Piece} (x : Name) → 0 < P → Good P ps → length (fill P (remove x ps)) ≤ length (fill P ps)
unfolding fill
release_count {P} x pos g = remove_count P pos x g
