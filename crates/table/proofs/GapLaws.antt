-- Laws of the entries between two live pieces, and of the two borders of a gap. Proofs use these and do not open `free`, `lo`, `hi` or `gap`.
--
-- In this order: a free entry, if there is one; the two borders by class; the gap by its borders; what holds where two pieces touch.
--
-- Assumes nothing.
use Prim.Native.Nat.{ℕ, ◌+◌, ◌-◌, ◌≤◌, ◌<◌, min, max}
use mathlib.Core.List.{[], ◌∷◌, ◌++◌}
use mathlib.Core.Path.{◌≡◌, refl, ◌∙◌}
use native.Mathlib.Nat.{add-sub_cancel_left}
use native.Mathlib.Omega.{arith}
use borrow.Author.Tests.{lt-ltb, le-ltb}
use Rattle.pages.proofs.PageLaws.{down_le, up_ge, up_of}
use Rattle.pages.specs.Pages.{down, up, Border}
use Rattle.pieces.proofs.PieceLaws.{small, large, view}
use Rattle.pieces.specs.Pieces.{piece, Small, metadata, raw}
use Rattle.pieces.specs.declared.Class.TheVariants.{Large}
use Rattle.pieces.specs.declared.Class.{Class}
use Rattle.pieces.specs.declared.Status.TheVariants.{Free}
use Rattle.table.specs.Fill.{free, lo, hi, gap, Apart, border_between, one_family}

-- ---- a free entry

pub free_none : (c : Class) (a b : ℕ) → b ≤ a → free c a b ≡ []
unfolding free
free_none c a b h = simp (le-ltb a b h)

pub free_here : (c : Class) (a : ℕ) → free c a a ≡ []
free_here c a = free_none c a a (omega arith)

pub free_cons : (c : Class) (a b : ℕ) → a < b → free c a b ≡ piece a (b - a) (Free c) ∷ []
unfolding free
free_cons c a b h = simp (lt-ltb a b h)

pub free_some : (c : Class) (a n : ℕ) → 0 < n → free c a (a + n) ≡ piece a n (Free c) ∷ []
unfolding free
free_some c a n h = let l : a < a + n = omega arith in simp (lt-ltb a (a + n) l, add-sub_cancel_left)

-- ---- the borders of a gap

pub lo_small : {k : Class} (P a b : ℕ) → Small k → lo P k a b ≡ min b (up P a)
unfolding lo
lo_small P a b metadata = refl
lo_small P a b raw = refl

pub lo_large : (P a b : ℕ) → lo P Large a b ≡ a
unfolding lo
lo_large P a b = refl

pub hi_small : {m : Class} (P l b : ℕ) → Small m → hi P l b m ≡ max l (down P b)
unfolding hi
hi_small P l b metadata = refl
hi_small P l b raw = refl

pub hi_large : (P l b : ℕ) → hi P l b Large ≡ b
unfolding hi
hi_large P l b = refl

pub gap_is : (P : ℕ) (k : Class) (a b : ℕ) (m : Class) {l h : ℕ} → lo P k a b ≡ l → hi P l b m ≡ h
    → gap P k a b m ≡ free k a l ++ (free Large l h ++ free m h b)
unfolding gap
gap_is P k a b m el eh = simp (el, eh)

module _ (P : ℕ) (pos : 0 < P) where
  pub lo_here : (k : Class) (a : ℕ) → lo P k a a ≡ a
  lo_here k a =
      elim (view k) as (λ k _. lo P k a a ≡ a) [
        | small s ↦ lo_small P a a s ∙ omega (arith, up_ge P pos a)
        | large ↦ lo_large P a a
      ]

  pub hi_here : (m : Class) (a : ℕ) → hi P a a m ≡ a
  hi_here m a =
      elim (view m) as (λ m _. hi P a a m ≡ a) [
        | small s ↦ hi_small P a a s ∙ omega (arith, down_le P pos a)
        | large ↦ hi_large P a a
      ]

  pub lo_border : (k : Class) {a b : ℕ} → Border P a → a ≤ b → lo P k a b ≡ a
  lo_border k {a} {b} h l =
      elim (view k) as (λ k _. lo P k a b ≡ a) [
        | small s ↦ lo_small P a b s ∙ omega (arith, up_of P pos h)
        | large ↦ lo_large P a b
      ]

  -- nothing is between a piece and one that starts where it ends
  pub gap_here : (k m : Class) (a : ℕ) → gap P k a a m ≡ []
  gap_here k m a =
      gap_is P k a a m (lo_here k a) (hi_here m a)
      ∙ simp (free_here k a, free_here Large a, free_here m a)

  pub apart_le : {k m : Class} {a b : ℕ} → Apart P k a b m → a ≤ b
  apart_le {a = a} (border_between h) = omega (arith, up_ge P pos a)
  apart_le (one_family l s q) = l
