-- Laws of a name, and of removing a live piece.
--
--   named_address, named_size    what a name says
--   remove_good      good live pieces without one are good
--   remove_swap      two removals in either order leave the same
--
-- Assumes nothing.
use Prim.Native.Nat.{ℕ, ◌+◌, ◌<◌}
use mathlib.Core.Bool.{Bool, true, false, cond}
use mathlib.Core.List.{List, [], ◌∷◌}
use mathlib.Core.Path.{◌≡◌, refl, ap, ◌∙◌}
use native.Mathlib.Omega.{arith}
use lib.Dec.{eqb}
use borrow.Author.Tests.{eqb-true}
use Rattle.pages.proofs.Numbers.{and_left, and_right}
use Rattle.pages.proofs.PageLaws.{up_mono}
use Rattle.pieces.specs.Pieces.{piece}
use Rattle.pieces.specs.declared.Class.{Class}
use Rattle.pieces.specs.declared.Piece.{Piece}
use Rattle.pieces.specs.declared.Status.TheVariants.{Live}
use Rattle.rules.specs.Editing.{Name, names, remove}
use Rattle.table.proofs.GapLaws.{apart_le}
use Rattle.table.specs.Fill.{Apart, border_between, one_family, GoodFrom, none, next}

-- ---- names

pub named_address : (n : Name) (x : Piece) → names n x ≡ true → x.address ≡ n.address
named_address n x e = eqb-true x.address n.address (and_left (eqb x.address n.address) (eqb x.size n.size) e)

pub named_size : (n : Name) (x : Piece) → names n x ≡ true → x.size ≡ n.size
named_size n x e = eqb-true x.size n.size (and_right (eqb x.address n.address) (eqb x.size n.size) e)

-- ---- what is left

module _ (P : ℕ) (pos : 0 < P) where
  pub apart_over : {k m m' : Class} {a b b' : ℕ} (n : ℕ) → Apart P k a b m → Apart P m (b + n) b' m' → Apart P k a b' m'
  apart_over n (border_between h) d = border_between (omega (arith, apart_le P pos d))
  apart_over {a = a} {b = b} n (one_family l s q) (border_between h) =
      border_between (omega (arith, up_mono P pos {a = a} {b = b + n} (omega arith)))
  apart_over n (one_family l s q) (one_family l' s' q') = one_family (omega arith) s (q ∙ q')

  drop_first : {k m : Class} {a b : ℕ} {ps : List Piece} (n : ℕ) → Apart P k a b m → GoodFrom P m (b + n) ps → GoodFrom P k a ps
  drop_first n d none = none
  drop_first n d (next d' w g) = next (apart_over n d d') w g

  pick_good : {k : Class} {a : ℕ} {x y : List Piece} (t : Bool) → GoodFrom P k a x → GoodFrom P k a y → GoodFrom P k a (cond t x y)
  pick_good true x y = x
  pick_good false x y = y

  pub remove_good : {k : Class} {a : ℕ} {ps : List Piece} (n : Name) → GoodFrom P k a ps → GoodFrom P k a (remove n ps)
  unfolding remove
  remove_good n none = none
  remove_good n (next {m = m} {b = b} {z = z} d w g) =
      let r = remove_good n g in
      pick_good (names n (piece b z (Live m))) (drop_first z d r) (next d w r)

-- ---- removals commute

pub remove_swap : (n m : Name) (ps : List Piece) → remove n (remove m ps) ≡ remove m (remove n ps)
unfolding remove
remove_swap n m [] = refl
remove_swap n m (p ∷ ps) = go (names n p) (names m p) refl refl (remove_swap n m ps)
  where
    go : (s t : Bool) → names n p ≡ s → names m p ≡ t → remove n (remove m ps) ≡ remove m (remove n ps)
        → remove n (remove m (p ∷ ps)) ≡ remove m (remove n (p ∷ ps))
    go true true e f i = simp (e, f) i
    go true false e f i = simp (e, f) i
    go false true e f i = simp (e, f) i
    go false false e f i = simp (e, f) (ap (λ (l : List Piece). p ∷ l) i)
