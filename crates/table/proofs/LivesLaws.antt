-- Laws of the live entries of a list.
--
--   lives_live, lives_free     of a live entry before others, and of a free one
--   lives_free_append          free bytes before entries are not live
--   lives_append               of two lists, one behind the other
--
-- Assumes nothing.
use Prim.Native.Nat.{ℕ}
use mathlib.Core.List.{List, [], ◌∷◌, ◌++◌}
use mathlib.Core.Path.{◌≡◌, refl, ap}
use Rattle.pages.proofs.Numbers.{split}
use Rattle.pieces.specs.declared.Class.{Class}
use Rattle.pieces.specs.declared.Piece.{Piece}
use Rattle.pieces.specs.declared.Status.TheVariants.{Live, Free}
use Rattle.pieces.specs.declared.Status.{Status}
use Rattle.table.proofs.GapLaws.{free_none, free_cons}
use Rattle.table.specs.Fill.{lives, cons_live, free}

pub lives_live : (x : Piece) {c : Class} (es : List Piece) → x.status ≡ Live c → lives (x ∷ es) ≡ x ∷ lives es
unfolding lives
lives_live x es e = rw e

pub lives_free : (x : Piece) {c : Class} (es : List Piece) → x.status ≡ Free c → lives (x ∷ es) ≡ lives es
unfolding lives
lives_free x es e = rw e

pub lives_free_append : (c : Class) (a b : ℕ) (es : List Piece) → lives (free c a b ++ es) ≡ lives es
unfolding lives
lives_free_append c a b es = split b a (λ h. rw (free_none c a b h)) (λ h. rw (free_cons c a b h))

pub lives_append : (xs ys : List Piece) → lives (xs ++ ys) ≡ lives xs ++ lives ys
unfolding lives
lives_append [] ys = refl
lives_append (x ∷ xs) ys = go x.status (lives_append xs ys)
  where
    go : (t : Status) → lives (xs ++ ys) ≡ lives xs ++ lives ys → cons_live x t (lives (xs ++ ys)) ≡ cons_live x t (lives xs) ++ lives ys
    go (Live c) e = ap (λ (l : List Piece). x ∷ l) e
    go (Free c) e = e
