-- `sections` keeps the free entries of a class, in their order: the statement `SectionsRight` of specs/Order.antt.
--
--   free_of_test, test_free_of     the test whether a status is free of a class, and the status
--   sections_kept                  of entries in address order the sections are those that are free of the class
--   chain_order                    the entries of a table are in address order
--   sections_right                 the statement
--
use mathlib.Core.Bool.{Bool, true, false, cond}
use mathlib.Core.List.{List, [], ◌∷◌, Memᴰ}
use mathlib.Core.Path.{◌≡◌, refl, sym, ap, ◌∙◌}
use Prim.Native.Nat.{ℕ, ◌<◌}
use native.Mathlib.Omega.{arith}
use Rattle.pages.proofs.Numbers.{not_both}
use Rattle.pieces.proofs.PieceLaws.{same_class_lem, class_same}
use Rattle.pieces.specs.Pieces.{free_of}
use Rattle.pieces.specs.Words.{entries}
use Rattle.pieces.specs.declared.Class.{Class}
use Rattle.pieces.specs.declared.Piece.{Piece}
use Rattle.pieces.specs.declared.Status.TheVariants.{Live, Free}
use Rattle.pieces.specs.declared.Status.{Status}
use Rattle.sections.specs.Order.{InOrder, in_order_none, in_order_more, SectionsOf, SectionsRight}
use Rattle.sections.specs.Sections.{sections}
use Rattle.table.proofs.Chain.{ChainFrom, stop, step}
use Rattle.table.proofs.ChainLaws.{mem_from}
use Rattle.table.proofs.Theorems.{sound_chain}

-- ---- the test

pub free_of_test : (k : Class) (t : Status) → free_of k t ≡ true → t ≡ Free k
free_of_test k (Live c) h = absurd (not_both h refl)
free_of_test k (Free c) h = ap Free (same_class_lem c k h)

pub test_free_of : (k : Class) (t : Status) → t ≡ Free k → free_of k t ≡ true
test_free_of k t e = rw e (class_same k k refl)

-- ---- one entry more

module _ (k : Class) (x : Piece) (es : List Piece) (below : (y : Piece) → Memᴰ y es → x.address < y.address)
    (h : SectionsOf k es (sections k es)) where
  one_more : (t : Bool) → free_of k x.status ≡ t → SectionsOf k (x ∷ es) (cond t (x ∷ sections k es) (sections k es))
  one_more true e =
      record {
        all = all;
        among = among;
        free = free;
        in_order = in_order_more (λ y i. below y (h.among y i)) h.in_order;
      }
    where
      all : (y : Piece) → Memᴰ y (x ∷ es) → y.status ≡ Free k → Memᴰ y (x ∷ sections k es)
      all y (Memᴰ.head q) f = Memᴰ.head q
      all y (Memᴰ.tail i) f = Memᴰ.tail (h.all y i f)

      among : (y : Piece) → Memᴰ y (x ∷ sections k es) → Memᴰ y (x ∷ es)
      among y (Memᴰ.head q) = Memᴰ.head q
      among y (Memᴰ.tail i) = Memᴰ.tail (h.among y i)

      free : (y : Piece) → Memᴰ y (x ∷ sections k es) → y.status ≡ Free k
      free y (Memᴰ.head q) = ap (λ (p : Piece). p.status) q ∙ free_of_test k x.status e
      free y (Memᴰ.tail i) = h.free y i
  one_more false e =
      record { all = all; among = λ y i. Memᴰ.tail (h.among y i); free = h.free; in_order = h.in_order }
    where
      all : (y : Piece) → Memᴰ y (x ∷ es) → y.status ≡ Free k → Memᴰ y (sections k es)
      all y (Memᴰ.head q) f = absurd (not_both (test_free_of k x.status (ap (λ (p : Piece). p.status) (sym q) ∙ f)) e)
      all y (Memᴰ.tail i) f = h.all y i f

sections_kept : (k : Class) (es : List Piece) → InOrder es → SectionsOf k es (sections k es)
unfolding sections
sections_kept k [] o = record { all = λ x i f. i; among = λ x i. i; free = λ x i. none i; in_order = in_order_none }
  where
    none : {x : Piece} {A : Type 0} → Memᴰ x [] → A
    none i = elim i [ ]
sections_kept k (x ∷ es) (in_order_more l o) = one_more k x es l (sections_kept k es o) (free_of k x.status) refl

-- ---- the entries of a table

chain_order : {P E a : ℕ} {t : Status} {es : List Piece} → ChainFrom P E t a es → InOrder es
chain_order (stop e b) = in_order_none
chain_order (step {a = a} {es = es} v r) = in_order_more below (chain_order r)
  where
    below : (y : Piece) → Memᴰ y es → a < y.address
    below y i = omega (arith, v.some, mem_from r i)

pub sections_right : SectionsRight
sections_right P M E n w k s = sections_kept k (entries w 0 n) (chain_order (sound_chain s))
