-- The free sections of one class, by what they are and not by how they are found.
--
--   InOrder xs            each of xs has a lower address than all behind it
--   SectionsOf k es xs    xs are the free entries of class k among es, all of them and no other, in address order
--   SectionsRight         of a sound table `sections` (Sections.antt) are these
--
use mathlib.Core.List.{List, [], ◌∷◌, Memᴰ}
use Rattle.std.specs.Prelude.{◌≡◌, ℕ, ◌<◌}
use Rattle.pieces.specs.Words.{entries}
use Rattle.pieces.specs.declared.Class.{Class}
use Rattle.pieces.specs.declared.Piece.{Piece}
use Rattle.pieces.specs.declared.Status.TheVariants.{Free}
use Rattle.sections.specs.Sections.{sections}
use Rattle.table.specs.Sound.{Sound}

pub data InOrder : List Piece → Type 0 where
  in_order_none : InOrder []
  in_order_more : {x : Piece} {xs : List Piece} → ((y : Piece) → Memᴰ y xs → x.address < y.address) → InOrder xs → InOrder (x ∷ xs)

pub record SectionsOf (k : Class) (es xs : List Piece) : Type 0 where
  pub all : (x : Piece) → Memᴰ x es → x.status ≡ Free k → Memᴰ x xs
  pub among : (x : Piece) → Memᴰ x xs → Memᴰ x es
  pub free : (x : Piece) → Memᴰ x xs → x.status ≡ Free k
  pub in_order : InOrder xs

abbrev pub SectionsRight : Type 0
SectionsRight = (P M E n : ℕ) (w : List ℕ) (k : Class) → Sound P M E n w → SectionsOf k (entries w 0 n) (sections k (entries w 0 n))
