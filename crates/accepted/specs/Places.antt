-- Where document 01's rule puts a request, by what the place is and not by how it is found.
--
--   NoneFits Fits es        no entry of es fits
--   InSection P k s es b    s bytes of class k go to b: into the smallest free entry that fits, the lowest of those as small.
--                           A small piece goes to its start; if none fits, to the first border in the smallest free large entry that fits a
--                           page. A large piece goes to the first border in its entry
--   NoSection P k s es      no free entry has a place: the only remaining one is at the end
--   PlaceIs P E k s es b    b is the rule's place in a file that ends at E
--
-- Assumes nothing. What is best is said in choose/specs/Choose.antt.
use Rattle.std.specs.Prelude.{ℕ, ◌≡◌}
use mathlib.Core.List.{List, Memᴰ}
use Rattle.choose.specs.Choose.{BestAt, FitsSmall, FitsLarge}
use Rattle.pages.specs.Pages.{FirstBorder}
use Rattle.pieces.specs.Pieces.{Small}
use Rattle.pieces.specs.declared.Class.TheVariants.{Large}
use Rattle.pieces.specs.declared.Class.{Class}
use Rattle.pieces.specs.declared.Piece.{Piece}

abbrev pub NoneFits : (Piece → Type 0) → List Piece → Type 0
NoneFits Fits es = (y : Piece) → Memᴰ y es → Fits y → ⊥

pub data InSection (P : ℕ) (k : Class) (s : ℕ) (es : List Piece) (b : ℕ) : Type 0 where
  in_small_entry : {i : ℕ} {x : Piece} → Small k → BestAt (FitsSmall k s) es i x → b ≡ x.address → InSection P k s es b
  in_page : {i : ℕ} {x : Piece} → Small k → NoneFits (FitsSmall k s) es → BestAt (FitsLarge P P) es i x → FirstBorder P x.address b
      → InSection P k s es b
  in_large_entry : {i : ℕ} {x : Piece} → k ≡ Large → BestAt (FitsLarge P s) es i x → FirstBorder P x.address b → InSection P k s es b

pub record NoSection (P : ℕ) (k : Class) (s : ℕ) (es : List Piece) : Type 0 where
  pub no_small_entry : Small k → NoneFits (FitsSmall k s) es
  pub no_page : Small k → NoneFits (FitsLarge P P) es
  pub no_large_entry : k ≡ Large → NoneFits (FitsLarge P s) es

pub data PlaceIs (P E : ℕ) (k : Class) (s : ℕ) (es : List Piece) (b : ℕ) : Type 0 where
  in_section : InSection P k s es b → PlaceIs P E k s es b
  at_the_end : NoSection P k s es → b ≡ E → PlaceIs P E k s es b
