-- When a piece may become longer or shorter, in document 01's words: the conditions of refusals 8 and 9, and of the rules read literally. The
-- tests that the code makes are in Room.antt.
--
--   RoomBehind P E es a z m c    the stated room for m bytes behind a piece of class c that has z bytes at a, one of the entries es
--   Remains P c z k              enough remains of a piece of class c and z bytes without k
--
-- Assumes nothing. That each test holds exactly where its condition does is proved in proofs/ConditionLaws.antt.
use mathlib.Core.List.{List, Memᴰ}
use Rattle.std.specs.Prelude.{◌≡◌, ℕ, ◌+◌, ◌≤◌, ◌<◌}
use Rattle.pages.specs.Pages.{Border}
use Rattle.pieces.specs.Pieces.{Small, IsFree}
use Rattle.pieces.specs.declared.Class.{Class}
use Rattle.pieces.specs.declared.Class.TheVariants.{Large}
use Rattle.pieces.specs.declared.Piece.{Piece}
use Rattle.pieces.specs.declared.Status.TheVariants.{Free}

-- 8: a free entry directly behind it, for a small piece in the page, with at least m bytes, and a small piece stays below P; a large one
-- at the file's end has room for any m
pub data RoomBehind (P E : ℕ) (es : List Piece) (a z m : ℕ) : Class → Type 0 where
  small_room : {c : Class} {y : Piece} → Small c → Memᴰ y es → y.address ≡ a + z → IsFree y.status → (Border P (a + z) → ⊥)
      → m ≤ y.size → z + m < P → RoomBehind P E es a z m c
  large_room : {y : Piece} → Memᴰ y es → y.address ≡ a + z → y.status ≡ Free Large → m ≤ y.size → RoomBehind P E es a z m Large
  room_at_end : a + z ≡ E → RoomBehind P E es a z m Large

-- 9: at least 1 byte of a small piece, at least P bytes of a large one
pub record Remains (P : ℕ) (c : Class) (z k : ℕ) : Type 0 where
  pub small : Small c → 1 + k ≤ z
  pub large : c ≡ Large → P + k ≤ z
