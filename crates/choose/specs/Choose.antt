-- The best place for a piece, as a walk over the entries finds it and as document 01 says it.
--
--   room_in P k s a z      s bytes of class k have room in z bytes at a: a large piece goes to the first multiple of P not below a
--   fits_in P k s x        the entry x is free, of class k, and has room for s bytes
--   Chosen                 an entry's number with its piece, or nothing where none fits
--   better z b             z bytes are fewer than those of the best place b so far
--   best_of fits i b x     the best place so far, of b and of entry i, which is x, if that fits
--   best fits i b es       the best place, of b and of those entries of es that fit; the first of es is entry i
--
-- The same once more, by what it is and not by how it is found, and the statements that both agree:
--
--   BestAt Fits es i x     x is entry i of es and fits; nothing that fits is smaller; of those as small none is lower
--   Best Fits es r         r is such a place, or nothing where none fits
--   OneBest Fits es r      r is the best place, and no other is
--   NoneEmpty es           sizes are at least 1
--   BestPlace              of entries that tile, as those of every sound table do, the walk finds the best place, for any test
--   FitsSmall k s x        x is free small of class k, with at least s bytes
--   FitsLarge P s x        x is free large, at a of z bytes, and b + s <= a + z for the first multiple b of P not below a
--   SmallPlace, LargePlace the walk with fits_in finds the best place by these
--
-- `BestPlace`, `SmallPlace` and `LargePlace` are proved in proofs/BestLaws.antt; laws of the walk are in proofs/ChooseLaws.antt.
-- The numbers that the code's walk holds are in Walk.antt.
use Rattle.std.specs.Prelude.{◌≡◌, Bool, true, cond, ◌&&◌, ℕ, ◌+◌, ◌≤◌, ◌<◌, leb, ltb}
use mathlib.Core.List.{List, [], ◌∷◌, Memᴰ}
use Rattle.pages.specs.Pages.{up, FirstBorder}
use Rattle.pieces.specs.declared.Class.{Class}
use Rattle.pieces.specs.declared.Class.TheVariants.{SmallMetadata, SmallRaw, Large}
use Rattle.pieces.specs.declared.Status.TheVariants.{Free}
use Rattle.pieces.specs.declared.Piece.{Piece}
use Rattle.pieces.specs.Pieces.{behind, free_of, Small, EntryIs}
use Rattle.table.specs.Sound.{Tiles}
use Rattle.std.specs.Prelude.{Option, Some, None}

-- ---- what fits

unfoldable pub room_in : ℕ → Class → ℕ → ℕ → ℕ → Bool
room_in P SmallMetadata s a z = leb s z
room_in P SmallRaw s a z = leb s z
room_in P Large s a z = leb (up P a + s) (a + z)

unfoldable pub fits_in : ℕ → Class → ℕ → Piece → Bool
fits_in P k s x = free_of k x.status && room_in P k s x.address x.size

-- ---- the walk

abbrev pub Chosen : Type 0
Chosen = Option (ℕ × Piece)

abbrev pub better : ℕ → Chosen → Bool
better z (Some (i, x)) = ltb z x.size
better z None = true

unfoldable pub best_of : (Piece → Bool) → ℕ → Chosen → Piece → Chosen
best_of fits i b x = cond (fits x && better x.size b) (Some (i, x)) b

unfoldable pub best : (Piece → Bool) → ℕ → Chosen → List Piece → Chosen
best fits i b [] = b
best fits i b (x ∷ es) = best fits (i + 1) (best_of fits i b x) es

-- ---- the second description

pub record BestAt (Fits : Piece → Type 0) (es : List Piece) (i : ℕ) (x : Piece) : Type 0 where
  pub entry : EntryIs es i x
  pub fitting : Fits x
  pub smallest : (y : Piece) → Memᴰ y es → Fits y → x.size ≤ y.size
  pub lowest : (y : Piece) → Memᴰ y es → Fits y → y.size ≡ x.size → x.address ≤ y.address

abbrev pub Best : (Piece → Type 0) → List Piece → Chosen → Type 0
Best Fits es (Some (i, x)) = BestAt Fits es i x
Best Fits es None = (y : Piece) → Memᴰ y es → Fits y → ⊥

pub record OneBest (Fits : Piece → Type 0) (es : List Piece) (r : Chosen) : Type 0 where
  pub is : Best Fits es r
  pub only : (q : Chosen) → Best Fits es q → q ≡ r

-- ---- what is proved

abbrev pub NoneEmpty : List Piece → Type 0
NoneEmpty es = (x : Piece) → Memᴰ x es → 1 ≤ x.size

abbrev pub BestPlace : Type 0
BestPlace =
    (fits : Piece → Bool) (E a : ℕ) (es : List Piece) → NoneEmpty es → Tiles E a es
    → OneBest (λ x. fits x ≡ true) es (best fits 0 None es)

pub record FitsSmall (k : Class) (s : ℕ) (x : Piece) : Type 0 where
  pub free : x.status ≡ Free k
  pub room : s ≤ x.size

pub record FitsLarge (P s : ℕ) (x : Piece) : Type 0 where
  pub free : x.status ≡ Free Large
  pub start : ℕ
  pub border : FirstBorder P x.address start
  pub room : start + s ≤ behind x

abbrev pub SmallPlace : Type 0
SmallPlace =
    (P : ℕ) (k : Class) → Small k → (s E a : ℕ) (es : List Piece) → NoneEmpty es → Tiles E a es
    → OneBest (FitsSmall k s) es (best (fits_in P k s) 0 None es)

abbrev pub LargePlace : Type 0
LargePlace =
    (P : ℕ) → 0 < P → (s E a : ℕ) (es : List Piece) → NoneEmpty es → Tiles E a es
    → OneBest (FitsLarge P s) es (best (fits_in P Large s) 0 None es)
