-- The room behind a piece, how far a file may grow, and what remains of a piece that is shortened.
--
--   room_behindb P k e z m es    a piece of class k and z bytes that ends at e, with the entries es behind it, has room for m bytes more
--   passesb P M e m              the fewest whole pages that hold m bytes from e on would pass the limit M
--   grows_beyondb P M e m es     the file ends with a piece at e, and so it would grow
--   remainsb P c z k             enough remains of a piece of class c and z bytes without k
--   GrowFits P M e               what is asked of a page size, a limit and an end: the ranges of a sound state
--
-- Assumes nothing. Laws are in proofs/RoomLaws.antt.
use Rattle.std.specs.Prelude.{Bool, true, false, not, ◌&&◌, List, [], ◌∷◌, ℕ, ◌+◌, ◌≤◌, leb, ltb}
use Rattle.pages.specs.Pages.{PageSize, borderb, up}
use Rattle.pieces.specs.Pieces.{freeb, large_freeb}
use Rattle.pieces.specs.declared.Class.{Class}
use Rattle.pieces.specs.declared.Class.TheVariants.{SmallMetadata, SmallRaw, Large}
use Rattle.pieces.specs.declared.Piece.{Piece}
use Rattle.table.specs.Local.{noneb}
use Rattle.table.specs.Sound.{largest_limit}

-- ---- extend

-- a free entry directly behind it in the page with at least m bytes, and the new size stays below P
unfoldable pub small_roomb : ℕ → ℕ → ℕ → ℕ → List Piece → Bool
small_roomb P e z m [] = false
small_roomb P e z m (y ∷ es) = not (borderb P e) && ((freeb y.status && leb m y.size) && ltb (z + m) P)

-- an entry behind it is kind 6 with at least m bytes; at the file's end there is none
unfoldable pub large_roomb : ℕ → List Piece → Bool
large_roomb m [] = true
large_roomb m (y ∷ es) = large_freeb y.status && leb m y.size

unfoldable pub room_behindb : ℕ → Class → ℕ → ℕ → ℕ → List Piece → Bool
room_behindb P SmallMetadata e z m es = small_roomb P e z m es
room_behindb P SmallRaw e z m es = small_roomb P e z m es
room_behindb P Large e z m es = large_roomb m es

-- ---- the limit

abbrev pub passesb : ℕ → ℕ → ℕ → ℕ → Bool
passesb P M e m = ltb M (up P (e + m))

unfoldable pub grows_beyondb : ℕ → ℕ → ℕ → ℕ → List Piece → Bool
grows_beyondb P M e m es = noneb es && passesb P M e m

pub record GrowFits (P M e : ℕ) : Type 0 where
  pub page : PageSize P
  pub largest : M ≤ largest_limit
  pub within : e ≤ M

-- ---- shorten

-- at least 1 byte must remain of a small piece, at least P of a large one
unfoldable pub remainsb : ℕ → Class → ℕ → ℕ → Bool
remainsb P SmallMetadata z k = ltb k z
remainsb P SmallRaw z k = ltb k z
remainsb P Large z k = leb (P + k) z
