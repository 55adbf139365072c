-- The sound tables as a chain: each entry told by itself and by the status of the one before it. The proofs go by this form; the
-- reader's is `Sound`, and `Theorems` has that both say the same.
--
--   Entry P s a z t es        an entry of z bytes and status t at a, behind an entry of status s, with the entries es behind it
--   ChainFrom P E s a es      the entries es from a on, behind an entry of status s, in a file that ends at E
--   Chain P E es              the whole table: before the first entry all is as behind a live large one that ends at 0
--
-- Assumes nothing.
use Prim.Native.Nat.{ℕ, ◌+◌, ◌≤◌, ◌<◌}
use mathlib.Core.List.{List, [], ◌∷◌}
use mathlib.Core.Path.{◌≡◌}
use Rattle.pages.specs.Pages.{Border}
use Rattle.pieces.specs.Pieces.{piece, class_of, Small, IsFree}
use Rattle.pieces.specs.declared.Class.TheVariants.{Large}
use Rattle.pieces.specs.declared.Piece.{Piece}
use Rattle.pieces.specs.declared.Status.TheVariants.{Live, Free}
use Rattle.pieces.specs.declared.Status.{Status}
use Rattle.table.specs.Fill.{Within}

pub record Entry (P : ℕ) (s : Status) (a z : ℕ) (t : Status) (es : List Piece) : Type 0 where
  pub some : 0 < z
  pub small : Small (class_of t) → Within P a z
  pub aligned : t ≡ Live Large → Border P a
  pub whole : t ≡ Live Large → P ≤ z
  pub family : ¬ Border P a → class_of s ≡ class_of t
  pub merged : ¬ Border P a → IsFree s → IsFree t → ⊥
  pub large_merged : s ≡ Free Large → t ≡ Free Large → ⊥
  pub cut : es ≡ [] → t ≡ Free Large → z < P

pub data ChainFrom (P E : ℕ) : Status → ℕ → List Piece → Type 0 where
  stop : {s : Status} {a : ℕ} → a ≡ E → Border P a → ChainFrom P E s a []
  step : {s t : Status} {a n : ℕ} {es : List Piece} → Entry P s a n t es → ChainFrom P E t (a + n) es
      → ChainFrom P E s a (piece a n t ∷ es)

abbrev pub Chain : ℕ → ℕ → List Piece → Type 0
Chain P E es = ChainFrom P E (Live Large) 0 es
