-- What is proved of tables. Statements alone: each is proved in proofs/Theorems.antt, under its name in small letters.
--
--   LocalForm       the local test is true of the sound tables and of no other
--   Filled          state and table are the ones that some good live pieces determine
--   FillForm        the sound tables are those
--   Determined      'the live entries with P alone determine the free entries and E'
--   OneTable        so two sound tables of one length and page size with the same live entries are one, word for word
--   FillLives       the live entries of the table of good live pieces are those pieces
--   Tiling          every byte below E lies in exactly one entry, and no entry has a byte at E or beyond
--
-- Assumes nothing.
use Rattle.std.specs.Prelude.{◌≡◌, true, List, ℕ, ◌≤◌, ◌<◌, length}
use Rattle.pieces.specs.declared.Piece.{Piece}
use Rattle.pieces.specs.Pieces.{behind}
use Rattle.pieces.specs.Words.{entry_at, entries, table}
use Rattle.table.specs.Fill.{lives, fill, end_of, Good}
use Rattle.table.specs.Sound.{Ranges, Sound}
use Rattle.table.specs.Local.{localb}

-- ---- soundness three times

abbrev pub LocalForm : Type 0
LocalForm =
    (P M E n : ℕ) (w : List ℕ) → (Sound P M E n w → localb P M E n w ≡ true) × (localb P M E n w ≡ true → Sound P M E n w)

pub record Filled (P M E n : ℕ) (w : List ℕ) : Type 0 where
  pub ranges : Ranges P M E n (length w)
  pub live : List Piece
  pub good : Good P live
  pub ends : E ≡ end_of P live
  pub count : n ≡ length (fill P live)
  pub words : w ≡ table (length w) (fill P live)

abbrev pub FillForm : Type 0
FillForm = (P M E n : ℕ) (w : List ℕ) → (Sound P M E n w → Filled P M E n w) × (Filled P M E n w → Sound P M E n w)

-- ---- what the live entries determine

pub record DeterminedBy (P E : ℕ) (es : List Piece) : Type 0 where
  pub entries : es ≡ fill P (lives es)
  pub ends : E ≡ end_of P (lives es)

abbrev pub Determined : Type 0
Determined = (P M E n : ℕ) (w : List ℕ) → Sound P M E n w → DeterminedBy P E (entries w 0 n)

pub record Same (E n : ℕ) (w : List ℕ) (E' n' : ℕ) (w' : List ℕ) : Type 0 where
  pub ends : E ≡ E'
  pub counts : n ≡ n'
  pub words : w ≡ w'

abbrev pub OneTable : Type 0
OneTable =
    (P M E n : ℕ) (w : List ℕ) (M' E' n' : ℕ) (w' : List ℕ) → Sound P M E n w → Sound P M' E' n' w'
    → length w ≡ length w' → lives (entries w 0 n) ≡ lives (entries w' 0 n') → Same E n w E' n' w'

abbrev pub FillLives : Type 0
FillLives = (P : ℕ) (ps : List Piece) → Good P ps → lives (fill P ps) ≡ ps

-- ---- tiling

-- the byte v lies in x
pub record Holds (x : Piece) (v : ℕ) : Type 0 where
  pub from : x.address ≤ v
  pub to : v < behind x

pub record OneEntry (w : List ℕ) (n v : ℕ) : Type 0 where
  pub place : ℕ
  pub among : place < n
  pub holds : Holds (entry_at w place) v
  pub alone : (i : ℕ) → i < n → Holds (entry_at w i) v → i ≡ place

abbrev pub Tiling : Type 0
Tiling =
    (P M E n : ℕ) (w : List ℕ) → Sound P M E n w
    → ((v : ℕ) → v < E → OneEntry w n v) × ((i v : ℕ) → i < n → Holds (entry_at w i) v → v < E)
