-- A splice of a table: new entries take the place of those between two entries that stay.
--
--   spliced w n i j new     the words w, of whose n entries those from i up to j are replaced by new ones, with zeros behind them:
--
--        entry    0            i          j            n
--        before   | these stay | replaced | these move | zeros  |
--        after    | these stay | new | moved | zeros            |
--
--   SpliceFits w n i j x c  what a splice asks: the places are in order, c is the new count of entries, old and new ones fit, and the words
--                           behind the old ones are 0
--   shifted w n a j         its first half: the first a entries, then those from j up to n, then zeros
--   ShiftFits w n a j       what that half asks
--
-- What is proved of them (proofs/EditLaws.antt):
--
--   SplicedTable            spliced into a table of entries, the table of the entries so replaced
--
-- Assumes nothing.
use Rattle.std.specs.Prelude.{◌≡◌, List, ◌++◌, ℕ, ◌+◌, ◌-◌, ◌*◌, ◌≤◌, length, take, drop, replicate}
use Rattle.pieces.specs.declared.Piece.{Piece}
use Rattle.pieces.specs.Words.{entry_words, words, table, Zeros}
use Rattle.edit.specs.declared.new.New.{New}
use Rattle.edit.specs.New.{new_entries}

-- ---- the splice

unfoldable pub spliced : List ℕ → ℕ → ℕ → ℕ → List Piece → List ℕ
spliced w n i j new =
    take (i * entry_words) w
    ++ (words new
    ++ (drop (j * entry_words) (take (n * entry_words) w) ++ replicate (length w - (i + length new + (n - j)) * entry_words) 0))

pub record SpliceFits (w : List ℕ) (n i j : ℕ) (new : New) (count : ℕ) : Type 0 where
  pub low : i ≤ j
  pub high : j ≤ n
  pub old : n * entry_words ≤ length w
  pub counted : count ≡ i + length (new_entries new) + (n - j)
  pub room : count * entry_words ≤ length w
  pub zeros : Zeros w n

unfoldable pub shifted : List ℕ → ℕ → ℕ → ℕ → List ℕ
shifted w n a j =
    take (a * entry_words) w
    ++ (drop (j * entry_words) (take (n * entry_words) w) ++ replicate (length w - (a + (n - j)) * entry_words) 0)

pub record ShiftFits (w : List ℕ) (n a j : ℕ) : Type 0 where
  pub high : j ≤ n
  pub old : n * entry_words ≤ length w
  pub room : (a + (n - j)) * entry_words ≤ length w
  pub zeros : Zeros w n

-- ---- what is proved

abbrev pub SplicedTable : Type 0
SplicedTable =
    (len : ℕ) (es : List Piece) (i j : ℕ) (new : List Piece) → length es * entry_words ≤ len → i ≤ j → j ≤ length es
    → spliced (table len es) (length es) i j new ≡ table len (take i es ++ (new ++ drop j es))
