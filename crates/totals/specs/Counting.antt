-- What counting asks of entries.
--
--   Countable w     the entries of the words w can be counted: their kinds are kinds, and no number of their summary passes 64 bits
--
-- Every part of a sound table is so (proofs/CountLaws.antt).
use Rattle.std.specs.Prelude.{List, ℕ, ◌^◌, ◌<◌}
use Rattle.pieces.specs.Pieces.{Kind}
use Rattle.pieces.specs.Words.{kind_at, count_in, entries_in}
use Rattle.totals.specs.Summary.{bytes}

pub record Countable (w : List ℕ) : Type 0 where
  pub few : count_in w < 2 ^ 32
  pub kinds : (i : ℕ) → i < count_in w → Kind (kind_at w i)
  pub fits : bytes (entries_in w) < 2 ^ 64
