-- The way to the entry in which an address lies: what it asks of a table, and how far it goes.
--
--   Rising w n            each of the first n entries of w ends where a later one starts, or before, as in a sound table
--   Started a n w r       of the n entries the first r start at or before the address a, and the next one does not
--
-- Assumes nothing.
use Rattle.std.specs.Prelude.{ℕ, ◌≤◌, ◌<◌, List}
use Rattle.pieces.specs.Pieces.{behind}
use Rattle.pieces.specs.Words.{entry_at}

abbrev pub Rising : List ℕ → ℕ → Type 0
Rising w n = (i k : ℕ) → i < k → k < n → behind (entry_at w i) ≤ (entry_at w k).address

pub record Started (a n : ℕ) (w : List ℕ) (r : ℕ) : Type 0 where
  pub within : r ≤ n
  pub before : (i : ℕ) → i < r → (entry_at w i).address ≤ a
  pub next : r < n → a < (entry_at w r).address
