-- A change of a table, as the summary sees it: some entries gave way to others.
--
--   exchanged xs ys zs           of each number of xs that of ys is taken off, and that of zs is added
--   Exchangeable xs ys zs        none falls below 0 or passes 64 bits on the way
--   Beside given was is after    the largest sections of what gave way (was) and of what came (is) stand beside those of all the rest:
--                                with the former it was `given`, with the latter it is `after`
--   Replaces given was is w      the entries of the words w came of entries which `given` agrees with, where those that `was` is the summary
--                                of gave way to those that `is` is the summary of
use Rattle.std.specs.Prelude.{true, List, ◌++◌, ◌≡◌, ℕ, ◌+◌, ◌-◌, ◌^◌, ◌≤◌, ◌<◌, max, pos, length, get_or}
use Rattle.pieces.specs.Words.{entries_in}
use Rattle.pieces.specs.declared.Piece.{Piece}
use Rattle.totals.specs.Counting.{Countable}
use Rattle.totals.specs.Summary.{each_from, summary_of, agreesb}
use Rattle.totals.specs.declared.Summary.{Summary}

unfoldable pub exchanged : List ℕ → List ℕ → List ℕ → List ℕ
exchanged xs ys zs = each_from (λ i. get_or xs i 0 - get_or ys i 0 + get_or zs i 0) 0 (length xs)

pub record Exchangeable (xs ys zs : List ℕ) : Type 0 where
  pub taken_long : length ys ≡ length xs
  pub added_long : length zs ≡ length xs
  pub below : (i : ℕ) → i < length xs → get_or ys i 0 ≤ get_or xs i 0
  pub fits : (i : ℕ) → i < length xs → get_or xs i 0 - get_or ys i 0 + get_or zs i 0 < 2 ^ 64

pub record Beside (given was is after : ℕ) : Type 0 where
  pub rest : ℕ
  pub before_it : given ≡ max rest was
  pub after_it : after ≡ max rest is

pub record Replaces (given was is : Summary) (w : List ℕ) : Type 0 where
  pub front : List Piece
  pub gone : List Piece
  pub laid : List Piece
  pub back : List Piece
  pub agreed : agreesb given (front ++ (gone ++ back)) ≡ true
  pub was_gone : was ≡ summary_of (pos 0) gone
  pub is_laid : is ≡ summary_of (pos 0) laid
  pub stands : entries_in w ≡ front ++ (laid ++ back)
  pub countable : Countable w
