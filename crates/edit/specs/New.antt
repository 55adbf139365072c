-- The new entries of a table, told by a few numbers.
--
--   gap_of P k a b m      the gap between a live piece of class k that ends at a and one of class m that starts at b, by its borders
--   tail_of P k a        the gap behind the last live piece, of class k, that ends at a
--   gap_entries g        the free entries of a gap: of class k up to lo, large up to hi, of class m up to b
--   new_entries x        what a change puts in: the entries of a gap, or those of two gaps with a live piece between them
--
--   free_count a b       how many free entries are from a to b: one, if there is a byte between them
--   Put w i es r v       the words w became v, with the entries es in place of those from entry i on; r is the entry behind them
--
-- Assumes nothing. That the entries are those of `gap` and `tail` of table/specs/Fill.antt is said by `gap_entries_lem` and `tail_entries` of
-- proofs/NewLaws.antt.
use Rattle.std.specs.Prelude.{◌≡◌, cond, List, ◌∷◌, ◌++◌, ℕ, ◌+◌, ltb, length}
use Rattle.pages.specs.Pages.{up}
use Rattle.pieces.specs.declared.Class.{Class}
use Rattle.pieces.specs.declared.Class.TheVariants.{Large}
use Rattle.pieces.specs.declared.Piece.{Piece}
use Rattle.pieces.specs.Words.{laid}
use Rattle.table.specs.Fill.{free, lo, hi}
use Rattle.edit.specs.declared.gap.Gap.{Gap}
use Rattle.edit.specs.declared.new.New.{New}
use Rattle.edit.specs.declared.new.New.TheVariants.{Without, With}

-- ---- a gap

unfoldable pub gap_of : ℕ → Class → ℕ → ℕ → Class → Gap
gap_of P k a b m = let l = lo P k a b in record { a = a; lo = l; hi = hi P l b m; b = b; k = k; m = m }

unfoldable pub tail_of : ℕ → Class → ℕ → Gap
tail_of P k a = let b = up P a in record { a = a; lo = b; hi = b; b = b; k = k; m = k }

unfoldable pub gap_entries : Gap → List Piece
gap_entries g = free g.k g.a g.lo ++ (free Large g.lo g.hi ++ free g.m g.hi g.b)

-- ---- what a change puts in

unfoldable pub new_entries : New → List Piece
new_entries (Without g) = gap_entries g
new_entries (With front x rear) = gap_entries front ++ (x ∷ gap_entries rear)

-- ---- counted, and laid

unfoldable pub free_count : ℕ → ℕ → ℕ
free_count a b = cond (ltb a b) 1 0

pub record Put (w : List ℕ) (i : ℕ) (es : List Piece) (r : ℕ) (v : List ℕ) : Type 0 where
  pub behind : r ≡ i + length es
  pub words : v ≡ laid w i es
