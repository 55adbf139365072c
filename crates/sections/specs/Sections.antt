-- The free sections of one class, and their words in a list.
--
--   sections k es         the free entries of class k, in address order
--   pair_words            the words of a section in a list: address, size
--   pairs xs              the words of the sections xs
--   list_words v xs       the words v with the pairs of xs in front
--   Left, list_said r v   what was answered, and every word of the lent list slice
--   listed_in v xs        the sections xs, written into the words v: none, where the slice is too short, or their count, with the pairs in front and
--                         nothing changed behind them
--
-- Laws are in proofs/SectionLaws.antt.
use Rattle.std.specs.Prelude.{cond, List, [], ◌∷◌, ◌++◌, ℕ, ◌*◌, ltb, length, drop, Option, Some, None}
use Rattle.pieces.specs.Pieces.{free_of}
use Rattle.pieces.specs.declared.Class.{Class}
use Rattle.pieces.specs.declared.Piece.{Piece}

unfoldable pub sections : Class → List Piece → List Piece
sections k [] = []
sections k (x ∷ es) = cond (free_of k x.status) (x ∷ sections k es) (sections k es)

abbrev pub pair_words : ℕ
pair_words = 2

unfoldable pub pairs : List Piece → List ℕ
pairs [] = []
pairs (x ∷ xs) = x.address ∷ x.size ∷ pairs xs

pub record Left : Type 0 where
  pub answer : Option ℕ
  pub words : List ℕ

-- the words v with the pairs of xs in front
abbrev pub list_words : List ℕ → List Piece → List ℕ
list_words v xs = pairs xs ++ drop (length xs * pair_words) v

abbrev pub list_said : Option ℕ → List ℕ → Left
list_said r v = record { answer = r; words = v }

unfoldable pub listed_in : List ℕ → List Piece → Left
listed_in v xs =
    cond (ltb (length v) (length xs * pair_words)) (list_said None v) (list_said (Some (length xs)) (list_words v xs))
