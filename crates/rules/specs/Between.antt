-- What stands between two live pieces: how the entries of a table follow from its live pieces, part by part.
--
--   front_from P k a ps    the entries up to the last of the live pieces ps, behind a piece of class k that ends at a
--   last_class k ps        the class of the last of ps; k, if there is none
--   closing P k a es       the free entries behind a piece of class k that ends at a, before the entries es, the first of which is live
--   lives_with w n i j ps  the live pieces of n entries of the words w, with ps in place of those among the entries from i up to j
--
-- Assumes nothing. Laws are in proofs/SpliceLaws.antt.
use Rattle.std.specs.Prelude.{List, [], ◌∷◌, ◌++◌, ℕ, ◌-◌}
use Rattle.pieces.specs.declared.Class.{Class}
use Rattle.pieces.specs.declared.Piece.{Piece}
use Rattle.pieces.specs.Pieces.{behind, class_of}
use Rattle.pieces.specs.Words.{entries}
use Rattle.table.specs.Fill.{lives, gap, tail}

unfoldable pub front_from : ℕ → Class → ℕ → List Piece → List Piece
front_from P k a [] = []
front_from P k a (x ∷ ps) = gap P k a x.address (class_of x.status) ++ (x ∷ front_from P (class_of x.status) (behind x) ps)

unfoldable pub last_class : Class → List Piece → Class
last_class k [] = k
last_class k (x ∷ ps) = last_class (class_of x.status) ps

unfoldable pub closing : ℕ → Class → ℕ → List Piece → List Piece
closing P k a [] = tail P k a
closing P k a (y ∷ es) = gap P k a y.address (class_of y.status)

abbrev pub lives_with : List ℕ → ℕ → ℕ → ℕ → List Piece → List Piece
lives_with w n i j ps = lives (entries w 0 i) ++ (ps ++ lives (entries w j (n - j)))
