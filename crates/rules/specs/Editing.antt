-- Every accepted call edits the list of live pieces: it inserts one, removes one, or gives one another size. The table and the end are then
-- those that the new list determines (`fill`, `end_of`).
--
--   Name              a live piece by its exact address and size
--   names n x         the test whether x has this name
--   insert x ps       ps with x among them, by address
--   remove n ps       ps without the piece of this name
--   resize n z ps     ps with the piece of this name z bytes long
--
-- Assumes nothing. Laws are in proofs/RemoveLaws.antt, proofs/InsertLaws.antt and proofs/ChangeLaws.antt.
use Rattle.std.specs.Prelude.{Bool, cond, ◌&&◌, List, [], ◌∷◌, ℕ, ltb, eqb}
use Rattle.pieces.specs.declared.Piece.{Piece}
use Rattle.pieces.specs.Pieces.{piece}

pub record Name : Type 0 where
  pub address : ℕ
  pub size : ℕ

abbrev pub names : Name → Piece → Bool
names n x = eqb x.address n.address && eqb x.size n.size

unfoldable pub insert : Piece → List Piece → List Piece
insert x [] = x ∷ []
insert x (y ∷ ps) = cond (ltb x.address y.address) (x ∷ y ∷ ps) (y ∷ insert x ps)

unfoldable pub remove : Name → List Piece → List Piece
remove n [] = []
remove n (x ∷ ps) = cond (names n x) (remove n ps) (x ∷ remove n ps)

unfoldable pub resize : Name → ℕ → List Piece → List Piece
resize n z [] = []
resize n z (x ∷ ps) = cond (names n x) (piece x.address z x.status ∷ ps) (x ∷ resize n z ps)
