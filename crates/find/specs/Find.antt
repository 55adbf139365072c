-- What an address and a size name among the entries of a table: a live piece, or else what is wrong with them. The one entry in which the
-- address lies decides.
--
--   Found                 the named piece with the number of its entry, or why there is none
--   holdsb a x            the test whether the address a lies in x
--   told_of a z i x       what is told of the address a and the size z, if a lies in x, entry i
--   find_in a z i es      what is told of them among es, whose first entry has the number i: by the first entry in which a lies; beyond the end,
--                         if it lies in none
--
-- The same once more, in the words of the request, by what is so and not by how it is found:
--
--   LiesIn a es Is        a lies in an entry of es, and that entry is so
--   Named a z x           x is live, of z bytes, at a
--   FoundAt a z es i x    entry i of es is x, and it is named
--   InFree a es           a lies in free space
--   InsideLive a es       a lies inside a live piece and isn't its start; NotItsStart a x, x is that piece
--   OtherSize a z es      a is a live piece's start, and its size isn't z; NotItsSize a z x, x is that piece
--   Finds E a z es r      r is so of the address a and the size z, in a file of the entries es that ends at E
--
-- What is proved of them (proofs/FindLaws.antt):
--
--   FindsRight            of the entries of a sound table find_in tells what is so, and nothing else is: exactly one of the five
--
-- Assumes nothing.
use Rattle.std.specs.Prelude.{◌≡◌, Bool, cond, ◌&&◌, ℕ, ◌+◌, ◌≤◌, leb, ltb, eqb, Result, Ok, Err}
use mathlib.Core.List.{List, [], ◌∷◌, Memᴰ}
use Rattle.pieces.specs.declared.Class.{Class}
use Rattle.pieces.specs.declared.Status.TheVariants.{Live}
use Rattle.pieces.specs.declared.Piece.{Piece}
use Rattle.pieces.specs.Pieces.{behind, IsFree, freeb, EntryIs}
use Rattle.table.specs.Sound.{SoundEntries}
use Rattle.table.specs.Theorems.{Holds}
use Rattle.refusals.specs.declared.NotNamed.{NotNamed}
use Rattle.refusals.specs.declared.NotNamed.TheVariants as unnamed

-- what is found: an entry's number and the entry, which is the named piece; or why there is none
abbrev pub Found : Type 0
Found = Result (ℕ × Piece) NotNamed

unfoldable pub holdsb : ℕ → Piece → Bool
holdsb a x = leb x.address a && ltb a (behind x)

unfoldable pub told_of : ℕ → ℕ → ℕ → Piece → Found
told_of a z i x =
    cond (freeb x.status) (Err unnamed.InFree)
    (cond (eqb x.address a) (cond (eqb x.size z) (Ok (i, x)) (Err unnamed.OtherSize)) (Err unnamed.InsideLive))

unfoldable pub find_in : ℕ → ℕ → ℕ → List Piece → Found
find_in a z i [] = Err unnamed.BeyondEnd
find_in a z i (x ∷ es) = cond (holdsb a x) (told_of a z i x) (find_in a z (i + 1) es)

-- ---- the second description

pub record LiesIn (a : ℕ) (es : List Piece) (Is : Piece → Type 0) : Type 0 where
  pub entry : Piece
  pub among : Memᴰ entry es
  pub holds : Holds entry a
  pub is : Is entry

pub record Named (a z : ℕ) (x : Piece) : Type 0 where
  pub class : Class
  pub live : x.status ≡ Live class
  pub address : x.address ≡ a
  pub size : x.size ≡ z

pub record FoundAt (a z : ℕ) (es : List Piece) (i : ℕ) (x : Piece) : Type 0 where
  pub entry : EntryIs es i x
  pub named : Named a z x

abbrev pub InFree : ℕ → List Piece → Type 0
InFree a es = LiesIn a es (λ x. IsFree x.status)

pub record NotItsStart (a : ℕ) (x : Piece) : Type 0 where
  pub class : Class
  pub live : x.status ≡ Live class
  pub elsewhere : x.address ≡ a → ⊥

abbrev pub InsideLive : ℕ → List Piece → Type 0
InsideLive a es = LiesIn a es (NotItsStart a)

pub record NotItsSize (a z : ℕ) (x : Piece) : Type 0 where
  pub class : Class
  pub live : x.status ≡ Live class
  pub address : x.address ≡ a
  pub differs : x.size ≡ z → ⊥

abbrev pub OtherSize : ℕ → ℕ → List Piece → Type 0
OtherSize a z es = LiesIn a es (NotItsSize a z)

abbrev pub Finds : ℕ → ℕ → ℕ → List Piece → Found → Type 0
Finds E a z es (Ok (i, x)) = FoundAt a z es i x
Finds E a z es (Err unnamed.BeyondEnd) = E ≤ a
Finds E a z es (Err unnamed.InFree) = InFree a es
Finds E a z es (Err unnamed.InsideLive) = InsideLive a es
Finds E a z es (Err unnamed.OtherSize) = OtherSize a z es

-- ---- what is proved

abbrev pub FindsRight : Type 0
FindsRight =
    (P E a z : ℕ) (es : List Piece) → SoundEntries P E es
    → Finds E a z es (find_in a z 0 es) × ((r : Found) → Finds E a z es r → r ≡ find_in a z 0 es)
