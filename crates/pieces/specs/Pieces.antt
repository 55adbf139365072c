-- A piece with its status, live or free, and its class; and the six kinds.
--
--   piece a z s        the piece of z bytes at a with status s
--   behind x           the first byte behind x
--   class_of s          the class of a status
--   Small c            c is one of the two small classes; smallb c is the test
--   IsFree s           s is free; freeb s is the test
--   same_class c d     the test whether c and d are one class
--   large_freeb s      the test whether s is free large
--   free_of c s        the test whether s is free, and of class c
--   manager_of c       the manager of the free entries of class c, counted from 0
--   kind_of s           the kind of a status, 1 to 6
--   Kind k             k is a kind; kindb k is the test
--   status_of k        the status of a kind; a word that is no kind, which no sound table has, reads as 6
--   EntryIs es i x     entry i of es is x
--
-- Assumes nothing. Laws are in proofs/PieceLaws.antt.
use Rattle.std.specs.Prelude.{Bool, true, false, cond, not, ◌&&◌, List, ◌∷◌, ℕ, suc, ◌+◌, ◌≤◌, leb, eqb}
use Rattle.pieces.specs.declared.Class.{Class}
use Rattle.pieces.specs.declared.Class.TheVariants.{SmallMetadata, SmallRaw, Large}
use Rattle.pieces.specs.declared.Status.{Status}
use Rattle.pieces.specs.declared.Status.TheVariants.{Live, Free}
use Rattle.pieces.specs.declared.Piece.{Piece}

abbrev pub piece : ℕ → ℕ → Status → Piece
piece a z s = record { address = a; size = z; status = s }

abbrev pub behind : Piece → ℕ
behind x = x.address + x.size

abbrev pub class_of : Status → Class
class_of (Live c) = c
class_of (Free c) = c

pub data Small : Class → Type 0 where
  metadata : Small SmallMetadata
  raw : Small SmallRaw

abbrev pub smallb : Class → Bool
smallb SmallMetadata = true
smallb SmallRaw = true
smallb Large = false

pub data IsFree : Status → Type 0 where
  is_free : {c : Class} → IsFree (Free c)

abbrev pub freeb : Status → Bool
freeb (Live c) = false
freeb (Free c) = true

abbrev pub same_class : Class → Class → Bool
same_class SmallMetadata SmallMetadata = true
same_class SmallMetadata SmallRaw = false
same_class SmallMetadata Large = false
same_class SmallRaw SmallMetadata = false
same_class SmallRaw SmallRaw = true
same_class SmallRaw Large = false
same_class Large SmallMetadata = false
same_class Large SmallRaw = false
same_class Large Large = true

abbrev pub large_freeb : Status → Bool
large_freeb (Live c) = false
large_freeb (Free c) = not (smallb c)

abbrev pub free_of : Class → Status → Bool
free_of k (Live c) = false
free_of k (Free c) = same_class c k

abbrev pub manager_of : Class → ℕ
manager_of SmallMetadata = 0
manager_of SmallRaw = 1
manager_of Large = 2

abbrev pub kind_of : Status → ℕ
kind_of (Live SmallMetadata) = 1
kind_of (Live SmallRaw) = 2
kind_of (Live Large) = 3
kind_of (Free SmallMetadata) = 4
kind_of (Free SmallRaw) = 5
kind_of (Free Large) = 6

pub record Kind (k : ℕ) : Type 0 where
  pub least : 1 ≤ k
  pub largest : k ≤ 6

abbrev pub kindb : ℕ → Bool
kindb k = leb 1 k && leb k 6

unfoldable pub status_of : ℕ → Status
status_of k =
    cond (eqb k 1) (Live SmallMetadata)
    (cond (eqb k 2) (Live SmallRaw)
    (cond (eqb k 3) (Live Large)
    (cond (eqb k 4) (Free SmallMetadata)
    (cond (eqb k 5) (Free SmallRaw) (Free Large)))))

pub data EntryIs : List Piece → ℕ → Piece → Type 0 where
  entry_here : {x : Piece} {es : List Piece} → EntryIs (x ∷ es) 0 x
  entry_later : {x y : Piece} {es : List Piece} {i : ℕ} → EntryIs es i x → EntryIs (y ∷ es) (suc i) x
