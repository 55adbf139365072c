-- What is proved of document 01's rules as they stand in Steps.antt and Resizing.antt: they give the table and the end that the calls promise. Statements
-- alone: each is proved in proofs/Statements.antt, under its name in small letters.
--
--   Request P k s       s bytes of class k can be asked for: 's >= P, large', 's < P, small'
--   FileOf P f ps       the file f is the one that the live pieces ps determine
--   Allocating          of a sound table: allocating at the place that the rule chooses is to insert the piece, then to fill
--   Releasing           of a sound table: releasing a live piece is to remove it, then to fill
--   Extending           of a sound table: extending a live piece with the stated room behind it is to give it its new size, then to fill
--   Shortening          of a sound table: shortening a live piece, by a byte or more, of which enough remains is the same
--   AllocatingIn, ReleasingIn, ExtendingIn, ShorteningIn   the same of given entries
use Rattle.std.specs.Prelude.{◌≡◌, true, ℕ, ◌+◌, ◌-◌, ◌≤◌, ◌<◌}
use mathlib.Core.List.{List, Memᴰ}
use Rattle.pieces.specs.declared.Class.{Class}
use Rattle.pieces.specs.declared.Class.TheVariants.{Large}
use Rattle.pieces.specs.declared.Status.TheVariants.{Live}
use Rattle.pieces.specs.declared.Piece.{Piece}
use Rattle.pieces.specs.Pieces.{piece, Small}
use Rattle.pieces.specs.Words.{entries}
use Rattle.table.specs.Fill.{lives, fill, end_of}
use Rattle.table.specs.Sound.{Sound}
use Rattle.choose.specs.Place.{place_for, place_address}
use Rattle.rules.specs.Editing.{Name, names, insert, remove, resize}
use Rattle.room.specs.Conditions.{RoomBehind, Remains}
use Rattle.literal.specs.Steps.{File, after_allocating, after_releasing}
use Rattle.literal.specs.Resizing.{after_extending, after_shortening}

pub record Request (P : ℕ) (k : Class) (s : ℕ) : Type 0 where
  pub some : 1 ≤ s
  pub small : Small k → s < P
  pub large : k ≡ Large → P ≤ s

pub record FileOf (P : ℕ) (f : File) (ps : List Piece) : Type 0 where
  pub entries : f.entries ≡ fill P ps
  pub ends : f.end ≡ end_of P ps

abbrev pub AllocatingIn : ℕ → ℕ → Class → ℕ → List Piece → Type 0
AllocatingIn P E k s es =
    let q = place_for P k s es in
    FileOf P (after_allocating P E k s es q) (insert (piece (place_address E q) s (Live k)) (lives es))

abbrev pub Allocating : Type 0
Allocating =
    (P M E n : ℕ) (w : List ℕ) (k : Class) (s : ℕ) → Sound P M E n w → Request P k s → AllocatingIn P E k s (entries w 0 n)

abbrev pub ReleasingIn : ℕ → ℕ → Name → List Piece → Type 0
ReleasingIn P E n es = FileOf P (after_releasing P E n es) (remove n (lives es))

abbrev pub Releasing : Type 0
Releasing =
    (P M E n : ℕ) (w : List ℕ) (name : Name) (x : Piece) (k : Class) → Sound P M E n w
    → Memᴰ x (entries w 0 n) → x.status ≡ Live k → names name x ≡ true → ReleasingIn P E name (entries w 0 n)

abbrev pub ExtendingIn : ℕ → ℕ → Name → ℕ → List Piece → Type 0
ExtendingIn P E n m es = FileOf P (after_extending P E n m es) (resize n (n.size + m) (lives es))

abbrev pub Extending : Type 0
Extending =
    (P M E n : ℕ) (w : List ℕ) (name : Name) (m : ℕ) (x : Piece) (k : Class) → Sound P M E n w → Memᴰ x (entries w 0 n)
    → x.status ≡ Live k → names name x ≡ true → RoomBehind P E (entries w 0 n) x.address x.size m k
    → ExtendingIn P E name m (entries w 0 n)

abbrev pub ShorteningIn : ℕ → ℕ → Name → ℕ → List Piece → Type 0
ShorteningIn P E n k es = FileOf P (after_shortening P E n k es) (resize n (n.size - k) (lives es))

abbrev pub Shortening : Type 0
Shortening =
    (P M E n : ℕ) (w : List ℕ) (name : Name) (k : ℕ) (x : Piece) (c : Class) → Sound P M E n w → Memᴰ x (entries w 0 n)
    → x.status ≡ Live c → names name x ≡ true → 1 ≤ k → Remains P c x.size k → ShorteningIn P E name k (entries w 0 n)
