-- Laws of the room behind a piece, of the limit, and of what remains of a piece, test by test as the code makes them.
--
-- In this order: the entries behind, and whether a file grows beyond its limit; what remains; the limit.
use Prim.Native.Nat.{ℕ, ◌+◌, ◌-◌, ◌≤◌, ◌<◌}
use mathlib.Core.Bool.{true, false, not, ◌&&◌}
use mathlib.Core.List.{List, [], ◌∷◌}
use mathlib.Core.Path.{◌≡◌, refl, sym, ap, ◌∙◌}
use native.Mathlib.Nat.{sub-zero}
use native.Mathlib.Omega.{arith}
use lib.Dec.{leb, ltb}
use borrow.Author.Tests.{lt-ltb, ltb-true, ltb-false, leb-true}
use Rattle.pages.proofs.Numbers.{and_left, and_right}
use Rattle.pages.proofs.PageLaws.{up_ge}
use Rattle.pages.specs.Pages.{borderb, up}
use Rattle.pieces.proofs.WordLaws.{entries_next, entries_none}
use Rattle.pieces.specs.Pieces.{freeb, large_freeb}
use Rattle.pieces.specs.Words.{entry_at, entries, count_in, entries_in}
use Rattle.pieces.specs.declared.Class.TheVariants.{SmallMetadata, SmallRaw, Large}
use Rattle.pieces.specs.declared.Class.{Class}
use Rattle.pieces.specs.declared.Piece.{Piece}
use Rattle.room.specs.Room.{small_roomb, large_roomb, room_behindb, passesb, grows_beyondb, remainsb}

-- ---- the entries behind

-- only the first of them matters
room_first : (P : ℕ) (k : Class) (e z m : ℕ) (y : Piece) (es : List Piece) → room_behindb P k e z m (y ∷ es) ≡ room_behindb P k e z m (y ∷ [])
unfolding room_behindb small_roomb large_roomb
room_first P SmallMetadata e z m y es = refl
room_first P SmallRaw e z m y es = refl
room_first P Large e z m y es = refl

module _ (P : ℕ) (k : Class) (e z m : ℕ) (w : List ℕ) (j n : ℕ) where
  pub room_next : j < n → (y : Piece) → y ≡ entry_at w j → room_behindb P k e z m (entries w j (n - j)) ≡ room_behindb P k e z m (y ∷ [])
  room_next l y is =
      ap (room_behindb P k e z m) (entries_next w n j l)
      ∙ (room_first P k e z m (entry_at w j) _ ∙ ap (λ (v : Piece). room_behindb P k e z m (v ∷ [])) (sym is))

  room_none : n ≤ j → room_behindb P k e z m (entries w j (n - j)) ≡ room_behindb P k e z m []
  room_none l = ap (room_behindb P k e z m) (entries_none w n j l)

module _ (P M e m : ℕ) (w : List ℕ) (j n : ℕ) where
  pub grows_not : j < n → grows_beyondb P M e m (entries w j (n - j)) ≡ false
  unfolding grows_beyondb
  grows_not l = rw (entries_next w n j l)

  pub grows_last : n ≤ j → grows_beyondb P M e m (entries w j (n - j)) ≡ passesb P M e m
  unfolding grows_beyondb
  grows_last l = rw (entries_none w n j l)

-- the same where the entries behind are those of the words w, as the code has them
module _ (w : List ℕ) where
  all : entries_in w ≡ entries w 0 (count_in w - 0)
  all = sym (ap (entries w 0) (sub-zero (count_in w)))

  pub room_some : (P : ℕ) (k : Class) (e z m : ℕ) → 0 < count_in w → (y : Piece) → y ≡ entry_at w 0
      → room_behindb P k e z m (entries_in w) ≡ room_behindb P k e z m (y ∷ [])
  room_some P k e z m l y is = ap (room_behindb P k e z m) all ∙ room_next P k e z m w 0 (count_in w) l y is

  pub room_at_end : (P : ℕ) (k : Class) (e z m : ℕ) → count_in w ≤ 0 → room_behindb P k e z m (entries_in w) ≡ room_behindb P k e z m []
  room_at_end P k e z m l = ap (room_behindb P k e z m) all ∙ room_none P k e z m w 0 (count_in w) l

-- where there is room in an entry it has the bytes
small_bytes : (P e z m : ℕ) (y : Piece) → small_roomb P e z m (y ∷ []) ≡ true → m ≤ y.size
unfolding small_roomb
small_bytes P e z m y h =
    let inside = and_right (not (borderb P e)) _ h in
    let free = and_left (freeb y.status && leb m y.size) (ltb (z + m) P) inside in
    leb-true m y.size (and_right (freeb y.status) (leb m y.size) free)

pub room_bytes : (P : ℕ) (k : Class) (e z m : ℕ) (y : Piece) → room_behindb P k e z m (y ∷ []) ≡ true → m ≤ y.size
unfolding room_behindb large_roomb
room_bytes P SmallMetadata e z m y h = small_bytes P e z m y h
room_bytes P SmallRaw e z m y h = small_bytes P e z m y h
room_bytes P Large e z m y h = leb-true m y.size (and_right (large_freeb y.status) (leb m y.size) h)

-- ---- what remains

pub remains_some : (P : ℕ) (c : Class) (z k : ℕ) → remainsb P c z k ≡ true → k ≤ z
unfolding remainsb
remains_some P SmallMetadata z k h = omega (arith, ltb-true k z h)
remains_some P SmallRaw z k h = omega (arith, ltb-true k z h)
remains_some P Large z k h = omega (arith, leb-true (P + k) z h)

-- ---- the limit

pub limit_passed : (P M e m : ℕ) → 0 < P → e ≤ M → M - e < m → passesb P M e m ≡ true
limit_passed P M e m pos l h = lt-ltb M (up P (e + m)) (omega (arith, up_ge P pos (e + m)))

-- a piece that does not make the file pass its limit ends within it
pub limit_kept : (P M e m : ℕ) → 0 < P → passesb P M e m ≡ false → e + m ≤ M
limit_kept P M e m pos h = omega (arith, ltb-false M (up P (e + m)) h, up_ge P pos (e + m))
