-- The laws of what fits, and of the walk for the best place.
--
-- In this order: room, by the tests that the code makes; what fits, by whether the entry is free and of the class; an entry that fits has the bytes; the walk's
-- step, its end, and that an exact fit stays the best.
--
-- Not here: that the walk finds the best place (BestLaws.antt).
use mathlib.Core.Path.{◌≡◌, refl, ap}
use mathlib.Core.Bool.{Bool, true, false, and-false}
use mathlib.Core.List.{List, [], ◌∷◌}
use Prim.Native.Nat.{ℕ, ◌+◌, ◌-◌, ◌≤◌, ◌<◌}
use native.Mathlib.Omega.{arith}
use lib.Dec.{leb}
use borrow.Author.Tests.{leb-true, lt-leb, le-ltb}
use Rattle.pages.specs.Pages.{up, up_from}
use Rattle.pages.proofs.Numbers.{leb_same, and_right}
use Rattle.pages.proofs.PageLaws.{up_ge, up_from_up}
use Rattle.pieces.specs.declared.Class.{Class}
use Rattle.pieces.specs.declared.Class.TheVariants.{SmallMetadata, SmallRaw, Large}
use Rattle.pieces.specs.declared.Piece.{Piece}
use Rattle.pieces.specs.Pieces.{free_of, Small, metadata, raw}
use Rattle.pieces.specs.Words.{entry_at, entries}
use Rattle.pieces.proofs.WordLaws.{entries_next, entries_none}
use Rattle.choose.specs.Choose.{Chosen}
use Rattle.std.specs.Prelude.{Some}
use Rattle.choose.specs.Choose.{room_in, fits_in, better, best_of, best}

-- ---- room

pub room_small : {k : Class} → Small k → (P s a z : ℕ) → room_in P k s a z ≡ leb s z
unfolding room_in
room_small metadata P s a z = refl
room_small raw P s a z = refl

module _ (P : ℕ) (pos : 0 < P) (s a z : ℕ) where
  pub room_short : (k : Class) → z < s → room_in P k s a z ≡ false
  unfolding room_in
  room_short SmallMetadata h = lt-leb s z h
  room_short SmallRaw h = lt-leb s z h
  room_short Large h = lt-leb (up P a + s) (a + z) (omega (arith, up_ge P pos a))

  -- without a sum: the bytes beyond s reach to the border
  pub room_large : s ≤ z → room_in P Large s a z ≡ leb (up_from P a) (z - s)
  unfolding room_in
  room_large h =
      leb_same (up P a + s) (a + z) (up_from P a) (z - s) (λ l. omega (arith, up_from_up P pos a)) (λ l. omega (arith, up_from_up P pos a))

  pub room_least : (k : Class) → room_in P k s a z ≡ true → s ≤ z
  unfolding room_in
  room_least SmallMetadata e = leb-true s z e
  room_least SmallRaw e = leb-true s z e
  room_least Large e = omega (arith, leb-true (up P a + s) (a + z) e, up_ge P pos a)

-- ---- what fits

module _ (P : ℕ) (k : Class) (s : ℕ) (x : Piece) where
  pub fits_other : free_of k x.status ≡ false → fits_in P k s x ≡ false
  unfolding fits_in
  fits_other e = rw e

  pub fits_free : free_of k x.status ≡ true → fits_in P k s x ≡ room_in P k s x.address x.size
  unfolding fits_in
  fits_free e = rw e

  pub fits_least : 0 < P → fits_in P k s x ≡ true → s ≤ x.size
  unfolding fits_in
  fits_least pos e =
      room_least P pos s x.address x.size k (and_right (free_of k x.status) (room_in P k s x.address x.size) e)

-- ---- the walk

module _ (fits : Piece → Bool) (i : ℕ) (b : Chosen) (x : Piece) where
  pub best_of_better : fits x ≡ true → better x.size b ≡ true → best_of fits i b x ≡ Some (i, x)
  unfolding best_of
  best_of_better e d = rw (e, d)

  pub best_of_larger : better x.size b ≡ false → best_of fits i b x ≡ b
  unfolding best_of
  best_of_larger d = rw (d, and-false)

  pub best_of_misfit : fits x ≡ false → best_of fits i b x ≡ b
  unfolding best_of
  best_of_misfit e = rw e

module _ (fits : Piece → Bool) (w : List ℕ) (n i : ℕ) (b : Chosen) where
  pub best_next : i < n → (x : Piece) → x ≡ entry_at w i → (b' : Chosen) → best_of fits i b x ≡ b'
      → best fits i b (entries w i (n - i)) ≡ best fits (i + 1) b' (entries w (i + 1) (n - (i + 1)))
  unfolding best
  best_next lt x is b' to =
      rw (entries_next w n i lt, ← is) (ap (λ (c : Chosen). best fits (i + 1) c (entries w (i + 1) (n - (i + 1)))) to)

  pub best_end : n ≤ i → best fits i b (entries w i (n - i)) ≡ b
  unfolding best
  best_end le = rw (entries_none w n i le)

-- an exact fit stays the best: nothing that fits is smaller
module _ (fits : Piece → Bool) (s : ℕ) (least : (y : Piece) → fits y ≡ true → s ≤ y.size) (i : ℕ) (x : Piece) (is : x.size ≡ s) where
  exact_of : (j : ℕ) (y : Piece) → best_of fits j (Some (i, x)) y ≡ Some (i, x)
  exact_of j y = go (fits y) refl
    where
      go : (t : Bool) → fits y ≡ t → best_of fits j (Some (i, x)) y ≡ Some (i, x)
      go true e = best_of_larger fits j (Some (i, x)) y (le-ltb y.size x.size (omega (arith, least y e)))
      go false e = best_of_misfit fits j (Some (i, x)) y e

  pub best_exact : (j : ℕ) (es : List Piece) → best fits j (Some (i, x)) es ≡ Some (i, x)
  unfolding best
  best_exact j [] = refl
  best_exact j (y ∷ es) = rw (exact_of j y) (best_exact (j + 1) es)
