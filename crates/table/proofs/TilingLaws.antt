-- Entries that tile the file hold each of its bytes exactly once.
--
--   covered       a byte from the first entry's start to the end lies in one of the entries, and its place among them
--   in_order      an entry further on starts where an earlier one ends, or behind it
--   below_end     no entry reaches beyond the end; `mem_below` of an entry by itself
--   entry_above   no entry starts before the first
--   alone         no other entry holds a byte of an entry
--
-- The same of the first n entries of words w, by `entry_at`:
--
--   entry_at_lem  entry k of the list that is read out of words
--   rising        an entry further on starts where an earlier one ends, or behind it; `next_above` of the next one
--   ends_below    no entry reaches beyond the end
--   ends_fit      so each ends at a number of 64 bits, if the end is one
--
-- Assumes nothing.
use Prim.Native.Nat.{ℕ, zero, suc, ◌+◌, ◌^◌, ◌≤◌, ◌<◌}
use mathlib.Core.List.{List, ◌∷◌, Memᴰ}
use mathlib.Core.Path.{◌≡◌, ap, ◌∙◌}
use native.Mathlib.Nat.{zero-add}
use native.Mathlib.Omega.{arith}
use lib.ListN.{length, get_or}
use Rattle.pages.proofs.Numbers.{split}
use Rattle.pieces.specs.Pieces.{piece, behind, EntryIs, entry_here, entry_later}
use Rattle.pieces.proofs.WordLaws.{length_entries}
use Rattle.pieces.specs.Words.{entry_at, entries, EndsFit}
use Rattle.pieces.specs.declared.Class.TheVariants.{Large}
use Rattle.pieces.specs.declared.Piece.{Piece}
use Rattle.pieces.specs.declared.Status.TheVariants.{Free}
use Rattle.table.specs.Sound.{Tiles, tiled, tile}
use Rattle.table.specs.Theorems.{Holds}

-- what stands past the last entry, which no byte lies in
abbrev pub nothing : Piece
nothing = piece 0 0 (Free Large)

pub entries_at : (w : List ℕ) (i k j : ℕ) → j < k → get_or (entries w i k) j nothing ≡ entry_at w (i + j)
unfolding entries
entries_at w i zero j h = absurd (omega arith)
entries_at w i (suc k) zero h = let e : i + 0 ≡ i = omega arith in rw e
entries_at w i (suc k) (suc j) h = let e : i + suc j ≡ suc i + j = omega arith in rw e (entries_at w (suc i) k j (omega arith))

pub tiles_from : {E a : ℕ} {es : List Piece} → Tiles E a es → a ≤ E
tiles_from (tiled e) = omega arith
tiles_from (tile r) = omega (arith, tiles_from r)

pub mem_below : {E a : ℕ} {es : List Piece} {x : Piece} → Tiles E a es → Memᴰ x es → behind x ≤ E
mem_below (tile {a = a} {z = z} t) (Memᴰ.head e) = omega (arith, tiles_from t, ap behind e)
mem_below (tile t) (Memᴰ.tail h) = mem_below t h
mem_below {E = E} (tiled {a = a} _) x9 = elim x9 [ ]

pub entry_above : {E a : ℕ} {es : List Piece} {i : ℕ} {x : Piece} → Tiles E a es → EntryIs es i x → a ≤ x.address
entry_above (tile r) entry_here = omega arith
entry_above (tile r) (entry_later e) = omega (arith, entry_above r e)
entry_above {E = E} {i = i} (tiled {a = a} _) x9 = elim x9 [ ]

pub record Covered (es : List Piece) (v : ℕ) : Type 0 where
  pub place : ℕ
  pub among : place < length es
  pub holds : Holds (get_or es place nothing) v

later : {x : Piece} {es : List Piece} {v : ℕ} → Covered es v → Covered (x ∷ es) v
later c = record { place = suc c.place; among = omega (arith, c.among); holds = c.holds }

pub covered : {E a : ℕ} {es : List Piece} (v : ℕ) → Tiles E a es → a ≤ v → v < E → Covered es v
covered v (tiled e) l h = absurd (omega arith)
covered v (tile {a = a} {z = z} r) l h =
    split (a + z) v (λ g. later (covered v r g h))
    (λ g. record { place = 0; among = omega arith; holds = record { from = l; to = g } })

starts : {E a : ℕ} {es : List Piece} → Tiles E a es → (i : ℕ) → i < length es → a ≤ (get_or es i nothing).address
starts (tiled e) i h = absurd (omega arith)
starts (tile r) zero h = omega arith
starts (tile r) (suc i) h = omega (arith, starts r i (omega arith))

pub in_order : {E a : ℕ} {es : List Piece} → Tiles E a es → (i j : ℕ) → i < j → j < length es
    → behind (get_or es i nothing) ≤ (get_or es j nothing).address
in_order (tiled e) i j l h = absurd (omega arith)
in_order (tile r) zero zero l h = absurd (omega arith)
in_order (tile r) zero (suc j) l h = starts r j (omega arith)
in_order (tile r) (suc i) zero l h = absurd (omega arith)
in_order (tile r) (suc i) (suc j) l h = in_order r i j (omega arith) (omega arith)

pub below_end : {E a : ℕ} {es : List Piece} → Tiles E a es → (i : ℕ) → i < length es → behind (get_or es i nothing) ≤ E
below_end (tiled e) i h = absurd (omega arith)
below_end (tile r) zero h = tiles_from r
below_end (tile r) (suc i) h = below_end r i (omega arith)

pub alone : {E a : ℕ} {es : List Piece} → Tiles E a es → (i j v : ℕ) → i < length es → j < length es
    → Holds (get_or es i nothing) v → Holds (get_or es j nothing) v → i ≡ j
alone t i j v hi hj u r =
    split i j
    (λ l. split j i (λ m. omega arith) (λ m. absurd (omega (arith, in_order t i j m hj, u.to, r.from))))
    (λ l. absurd (omega (arith, in_order t j i l hi, r.to, u.from)))

-- ---- the entries of words

pub entry_at_lem : (w : List ℕ) (n k : ℕ) → k < n → get_or (entries w 0 n) k nothing ≡ entry_at w k
entry_at_lem w n k h = entries_at w 0 n k h ∙ ap (entry_at w) (zero-add k)

pub rising : {E n : ℕ} (w : List ℕ) → Tiles E 0 (entries w 0 n) → (i k : ℕ) → i < k → k < n → behind (entry_at w i) ≤ (entry_at w k).address
rising {n = n} w t i k l h = rw (entry_at_lem w n i (omega arith), entry_at_lem w n k h) at (in_order t i k l (rw length_entries h))

pub next_above : {E n : ℕ} (w : List ℕ) → Tiles E 0 (entries w 0 n) → (i : ℕ) → i + 1 < n → behind (entry_at w i) ≤ (entry_at w (i + 1)).address
next_above w t i h = rising w t i (i + 1) (omega arith) h

pub ends_below : {E n : ℕ} (w : List ℕ) → Tiles E 0 (entries w 0 n) → (k : ℕ) → k < n → behind (entry_at w k) ≤ E
ends_below {n = n} w t k h = rw (entry_at_lem w n k h) at (below_end t k (rw length_entries h))

pub ends_fit : {E n : ℕ} (w : List ℕ) → Tiles E 0 (entries w 0 n) → E < 2 ^ 64 → EndsFit w n
ends_fit w t small k h = omega (arith, ends_below w t k h)
