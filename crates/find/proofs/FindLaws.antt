-- Laws of what an address and a size name.
--
-- In this order: the test whether an address lies in an entry; what is told where it does; entries that tile, where one entry holds an address
-- below the end, and none one beyond it; the statement FindsRight of specs/Find.antt, and what a caller learns from an answer.
--
-- Not here: the way to the entry (WalkLaws.antt).
use Prim.Native.Nat.{ℕ, suc, ◌+◌, ◌≤◌, ◌<◌}
use mathlib.Core.Bool.{Bool, true, false}
use mathlib.Core.List.{List, Memᴰ}
use mathlib.Core.Path.{◌≡◌, refl, sym, ap, subst, ◌∙◌}
use native.Mathlib.Nat.{zero-add, add-zero}
use native.Mathlib.Omega.{arith}
use lib.Dec.{leb, eqb}
use Rattle.std.specs.Prelude.{Ok, Err}
use borrow.Author.Tests.{lt-ltb, le-ltb, le-leb, lt-leb, eq-eqb, ne_eqb, eqb-true, eqb-false}
use Rattle.find.specs.Find.{Found, holdsb, told_of, find_in, LiesIn, FoundAt, Finds, FindsRight}
use Rattle.pages.proofs.Numbers.{split, and-false}
use Rattle.pieces.proofs.PieceLaws.{entry_among, entry_number, entry_got}
use Rattle.pieces.specs.Pieces.{piece, IsFree, is_free, freeb, behind, EntryIs, entry_here, entry_later}
use Rattle.pieces.specs.declared.Piece.{Piece}
use Rattle.pieces.specs.declared.Status.TheVariants.{Live, Free}
use Rattle.pieces.specs.declared.Status.{Status}
use Rattle.refusals.specs.declared.NotNamed.TheVariants.{BeyondEnd, InFree, InsideLive, OtherSize}
use Rattle.table.proofs.TilingLaws.{nothing, entry_above, covered, tiles_from}
use Rattle.table.specs.Sound.{Tiles, tiled, tile, SoundEntries}
use Rattle.table.specs.Theorems.{Holds}

-- ---- whether an address lies in an entry

pub lies : (a : ℕ) (x : Piece) → Holds x a → holdsb a x ≡ true
unfolding holdsb
lies a x h = rw (le-leb x.address a h.from, lt-ltb a (behind x) h.to)

pub lies_before : (a : ℕ) (x : Piece) → a < x.address → holdsb a x ≡ false
unfolding holdsb
lies_before a x h = rw (lt-leb x.address a h)

pub lies_behind : (a : ℕ) (x : Piece) → behind x ≤ a → holdsb a x ≡ false
unfolding holdsb
lies_behind a x h = and-false (leb x.address a) (le-ltb a (behind x) h)

-- ---- what is told where it does

module _ (a z i : ℕ) (x : Piece) where
  pub told_free : freeb x.status ≡ true → told_of a z i x ≡ Err InFree
  unfolding told_of
  told_free f = rw f

  module _ (live : freeb x.status ≡ false) where
    pub told_inside : (x.address ≡ a → ⊥) → told_of a z i x ≡ Err InsideLive
    unfolding told_of
    told_inside n = rw (live, ne_eqb x.address a n)

    pub told_other : x.address ≡ a → (x.size ≡ z → ⊥) → told_of a z i x ≡ Err OtherSize
    unfolding told_of
    told_other e n = rw (live, eq-eqb x.address a e, ne_eqb x.size z n)

    pub told_at : x.address ≡ a → x.size ≡ z → told_of a z i x ≡ Ok (i, x)
    unfolding told_of
    told_at e f = rw (live, eq-eqb x.address a e, eq-eqb x.size z f)

-- ---- entries that tile

module _ (a z : ℕ) where
  -- the entry in which the address lies decides
  by_entry : {E b : ℕ} {es : List Piece} {k : ℕ} {x : Piece} → Tiles E b es → EntryIs es k x → Holds x a → (i : ℕ)
      → find_in a z i es ≡ told_of a z (i + k) x
  unfolding find_in
  by_entry (tile r) (entry_here {x = x}) h i = rw (lies a x h, add-zero i)
  by_entry (tile r) (entry_later {x = x} {y = y} {i = k} e) h i =
      let s : i + 1 + k ≡ i + suc k = omega arith in
      rw (lies_behind a y (omega (arith, entry_above r e, h.from))) (by_entry r e h (i + 1) ∙ ap (λ (m : ℕ). told_of a z m x) s)
  by_entry {E = E} {k = k} (tiled _) x12 h i = elim x12 [ ]

  beyond : {E b : ℕ} {es : List Piece} → Tiles E b es → E ≤ a → (i : ℕ) → find_in a z i es ≡ Err BeyondEnd
  unfolding find_in
  beyond (tiled e) h i = refl
  beyond (tile {a = b} {z = s} {t = t} r) h i = rw (lies_behind a (piece b s t) (omega (arith, tiles_from r))) (beyond r h (i + 1))

-- ---- the statement

module _ {P E : ℕ} (a z : ℕ) {es : List Piece} (rules : SoundEntries P E es) where
  told_by : {k : ℕ} {x : Piece} → EntryIs es k x → Holds x a → find_in a z 0 es ≡ told_of a z k x
  told_by {k} {x} e h = by_entry a z rules.tiling e h 0 ∙ ap (λ (m : ℕ). told_of a z m x) (zero-add k)

  -- an entry that is so decides: f is what it makes the walk tell
  so_told : {Is : Piece → Type 0} {r : Found} → ((k : ℕ) (x : Piece) → Is x → told_of a z k x ≡ r) → LiesIn a es Is → r ≡ find_in a z 0 es
  so_told f l = let n = entry_number l.among in sym (told_by n.1 l.holds ∙ f n.0 l.entry l.is)

  starts_in : {x : Piece} → Memᴰ x es → x.address ≡ a → Holds x a
  starts_in {x} m e = record { from = omega arith; to = omega (arith, rules.filled x m) }

  only : (r : Found) → Finds E a z es r → r ≡ find_in a z 0 es
  only (Ok (i, x)) h =
      let named = h.named in
      sym (told_by h.entry (starts_in (entry_among h.entry) named.address) ∙ told_at a z i x (rw named.live) named.address named.size)
  only (Err BeyondEnd) h = sym (beyond a z rules.tiling h 0)
  only (Err InFree) h = so_told (λ k x f. told_free a z k x (free_true f)) h
    where
      free_true : {s : Status} → IsFree s → freeb s ≡ true
      free_true is_free = refl
  only (Err InsideLive) h = so_told (λ k x n. told_inside a z k x (rw n.live) n.elsewhere) h
  only (Err OtherSize) h = so_told (λ k x n. told_other a z k x (rw n.live) n.address n.differs) h

  -- what is told of the entry in which the address lies is so
  right_of : {k : ℕ} {x : Piece} → EntryIs es k x → Holds x a → Finds E a z es (told_of a z k x)
  right_of {k} {x} e h = go x.status refl
    where
      lying : {Is : Piece → Type 0} → Is x → LiesIn a es Is
      lying i = record { entry = x; among = entry_among e; holds = h; is = i }

      go : (s : Status) → x.status ≡ s → Finds E a z es (told_of a z k x)
      go (Free c) q = rw (told_free a z k x (rw q)) (lying (rw q is_free))
      go (Live c) q = at_start (eqb x.address a) refl
        where
          live : freeb x.status ≡ false
          live = rw q

          of_size : (t : Bool) → eqb x.size z ≡ t → x.address ≡ a → Finds E a z es (told_of a z k x)
          of_size true f b =
              let size = eqb-true x.size z f in
              rw (told_at a z k x live b size) (record { entry = e; named = record { class = c; live = q; address = b; size = size } })
          of_size false f b =
              let differs = eqb-false x.size z f in
              rw (told_other a z k x live b differs) (lying (record { class = c; live = q; address = b; differs = differs }))

          at_start : (t : Bool) → eqb x.address a ≡ t → Finds E a z es (told_of a z k x)
          at_start true f = of_size (eqb x.size z) refl (eqb-true x.address a f)
          at_start false f =
              let elsewhere = eqb-false x.address a f in
              rw (told_inside a z k x live elsewhere) (lying (record { class = c; live = q; elsewhere = elsewhere }))

  right : Finds E a z es (find_in a z 0 es)
  right = split E a (λ l. rw (beyond a z rules.tiling l 0) l) below
    where
      below : a < E → Finds E a z es (find_in a z 0 es)
      below l =
          let c = covered a rules.tiling (omega arith) l in
          let e = entry_got es c.place nothing c.among in
          rw (told_by e c.holds) (right_of e c.holds)

pub finds_right : FindsRight
finds_right P E a z es rules = (right a z rules, only a z rules)

-- what a caller learns from an answer
pub found_at : {P E : ℕ} (a z : ℕ) {es : List Piece} → SoundEntries P E es → {i : ℕ} {x : Piece} → Ok (i, x) ≡ find_in a z 0 es → FoundAt a z es i x
found_at {P} {E} a z {es} rules e = subst (λ (v : Found). Finds E a z es v) (sym e) (finds_right P E a z es rules).0
