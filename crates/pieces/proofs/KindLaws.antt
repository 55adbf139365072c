-- Laws of the tests on kind words: what `kind` computes from the word is what `status_of` says of it.
--
-- In this order: free and of a class, of any word; free, and its manager, of a kind.
--
-- Assumes nothing.
use Prim.Native.Nat.{ℕ, ◌-◌, ◌≤◌}
use mathlib.Core.Bool.{Bool, true, false, not}
use mathlib.Core.Path.{◌≡◌, refl, sym, ap, ◌∙◌}
use native.Mathlib.Omega.{arith}
use lib.Dec.{eqb, ltb}
use borrow.Author.Tests.{ne_eqb}
use Rattle.pages.proofs.Numbers.{not_both}
use Rattle.pieces.proofs.PieceLaws.{same_class_lem, class_same, kind_true, status_kind, kind_status}
use Rattle.pieces.specs.Pieces.{class_of, same_class, freeb, free_of, manager_of, Small, metadata, raw, kind_of, Kind, kindb, status_of}
use Rattle.pieces.specs.declared.Class.TheVariants.{SmallMetadata, SmallRaw, Large}
use Rattle.pieces.specs.declared.Class.{Class}
use Rattle.pieces.specs.declared.Status.TheVariants.{Live, Free}
use Rattle.pieces.specs.declared.Status.{Status}

-- a word that is no kind reads as free large
pub no_kind_status : (k : ℕ) → kindb k ≡ false → status_of k ≡ Free Large
unfolding status_of
no_kind_status k h = simp (other 1 refl, other 2 refl, other 3 refl, other 4 refl, other 5 refl)
  where
    other : (j : ℕ) → kindb j ≡ true → eqb k j ≡ false
    other j e = ne_eqb k j (λ q. not_both e (sym (ap kindb q) ∙ h))

pub free_of_kind : (k : ℕ) (c : Class) → k ≡ kind_of (Free c) → free_of c (status_of k) ≡ true
free_of_kind k c e = rw (e, status_kind (Free c)) (class_same c c refl)

other_free : (s : Status) (c : Class) → (kind_of s ≡ kind_of (Free c) → ⊥) → free_of c s ≡ false
other_free (Live d) c h = refl
other_free (Free d) c h = go (same_class d c) refl
  where
    go : (t : Bool) → same_class d c ≡ t → t ≡ false
    go true e = absurd (h (ap (λ (x : Class). kind_of (Free x)) (same_class_lem d c e)))
    go false e = refl

pub free_of_other : (k : ℕ) (c : Class) → kindb k ≡ true → (k ≡ kind_of (Free c) → ⊥) → free_of c (status_of k) ≡ false
free_of_other k c h n = other_free (status_of k) c (λ e. n (sym (kind_status k (kind_true k h)) ∙ e))

large_is_not : {c : Class} → Small c → same_class Large c ≡ false
large_is_not metadata = refl
large_is_not raw = refl

-- of a small class it needs no kind: what is none reads as large
free_of_small : (k : ℕ) {c : Class} → Small c → (k ≡ kind_of (Free c) → ⊥) → free_of c (status_of k) ≡ false
free_of_small k {c} t n = go (kindb k) refl
  where
    go : (b : Bool) → kindb k ≡ b → free_of c (status_of k) ≡ false
    go true e = free_of_other k c e n
    go false e = rw (no_kind_status k e) (large_is_not t)

pub free_of_not_large : (k : ℕ) (c : Class) → (c ≡ Large → ⊥) → (k ≡ kind_of (Free c) → ⊥) → free_of c (status_of k) ≡ false
free_of_not_large k SmallMetadata other n = free_of_small k metadata n
free_of_not_large k SmallRaw other n = free_of_small k raw n
free_of_not_large k Large other n = absurd (other refl)

pub free_of_large : (k : ℕ) → (k ≡ kind_of (Free Large) → ⊥) → free_of Large (status_of k) ≡ not (kindb k)
free_of_large k n = go (kindb k) refl
  where
    go : (b : Bool) → kindb k ≡ b → free_of Large (status_of k) ≡ not b
    go true e = free_of_other k Large e n
    go false e = rw (no_kind_status k e)

-- ---- of a kind

free_above : (s : Status) → freeb s ≡ ltb (kind_of (Live Large)) (kind_of s)
free_above (Live SmallMetadata) = refl
free_above (Live SmallRaw) = refl
free_above (Live Large) = refl
free_above (Free SmallMetadata) = refl
free_above (Free SmallRaw) = refl
free_above (Free Large) = refl

pub free_kind : (k : ℕ) → Kind k → freeb (status_of k) ≡ ltb (kind_of (Live Large)) k
free_kind k h = rw (kind_status k h) at (free_above (status_of k))

manager_above : (s : Status) → freeb s ≡ true → (kind_of (Free SmallMetadata) ≤ kind_of s) × (manager_of (class_of s) ≡ kind_of s - kind_of (Free SmallMetadata))
manager_above (Live c) h = absurd (not_both h refl)
manager_above (Free SmallMetadata) h = (omega arith, refl)
manager_above (Free SmallRaw) h = (omega arith, refl)
manager_above (Free Large) h = (omega arith, refl)

pub manager_kind : (k : ℕ) → Kind k → freeb (status_of k) ≡ true
    → (kind_of (Free SmallMetadata) ≤ k) × (manager_of (class_of (status_of k)) ≡ k - kind_of (Free SmallMetadata))
manager_kind k h f = rw (kind_status k h) at (manager_above (status_of k) f)
