-- Laws of classes, statuses and kinds.
--
-- In this order: a class is small or large; what classes and statuses cannot be; tests; a kind and its status, both ways; an entry of a list.
--
-- Assumes nothing.
use Prim.Native.Nat.{ℕ, zero, suc, ◌<◌}
use mathlib.Core.Bool.{true}
use mathlib.Core.List.{List, [], ◌∷◌, ◌++◌, Memᴰ}
use mathlib.Core.Path.{◌≡◌, refl, sym, ap}
use native.Mathlib.Omega.{arith}
use lib.Dec.{leb}
use lib.ListN.{length, get_or, take, drop}
use borrow.Author.Tests.{le-leb, leb-true}
use Rattle.pages.proofs.Numbers.{and_left, and_right, both, not_both}
use Rattle.pieces.specs.Pieces.{EntryIs, entry_here, entry_later, Small, metadata, raw, IsFree, is_free, same_class, kind_of, Kind, kindb, status_of}
use Rattle.pieces.specs.declared.Class.TheVariants.{SmallMetadata, SmallRaw, Large}
use Rattle.pieces.specs.declared.Class.{Class}
use Rattle.pieces.specs.declared.Piece.{Piece}
use Rattle.pieces.specs.declared.Status.TheVariants.{Live, Free}
use Rattle.pieces.specs.declared.Status.{Status}

-- ---- small or large

pub data View : Class → Type 0 where
  small : {c : Class} → Small c → View c
  large : View Large

pub view : (c : Class) → View c
view SmallMetadata = small metadata
view SmallRaw = small raw
view Large = large

pub large_small : {c : Class} → Small c → Large ≡ c → ⊥
large_small metadata q = let z : ◌≡◌ {A = ℕ} 0 1 = cc in omega arith
large_small raw q = let z : ◌≡◌ {A = ℕ} 0 1 = cc in omega arith

pub small_large : {c : Class} → Small c → c ≡ Large → ⊥
small_large s q = large_small s (sym q)

pub live_free : {m c : Class} → Live m ≡ Free c → ⊥
live_free q = let z : ◌≡◌ {A = ℕ} 0 1 = cc in omega arith

free_not : {s : Status} {m : Class} → IsFree s → Live m ≡ s → ⊥
free_not is_free q = live_free q

pub not_free : {m : Class} → IsFree (Live m) → ⊥
not_free h = free_not h refl

-- ---- tests

pub same_class_lem : (c d : Class) → same_class c d ≡ true → c ≡ d
same_class_lem SmallMetadata SmallMetadata h = refl
same_class_lem SmallMetadata SmallRaw h = absurd (not_both h refl)
same_class_lem SmallMetadata Large h = absurd (not_both h refl)
same_class_lem SmallRaw SmallMetadata h = absurd (not_both h refl)
same_class_lem SmallRaw SmallRaw h = refl
same_class_lem SmallRaw Large h = absurd (not_both h refl)
same_class_lem Large SmallMetadata h = absurd (not_both h refl)
same_class_lem Large SmallRaw h = absurd (not_both h refl)
same_class_lem Large Large h = refl

class_self : (c : Class) → same_class c c ≡ true
class_self SmallMetadata = refl
class_self SmallRaw = refl
class_self Large = refl

pub class_same : (c d : Class) → c ≡ d → same_class c d ≡ true
class_same c d e = rw e (class_self d)

-- ---- kinds

pub kind_true : (k : ℕ) → kindb k ≡ true → Kind k
kind_true k h =
    record { least = leb-true 1 k (and_left (leb 1 k) (leb k 6) h); largest = leb-true k 6 (and_right (leb 1 k) (leb k 6) h) }

pub true_kind : (k : ℕ) → Kind k → kindb k ≡ true
true_kind k h = both _ _ (le-leb 1 k h.least) (le-leb k 6 h.largest)

pub kind_of_lem : (s : Status) → Kind (kind_of s)
kind_of_lem (Live SmallMetadata) = record { least = omega arith; largest = omega arith }
kind_of_lem (Live SmallRaw) = record { least = omega arith; largest = omega arith }
kind_of_lem (Live Large) = record { least = omega arith; largest = omega arith }
kind_of_lem (Free SmallMetadata) = record { least = omega arith; largest = omega arith }
kind_of_lem (Free SmallRaw) = record { least = omega arith; largest = omega arith }
kind_of_lem (Free Large) = record { least = omega arith; largest = omega arith }

pub status_kind : (s : Status) → status_of (kind_of s) ≡ s
unfolding status_of
status_kind (Live SmallMetadata) = refl
status_kind (Live SmallRaw) = refl
status_kind (Live Large) = refl
status_kind (Free SmallMetadata) = refl
status_kind (Free SmallRaw) = refl
status_kind (Free Large) = refl

pub kind_status : (k : ℕ) → Kind k → kind_of (status_of k) ≡ k
unfolding status_of
kind_status zero h = absurd (omega (arith, h.least))
kind_status (suc zero) h = refl
kind_status (suc (suc zero)) h = refl
kind_status (suc (suc (suc zero))) h = refl
kind_status (suc (suc (suc (suc zero)))) h = refl
kind_status (suc (suc (suc (suc (suc zero))))) h = refl
kind_status (suc (suc (suc (suc (suc (suc zero)))))) h = refl
kind_status (suc (suc (suc (suc (suc (suc (suc k))))))) h = absurd (omega (arith, h.largest))

-- ---- an entry of a list

pub entry_lt : {es : List Piece} {i : ℕ} {x : Piece} → EntryIs es i x → i < length es
entry_lt entry_here = omega arith
entry_lt (entry_later e) = omega (arith, entry_lt e)

pub entry_among : {es : List Piece} {i : ℕ} {x : Piece} → EntryIs es i x → Memᴰ x es
entry_among entry_here = Memᴰ.head refl
entry_among (entry_later e) = Memᴰ.tail (entry_among e)

-- and an entry among them has a number
pub entry_number : {x : Piece} {es : List Piece} → Memᴰ x es → (i : ℕ) × EntryIs es i x
entry_number {x = x} (Memᴰ.head {x = y} {xs = es} e) = (0, rw e entry_here)
entry_number (Memᴰ.tail h) = let r = entry_number h in (suc r.0, entry_later r.1)

pub entry_got : (es : List Piece) (i : ℕ) (d : Piece) → i < length es → EntryIs es i (get_or es i d)
entry_got [] i d h = absurd (omega arith)
entry_got (x ∷ es) zero d h = entry_here
entry_got (x ∷ es) (suc i) d h = entry_later (entry_got es i d (omega arith))

pub entry_split : {es : List Piece} {i : ℕ} {x : Piece} → EntryIs es i x → es ≡ take i es ++ (x ∷ drop (suc i) es)
entry_split entry_here = refl
entry_split (entry_later {y = y} e) = ap (λ (l : List Piece). y ∷ l) (entry_split e)
