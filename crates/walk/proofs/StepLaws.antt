-- Laws of one step, over the walk's own numbers, as the code makes its tests.
--
-- In this order: what is left of the page; the walk behind an entry; a small entry; what may follow.
--
-- Assumes nothing.
use Prim.Native.Nat.{ℕ, ◌+◌, ◌-◌, ◌%◌, ◌≤◌, ◌<◌}
use mathlib.Core.Bool.{Bool, true}
use mathlib.Core.Path.{◌≡◌, refl, sym, ap, ◌∙◌}
use native.Mathlib.Omega.{arith}
use borrow.Author.Tests.{le-leb, lt-ltb, le-ltb, eq-eqb, ne_eqb}
use Rattle.pages.proofs.Numbers.{split, and_left, not_both}
use Rattle.pieces.specs.Pieces.{class_of, smallb, kind_of, Kind, status_of}
use Rattle.pieces.specs.declared.Class.TheVariants.{Large}
use Rattle.pieces.specs.declared.Status.TheVariants.{Free}
use Rattle.walk.specs.Walk.{at_border, state_of, small_followsb}
use Rattle.walk.specs.Walk.{left_behind, walk_behind, step_if, small_entryb}
use Rattle.std.specs.Prelude.{Some}
use Rattle.walk.specs.declared.Walk.{Walk}

-- ---- what is left of the page

pub behind_within : (P l z : ℕ) → z < l → left_behind P l z ≡ l - z
unfolding left_behind
behind_within P l z h = rw (lt-ltb z l h)

pub behind_exact : (P l z : ℕ) → z ≡ l → left_behind P l z ≡ P
unfolding left_behind
behind_exact P l z h = rw (le-ltb z l (omega arith), eq-eqb z l h)

pub behind_beyond : (P l z : ℕ) → l ≤ z → (z ≡ l → ⊥) → left_behind P l z ≡ P - (z - l) % P
unfolding left_behind
behind_beyond P l z h ne = rw (le-ltb z l h, ne_eqb z l ne)

-- ---- the walk behind an entry

-- the walk of three numbers
abbrev pub walk_of : ℕ → ℕ → ℕ → Walk
walk_of a l s = record { at = a; left = l; state = s }

module _ (P a l k : ℕ) where
  pub behind_inside : (l ≡ P → ⊥) → walk_behind P a l k ≡ walk_of a l k
  unfolding state_of
  behind_inside n = rw (ne_eqb l P n)

  pub behind_border : l ≡ P → (k ≡ kind_of (Free Large) → ⊥) → walk_behind P a l k ≡ walk_of a l at_border
  unfolding state_of
  behind_border e n = rw (eq-eqb l P e, ne_eqb k (kind_of (Free Large)) n)

pub step_on : {b : Bool} (P : ℕ) (v : Walk) (z k : ℕ) → b ≡ true → step_if b P v z k ≡ Some (walk_behind P (v.at + z) (left_behind P v.left z) k)
step_on P v z k e = rw e

-- ---- a small entry

module _ (P : ℕ) (v : Walk) (z : ℕ) where
  module _ (k : ℕ) (some : 1 ≤ z) (under : z < P) where
    small_holds : z ≤ v.left → small_entryb P v z ≡ true
    small_holds h = rw (le-leb 1 z some, lt-ltb z P under, le-leb z v.left h)

    -- it ends at a border
    pub small_ends : v.left ≡ z → k < kind_of (Free Large) → step_if (small_entryb P v z) P v z k ≡ Some (walk_of (v.at + z) P at_border)
    small_ends e h =
        step_on P v z k (small_holds (omega arith))
        ∙ ap (λ (l : ℕ). Some (walk_behind P (v.at + z) l k)) (behind_exact P v.left z (sym e))
        ∙ ap Some (behind_border P (v.at + z) P k refl (λ q. omega arith))

    -- it ends inside the page
    pub small_inside : z ≤ v.left → (v.left ≡ z → ⊥) → v.left ≤ P → step_if (small_entryb P v z) P v z k ≡ Some (walk_of (v.at + z) (v.left - z) k)
    small_inside h n w =
        step_on P v z k (small_holds h)
        ∙ ap (λ (l : ℕ). Some (walk_behind P (v.at + z) l k)) (behind_within P v.left z (omega arith))
        ∙ ap Some (behind_inside P (v.at + z) (v.left - z) k (λ q. omega arith))

-- ---- what may follow

-- a kind that may follow as a small one is not free large
pub follows_small : (s k : ℕ) → small_followsb s k ≡ true → Kind k → k < kind_of (Free Large)
unfolding small_followsb status_of
follows_small s k h kind =
    split (kind_of (Free Large)) k
    (λ l. let e : k ≡ kind_of (Free Large) = omega (arith, kind.largest) in
    absurd (not_both (and_left (smallb (class_of (status_of k))) _ h) (ap (λ (j : ℕ). smallb (class_of (status_of j))) e)))
    (λ l. l)
