-- Facts about numbers, tests and choices that name none of our words.
--
--   split                       one order or the other
--   and_left, and_right, both   the two sides of a test that is `true`
--   and-false                   a test and one that fails
--   passes, fails               what `if !f(x)` tells where f answers a test
--   not_both                    two values of one test
--   leb_same                    two tests that hold together are equal
--
-- Not here: laws of sums, `/` and `%` (native.Mathlib.Nat), and of single tests (borrow.Author.Tests). Assumes nothing.
use Prim.Native.Nat.{ℕ, ◌≤◌, ◌<◌}
use mathlib.Core.Bool.{Bool, true, false, ◌&&◌}
use mathlib.Core.Path.{◌≡◌, refl, sym, ◌∙◌}
use native.Mathlib.Decide.{dec_le}
use native.Mathlib.Nat.{lt_of_not-le, not-le_of_lt}
use native.Mathlib.Omega.{arith}
use lib.Dec.{leb}
use borrow.Author.Tests.{leb-true, leb-false, le-leb, lt-leb}

pub split {ℓ} : {X : Type ℓ} (a b : ℕ) → (a ≤ b → X) → (b < a → X) → X
split a b f g = elim (dec_le a b) [ yes h ↦ f h | no h ↦ g (lt_of_not-le h) ]

pub and_left : (s t : Bool) → (s && t) ≡ true → s ≡ true
and_left true t e = refl
and_left false t e = e

pub and_right : (s t : Bool) → (s && t) ≡ true → t ≡ true
and_right true t e = e
and_right false true e = refl
and_right false false e = e

pub both : (s t : Bool) → s ≡ true → t ≡ true → (s && t) ≡ true
both s t e f = rw (e, f)

pub and-false : (s : Bool) {t : Bool} → t ≡ false → (s && t) ≡ false
and-false true e = e
and-false false e = refl

pub passes : {r t : Bool} → r ≡ t → r ≡ true → t ≡ true
passes e h = sym e ∙ h

pub fails : {r t : Bool} → r ≡ t → r ≡ false → t ≡ false
fails e h = sym e ∙ h

pub not_both : {t : Bool} → t ≡ true → t ≡ false → ⊥
not_both e f = let z : ◌≡◌ {A = ℕ} 0 1 = cc in omega arith

pub leb_same : (a b c d : ℕ) → (a ≤ b → c ≤ d) → (c ≤ d → a ≤ b) → leb a b ≡ leb c d
leb_same a b c d to from = go (leb a b) refl
  where
    go : (t : Bool) → leb a b ≡ t → leb a b ≡ leb c d
    go true e = e ∙ sym (le-leb c d (to (leb-true a b e)))
    go false e = e ∙ sym (lt-leb c d (lt_of_not-le (λ h. not-le_of_lt (leb-false a b e) (from h))))
