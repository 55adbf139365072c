-- Laws of two lists that are compared.
--
--   same_next, same_stop, same_end     a walk over both: numbers that are equal, that are not, and the end
--   same_lengths                       lists of other lengths are not one
--   same_pointwise                     `==` on slices is this test: what `a == b` ensures, as sameb
--   same                               the statement Same
--
-- Assumes nothing.
use Prim.Native.Nat.{ℕ, suc, ◌+◌, ◌<◌, ◌≤◌}
use mathlib.Core.Bool.{true, false, ◌&&◌, true≢false}
use mathlib.Core.List.{List, [], ◌∷◌}
use mathlib.Core.Path.{◌≡◌, refl, sym, ap}
use native.Mathlib.Numerals.{add-one}
use lib.Dec.{eqb}
use lib.ListN.{length, drop, get_or, drop_of_length-le}
use lib.Pointwise.{pointwise}
use lib.Seq.{drop-cons}
use borrow.Author.Tests.{eq-eqb, ne_eqb, eqb-true}
use Rattle.pages.proofs.Numbers.{and_left, and_right, and-false}
use Rattle.pages.specs.Same.{sameb, Same}

-- ---- a walk

pub same_next : (xs ys : List ℕ) (i : ℕ) → i < length xs → i < length ys → get_or xs i 0 ≡ get_or ys i 0
    → sameb (drop i xs) (drop i ys) ≡ sameb (drop (i + 1) xs) (drop (i + 1) ys)
unfolding sameb
same_next xs ys i h k e = rw (add-one, drop-cons xs i 0 h, drop-cons ys i 0 k, eq-eqb _ _ e)

pub same_stop : (xs ys : List ℕ) (i : ℕ) → i < length xs → i < length ys → (get_or xs i 0 ≡ get_or ys i 0 → ⊥) → sameb (drop i xs) (drop i ys) ≡ false
unfolding sameb
same_stop xs ys i h k n = rw (drop-cons xs i 0 h, drop-cons ys i 0 k, ne_eqb _ _ n)

pub same_end : (xs ys : List ℕ) (i : ℕ) → length xs ≤ i → length ys ≤ i → sameb (drop i xs) (drop i ys) ≡ true
unfolding sameb
same_end xs ys i h k = rw (drop_of_length-le xs h, drop_of_length-le ys k)

pub same_lengths : (xs ys : List ℕ) → (length xs ≡ length ys → ⊥) → sameb xs ys ≡ false
unfolding sameb
same_lengths [] [] h = absurd (h refl)
same_lengths [] (y ∷ ys) h = refl
same_lengths (x ∷ xs) [] h = refl
same_lengths (x ∷ xs) (y ∷ ys) h = and-false (eqb x y) (same_lengths xs ys (λ e. h (ap suc e)))

-- ---- the test by which slices are compared (`==`)

pub same_pointwise : (xs ys : List ℕ) → pointwise eqb xs ys ≡ sameb xs ys
unfolding sameb
same_pointwise [] [] = refl
same_pointwise [] (y ∷ ys) = refl
same_pointwise (x ∷ xs) [] = refl
same_pointwise (x ∷ xs) (y ∷ ys) = ap (λ b. eqb x y && b) (same_pointwise xs ys)

-- ---- equal lists

same_equal : (xs ys : List ℕ) → sameb xs ys ≡ true → xs ≡ ys
unfolding sameb
same_equal [] [] h = refl
same_equal [] (y ∷ ys) h = absurd (true≢false (sym h))
same_equal (x ∷ xs) [] h = absurd (true≢false (sym h))
same_equal (x ∷ xs) (y ∷ ys) h =
    let head : x ≡ y = eqb-true x y (and_left (eqb x y) (sameb xs ys) h) in
    let tail : xs ≡ ys = same_equal xs ys (and_right (eqb x y) (sameb xs ys) h) in
    cc

same_self : (xs : List ℕ) → sameb xs xs ≡ true
unfolding sameb
same_self [] = refl
same_self (x ∷ xs) = rw (eq-eqb x x refl) (same_self xs)

pub same : Same
same xs ys = (same_equal xs ys, λ e. rw (← e) (same_self xs))
