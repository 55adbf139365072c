-- Two lists of numbers, compared. It names none of our words: bytes of a text and numbers of a summary are compared alike.
--
--   sameb xs ys        the test whether two lists are one
--   Same               it is true exactly of equal lists
--
-- Assumes nothing. Laws, and the proof of Same, are in proofs/SameLaws.antt.
use Rattle.std.specs.Prelude.{◌≡◌, Bool, true, false, ◌&&◌, ◌↔◌, List, [], ◌∷◌, ℕ, eqb}

unfoldable pub sameb : List ℕ → List ℕ → Bool
sameb [] [] = true
sameb [] (y ∷ ys) = false
sameb (x ∷ xs) [] = false
sameb (x ∷ xs) (y ∷ ys) = eqb x y && sameb xs ys

abbrev pub Same : Type 0
Same = (xs ys : List ℕ) → (sameb xs ys ≡ true) ↔ (xs ≡ ys)
