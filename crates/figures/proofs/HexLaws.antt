-- Laws of the bytes that a text says, in the order of specs/Hex.antt.
use Prim.Native.Nat.{ℕ, zero, suc, ◌+◌, ◌*◌, ◌/◌, ◌<◌}
use mathlib.Core.Bool.{Bool, true, false, cond}
use mathlib.Core.List.{List, [], ◌∷◌}
use mathlib.Core.Path.{◌≡◌, refl, sym, ◌∙◌}
use native.Mathlib.Omega.{arith}
use lib.ListN.{length, get_or, set}
use lib.Seq.{paste}
use Rattle.std.proofs.Common.{Some, None}
use Rattle.figures.proofs.LaidLaws.{laid_next}
use Rattle.figures.specs.Hex.{nibble_of, nibbleb, nibble_said, bytes_said}

-- ---- the bytes that a text says

length_bytes : (xs : List ℕ) → length (bytes_said xs) ≡ length xs / 2
unfolding bytes_said
length_bytes [] = refl
length_bytes (a ∷ []) = refl
length_bytes (a ∷ b ∷ xs) = omega (arith, length_bytes xs)

get_d_bytes : (xs : List ℕ) (i : ℕ) → i < length xs / 2
    → get_or (bytes_said xs) i 0 ≡ nibble_of (get_or xs (i * 2) 0) * 16 + nibble_of (get_or xs (i * 2 + 1) 0)
unfolding bytes_said
get_d_bytes [] i h = absurd (omega arith)
get_d_bytes (a ∷ []) i h = absurd (omega arith)
get_d_bytes (a ∷ b ∷ xs) zero h = refl
get_d_bytes (a ∷ b ∷ xs) (suc i) h =
    let even : suc i * 2 ≡ suc (suc (i * 2)) = omega arith in
    let odd : suc i * 2 + 1 ≡ suc (suc (i * 2 + 1)) = omega arith in
    rw (odd, even) (get_d_bytes xs i (omega arith))

pub nibble_value : (b v : ℕ) → nibble_said b ≡ Some v → v ≡ nibble_of b
nibble_value b v e = by (nibbleb b) e
  where
    by : (t : Bool) → cond t (Some (nibble_of b)) None ≡ Some v → v ≡ nibble_of b
    by true g = cc
    by false g = cc

-- one byte more of those that a text says
pub said_next : (d xs : List ℕ) (i : ℕ) {e : List ℕ} {v : ℕ} → e ≡ paste d 0 (bytes_said xs) i → i < length xs / 2 → i < length d
    → v ≡ nibble_of (get_or xs (i * 2) 0) * 16 + nibble_of (get_or xs (i * 2 + 1) 0) → set e i v ≡ paste d 0 (bytes_said xs) (i + 1)
said_next d xs i he half room hv =
    let said : i < length (bytes_said xs) = omega (arith, length_bytes xs) in
    laid_next d (bytes_said xs) 0 i he (omega arith) (omega arith) said (hv ∙ sym (get_d_bytes xs i half))
