-- Laws of the packed number that says which small kind may stand behind which state: a number agrees with the rule where it does so for every
-- state and every kind, which is computed.
--
--   everyb n f       f holds of every number below n
--   state_bits       the bits that the number has for a state
--   bitb n s k       n's bit of the kind k behind the state s, as the code reads it
--   agreesb n        n says of every state and every kind what `small_followsb` says
--   packed           the bits of a number that agrees are the rule
--
-- Assumes nothing.
use Prim.Native.Nat.{ℕ, zero, suc, ◌+◌, ◌-◌, ◌*◌, ◌/◌, ◌^◌, ◌≤◌, ◌<◌}
use mathlib.Core.Bool.{Bool, true, false, not, ◌&&◌, beq}
use mathlib.Core.Path.{◌≡◌, refl, ap, ◌∙◌}
use native.Mathlib.Omega.{arith}
use lib.Bits.{bit_and}
use lib.Dec.{eqb}
use Rattle.pages.proofs.Numbers.{split, and_left, and_right, not_both}
use Rattle.pieces.specs.Pieces.{kind_of, Kind}
use Rattle.pieces.specs.declared.Class.TheVariants.{Large}
use Rattle.pieces.specs.declared.Status.TheVariants.{Free}
use Rattle.walk.specs.Walk.{behind_free_large, small_followsb}

abbrev pub everyb : ℕ → (ℕ → Bool) → Bool
everyb zero f = true
everyb (suc n) f = f n && everyb n f

every : (n : ℕ) (f : ℕ → Bool) → everyb n f ≡ true → (i : ℕ) → i < n → f i ≡ true
every zero f h i l = absurd (omega arith)
every (suc n) f h i l =
    split n i
    (λ m. let e : i ≡ n = omega arith in ap f e ∙ and_left (f n) (everyb n f) h)
    (λ m. every n f (and_right (f n) (everyb n f) h) i m)

same_bool : (s t : Bool) → beq s t ≡ true → s ≡ t
same_bool true true h = refl
same_bool true false h = absurd (not_both h refl)
same_bool false true h = absurd (not_both h refl)
same_bool false false h = refl

abbrev pub state_bits : ℕ
state_bits = 8

abbrev pub bitb : ℕ → ℕ → ℕ → Bool
bitb n s k = not (eqb (bit_and (n / 2 ^ (s * state_bits + k)) 1) 0)

abbrev pub saysb : ℕ → ℕ → ℕ → Bool
saysb n s k = beq (bitb n s k) (small_followsb s k)

abbrev pub agreesb : ℕ → Bool
agreesb n = everyb (suc behind_free_large) (λ s. everyb (kind_of (Free Large)) (λ k. saysb n s (suc k)))

pub packed : (n s k : ℕ) → agreesb n ≡ true → s ≤ behind_free_large → Kind k → bitb n s k ≡ small_followsb s k
packed n s k h l kind =
    let row = every (suc behind_free_large) (λ (r : ℕ). everyb (kind_of (Free Large)) (λ (j : ℕ). saysb n r (suc j))) h s (omega arith) in
    let one = every (kind_of (Free Large)) (λ (j : ℕ). saysb n s (suc j)) row (k - 1) (omega (arith, kind.least, kind.largest)) in
    let e : suc (k - 1) ≡ k = omega (arith, kind.least) in
    same_bool (bitb n s k) (small_followsb s k) (rw e at one)
