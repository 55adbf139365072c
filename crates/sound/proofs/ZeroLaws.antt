-- Laws of the words behind the entries: that all are 0 is said by the or of their bits, and block by block.
--
-- In this order: an or of bits, and of those of many words; one block more; the blocks, up to the last whole one.
--
-- Assumes nothing.
use Prim.Native.Nat.{ℕ, ◌+◌, ◌-◌, ◌*◌, ◌%◌, ◌≤◌, ◌<◌}
use mathlib.Core.Bool.{Bool, true, false, ◌&&◌, and-true, and_assoc}
use mathlib.Core.List.{List, [], ◌∷◌, ◌++◌}
use mathlib.Core.Path.{◌≡◌, refl, sym, ap, ◌∙◌}
use native.Mathlib.Omega.{arith}
use Rattle.std.specs.Prelude.{fold}
use lib.Bits.{bit_or, or_zero_l, or_add_and, and_le_r}
use lib.Dec.{eqb}
use lib.ListN.{length, drop, length-append, length-drop}
use lib.Seq.{drop_at, drop-drop}
use borrow.Author.Tests.{eqb-true, eqb-false, eq-eqb, ne_eqb}
use Rattle.table.specs.Local.{zerosb}

-- ---- bits

-- an or is 0 just if both sides are
or_none : (a b : ℕ) → eqb (bit_or a b) 0 ≡ (eqb a 0 && eqb b 0)
or_none a b = go (eqb a 0) refl
  where
    go : (t : Bool) → eqb a 0 ≡ t → eqb (bit_or a b) 0 ≡ (t && eqb b 0)
    go true e = ap (λ (v : ℕ). eqb v 0) (ap (λ (v : ℕ). bit_or v b) (eqb-true a 0 e) ∙ or_zero_l b)
    go false e = ne_eqb (bit_or a b) 0 (λ z. eqb-false a 0 e (omega (arith, or_add_and a b, and_le_r a b)))

-- the bits of some words, gathered from others' on
bits_from : (bits : ℕ) (w : List ℕ) → eqb (fold bit_or bits w) 0 ≡ (eqb bits 0 && zerosb w)
unfolding zerosb
bits_from bits [] = sym (and-true (eqb bits 0))
bits_from bits (x ∷ w) = bits_from (bit_or bits x) w ∙ (rw (or_none bits x) (and_assoc (eqb bits 0) (eqb x 0) (zerosb w)))

pub bits_none : (w : List ℕ) → eqb (fold bit_or 0 w) 0 ≡ zerosb w
bits_none w = bits_from 0 w

-- ---- one block more

zeros_append : (v w : List ℕ) → zerosb (v ++ w) ≡ (zerosb v && zerosb w)
unfolding zerosb
zeros_append [] w = refl
zeros_append (x ∷ v) w = rw (zeros_append v w) (sym (and_assoc (eqb x 0) (zerosb v) (zerosb w)))

module _ (v w : List ℕ) (bits : ℕ) (is : eqb bits 0 ≡ zerosb v) where
  pub zeros_on : bits ≡ 0 → zerosb (v ++ w) ≡ zerosb w
  zeros_on e = zeros_append v w ∙ rw (sym is ∙ eq-eqb bits 0 e)

  pub zeros_stop : (bits ≡ 0 → ⊥) → zerosb (v ++ w) ≡ false
  zeros_stop n = zeros_append v w ∙ rw (sym is ∙ ne_eqb bits 0 n)

-- of the words w those from some block of b words on are left
pub record Blocks (b : ℕ) (w left : List ℕ) : Type 0 where
  pub seen : ℕ
  pub within : seen * b ≤ length w
  pub left_is : left ≡ drop (seen * b) w
  pub same : zerosb left ≡ zerosb w

pub blocks_none : (b : ℕ) (w : List ℕ) → Blocks b w w
blocks_none b w = let e : 0 * b ≡ 0 = omega arith in record { seen = 0; within = omega arith; left_is = rw e; same = refl }

pub blocks_more : (b : ℕ) (w left v more : List ℕ) → Blocks b w left → left ≡ v ++ more → length v ≡ b → zerosb left ≡ zerosb more → Blocks b w more
blocks_more b w left v more h is size same =
    let long : length left ≡ length v + length more = ap length is ∙ length-append v more in
    let was : length left ≡ length w - h.seen * b = ap length h.left_is ∙ length-drop (h.seen * b) w in
    let step : more ≡ drop b left = sym (ap (drop b) is ∙ drop_at v more b size) in
    let e : (h.seen + 1) * b ≡ h.seen * b + b = omega arith in
    record {
      seen = h.seen + 1;
      within = omega arith;
      left_is = step ∙ (ap (drop b) h.left_is ∙ (drop-drop b (h.seen * b) w ∙ ap (λ (k : ℕ). drop k w) (sym e)));
      same = sym same ∙ h.same;
    }

-- where no whole block is left, those left are what no block has
pub blocks_end : (w left : List ℕ) → Blocks 144 w left → length left < 144 → zerosb (drop (length w - length w % 144) w) ≡ zerosb w
blocks_end w left h few =
    let long : length left ≡ length w - h.seen * 144 = ap length h.left_is ∙ length-drop (h.seen * 144) w in
    let within : h.seen * 144 ≤ length w = h.within in
    let e : length w - length w % 144 ≡ h.seen * 144 = omega arith in
    rw e (ap zerosb (sym h.left_is) ∙ h.same)
