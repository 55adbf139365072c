-- The laws of a block's check.
--
--   sum_at a b              the sums a and b, each modulo 65,535
--   shorts_from i block    the words of 16 bits from the word i on
--   short_is               such a word by its two bytes
--   sums_up, sums_end      the sums over a block: one word more, at last
--   checked                both halves of the check are its sums
--   log_sums               what specs/Check.antt says of them
use Prim.Native.Nat.{ℕ, zero, suc, ◌+◌, ◌-◌, ◌*◌, ◌%◌, ◌≤◌, ◌<◌}
use mathlib.Core.Bool.{true, ◌&&◌}
use mathlib.Core.List.{List, [], ◌∷◌}
use mathlib.Core.Path.{◌≡◌, refl, sym, ap, ◌∙◌}
use native.Mathlib.Nat.{mod-lt}
use native.Mathlib.Numerals.{add-one}
use native.Mathlib.Omega.{arith}
use lib.Dec.{lit<, eqb}
use lib.ListN.{length, take, drop, get_or}
use lib.Seq.{drop-cons, drop-drop}
use Rattle.little.specs.Little.{little, numbers, value_at}
use Rattle.log_check.specs.Check.{short_bytes, check_at, second_at, block_bytes, shorts, sum_values, shorts_in, sums_from, sums_of, checkb}
use Rattle.log_check.specs.Check.{total, successive, LogSums}
use Rattle.log_check.specs.declared.Sums.{Sums}
use Rattle.pages.proofs.Numbers.{and_left, and_right}
use borrow.Author.Tests.{eqb-true}

abbrev pub sum_at : ℕ → ℕ → Sums
sum_at a b = record { a = a % sum_values; b = b % sum_values }

abbrev pub shorts_from : ℕ → List ℕ → List ℕ
shorts_from i block = numbers short_bytes (shorts - i) (drop (i * short_bytes) block)

-- ---- the sums

pub short_is : (b : List ℕ) (at : ℕ) → at + short_bytes ≤ length b → get_or b at 0 + 256 * get_or b (at + 1) 0 ≡ little (take short_bytes (drop at b))
unfolding little
short_is b at h =
    let m : at < length b = omega arith in
    let n : suc at < length b = omega arith in
    rw (drop-cons b at 0 m, drop-cons b (suc at) 0 n, add-one) (omega arith)

left_mod : (x y : ℕ) → (x % sum_values + y) % sum_values ≡ (x + y) % sum_values
left_mod x y = omega arith

both_mod : (x y : ℕ) → (x % sum_values + y % sum_values) % sum_values ≡ (x + y) % sum_values
both_mod x y =
    let right : (x + y % sum_values) % sum_values ≡ (x + y) % sum_values = omega arith in
    left_mod x (y % sum_values) ∙ right

sums_next : (a b w : ℕ) (ws : List ℕ) → sums_from (sum_at a b) (w ∷ ws) ≡ sums_from (sum_at (a + w) (b + (a + w))) ws
unfolding sums_from
sums_next a b w ws =
    rw (left_mod a w, both_mod b (a + w)) refl

pub sums_up : (block : List ℕ) (i a b w : ℕ) → i < shorts → w ≡ little (take short_bytes (drop (i * short_bytes) block))
    → sums_from (sum_at (a + w) (b + (a + w))) (shorts_from (i + 1) block) ≡ sums_from (sum_at a b) (shorts_from i block)
unfolding numbers
sums_up block i a b w h e =
    let left : shorts - i ≡ suc (shorts - (i + 1)) = omega arith in
    let at : (i + 1) * short_bytes ≡ i * short_bytes + short_bytes = omega arith in
    rw (left, at, ← e, drop-drop) (sym (sums_next a b w _))

pub sums_end : (block : List ℕ) (i a b : ℕ) → shorts ≤ i → sums_from (sum_at a b) (shorts_from i block) ≡ sum_at a b
unfolding numbers sums_from
sums_end block i a b h =
    let left : shorts - i ≡ zero = omega arith in
    rw left refl

-- ---- the check

pub checked : (b : List ℕ) {s : Sums} {v w : ℕ} → s ≡ sums_of (shorts_in b) → v ≡ value_at check_at second_at b → w ≡ value_at second_at block_bytes b
    → (eqb v s.a && eqb w s.b) ≡ checkb b
unfolding checkb
checked b e f g = rw (e, f, g)

-- ---- what is proved

sums_total : (ws : List ℕ) (a b : ℕ)
    → sums_from (sum_at a b) ws ≡ sum_at (a + total ws) (b + total (successive a ws))
unfolding sums_from total successive
sums_total [] a b = let e : a + 0 ≡ a = omega arith in let f : b + 0 ≡ b = omega arith in rw (e, f) refl
sums_total (w ∷ ws) a b =
    let e : a + w + total ws ≡ a + (w + total ws) = omega arith in
    let f : b + (a + w) + total (successive (a + w) ws) ≡ b + (a + w + total (successive (a + w) ws)) = omega arith in
    sums_next a b w ws ∙ sums_total ws (a + w) (b + (a + w)) ∙ rw (e, f) refl

sums_from_zero : (ws : List ℕ) → sums_of ws ≡ sum_at (total ws) (total (successive 0 ws))
sums_from_zero ws =
    let e : 0 + total ws ≡ total ws = omega arith in
    let f : 0 + total (successive 0 ws) ≡ total (successive 0 ws) = omega arith in
    sums_total ws 0 0 ∙ rw (e, f) refl

sum_first : (ws : List ℕ) → (sums_of ws).a ≡ total ws % sum_values
sum_first ws = ap (λ s. s.a) (sums_from_zero ws)

sum_second : (ws : List ℕ) → (sums_of ws).b ≡ total (successive 0 ws) % sum_values
sum_second ws = ap (λ s. s.b) (sums_from_zero ws)

below : {v s : ℕ} (n : ℕ) → eqb v s ≡ true → s ≡ n % sum_values → v < sum_values
below {v} {s} n e f = rw (eqb-true v s e, f) (mod-lt n {m = sum_values} (lit< tt))

pub log_sums : LogSums
unfolding checkb
log_sums =
    record {
      first = sum_first;
      second = sum_second;
      first_below = λ b h. below _ (and_left _ _ h) (sum_first (shorts_in b));
      second_below = λ b h. below _ (and_right (eqb (value_at check_at second_at b) (sums_of (shorts_in b)).a) _ h) (sum_second (shorts_in b));
    }
