-- Laws of the value of digits, in the order of specs/Decimal.antt, the round trip, what `Display` writes, and how many digits a number has.
-- Not here: laws of `every` (LineLaws).
use Prim.Native.Nat.{ℕ, zero, suc, ◌+◌, ◌-◌, ◌*◌, ◌/◌, ◌%◌, ◌^◌, ◌<◌, ◌≤◌}
use mathlib.Core.Bool.{Bool, true, false, cond}
use mathlib.Core.List.{List, [], ◌∷◌, ◌++◌, append-nil}
use mathlib.Core.Path.{◌≡◌, refl, ap, ◌∙◌}
use native.Mathlib.Decide.{dec_le}
use native.Mathlib.Nat.{pow-suc, pow-le-pow_right, lt_of_not-le, div-lt_iff_lt-mul, div-add-mod', mod-lt}
use native.Mathlib.Numerals.{add-one}
use native.Mathlib.Omega.{arith}
use lib.Dec.{leb, ltb}
use lib.ListN.{length, drop, get_or, replicate, drop_of_length-le, length-append}
use lib.Seq.{drop-cons}
use lib.Utf8.{encode}
use borrow.Author.Tests.{le-leb, lt-ltb, le-ltb, ne_eqb, leb-true, ltb-false}
use Rattle.std.proofs.Common.{Some, None, Ok, Err}
use Rattle.std.proofs.lemmas.Fmt.{decimal_by_steps}
use Rattle.std.specs.Fmt.{decimal, padded_integral, char_count}
use Rattle.std.specs.List.{repeat}
use Rattle.io.specs.Digits.{last_digits, hex_digit_ascii, IsDigitCount}
use Rattle.pages.proofs.Numbers.{and_left, and_right}
use Rattle.figures.specs.Laid.{number_bytes}
use Rattle.figures.specs.Decimal.{digitb, value_from, too_large, longer_by, fitting, RoundTrip, ShownInFewest, ShownRoundTrip, ShownInColumn}
use Rattle.script.specs.Line.{every}
use Rattle.figures.specs.declared.numbers.NumberError.TheVariants.{TooLarge}

-- ---- the value

pub value_next : (v : ℕ) (xs : List ℕ) (i : ℕ) → i < length xs → value_from v (drop i xs) ≡ value_from (v * 10 + (get_or xs i 0 - 48)) (drop (i + 1) xs)
unfolding value_from
value_next v xs i h = rw (add-one, drop-cons xs i 0 h)

pub value_end : (v : ℕ) (xs : List ℕ) (i : ℕ) → length xs ≤ i → value_from v (drop i xs) ≡ v
unfolding value_from
value_end v xs i h = rw (drop_of_length-le xs h)

pub value_le : (v : ℕ) (xs : List ℕ) → v ≤ value_from v xs
unfolding value_from
value_le v [] = omega arith
value_le v (x ∷ xs) = omega (arith, value_le (v * 10 + (x - 48)) xs)

pub fitting_large : (n : ℕ) → too_large ≤ n → fitting n ≡ Err TooLarge
fitting_large n h = rw (le-ltb n too_large h)

pub fitting_is : (n : ℕ) → n < too_large → fitting n ≡ Ok n
fitting_is n h = rw (lt-ltb n too_large h)

-- ---- the round trip

value_snoc : (v : ℕ) (xs : List ℕ) (d : ℕ) → value_from v (xs ++ (d ∷ [])) ≡ value_from v xs * 10 + (d - 48)
unfolding value_from
value_snoc v [] d = refl
value_snoc v (x ∷ xs) d = value_snoc (v * 10 + (x - 48)) xs d

every_snoc : (p : ℕ → Bool) (xs : List ℕ) (d : ℕ) → every p xs ≡ true → p d ≡ true → every p (xs ++ (d ∷ [])) ≡ true
every_snoc p [] d h t = rw t
every_snoc p (x ∷ xs) d h t = rw (and_left (p x) (every p xs) h) (every_snoc p xs d (and_right (p x) (every p xs) h) t)

glyph_digit : (n : ℕ) → hex_digit_ascii (n % 10) ≡ 48 + n % 10
glyph_digit n = rw (lt-ltb (n % 10) 10 (mod-lt n (omega arith)))

digits_value : (k n : ℕ) → n < 10 ^ k → value_from 0 (last_digits 10 k n) ≡ n
unfolding value_from
digits_value zero n h = omega arith
digits_value (suc k) n h =
    let ten : 0 < 10 = omega arith in
    let less : n / 10 < 10 ^ k = (div-lt_iff_lt-mul {k = 10} {x = n} {y = 10 ^ k} ten).1 (rw (pow-suc 10 k) at h) in
    value_snoc 0 (last_digits 10 k (n / 10)) (hex_digit_ascii (n % 10))
    ∙ rw (digits_value k (n / 10) less, glyph_digit n) (omega (arith, div-add-mod' n 10))

pub digits_every : (k n : ℕ) → every digitb (last_digits 10 k n) ≡ true
digits_every zero n = refl
digits_every (suc k) n =
    let ten : 0 < 10 = omega arith in
    let below : n % 10 < 10 = mod-lt n ten in
    every_snoc digitb (last_digits 10 k (n / 10)) (hex_digit_ascii (n % 10)) (digits_every k (n / 10))
    (rw (glyph_digit n, le-leb 48 (48 + n % 10) (omega arith), le-leb (48 + n % 10) 57 (omega arith)))

pub digits_some : (k n : ℕ) → 1 ≤ k → 0 < length (last_digits 10 k n)
digits_some zero n h = omega arith
digits_some (suc k) n h = omega (arith, length-append (last_digits 10 k (n / 10)) (hex_digit_ascii (n % 10) ∷ []))

pub round_trip : RoundTrip
round_trip n k h f =
    let some = digits_some k n f.0 in
    rw (ne_eqb (length (last_digits 10 k n)) 0 (λ e. omega arith), digits_every k n, digits_value k n f.1) (fitting_is n h)

-- ---- what `Display` writes

-- a number from 10 on has a digit more than its tenth
count_next : (n k : ℕ) → 10 ≤ n → IsDigitCount 10 1 (n / 10) k → IsDigitCount 10 1 n (suc k)
count_next n zero l f = absurd (omega (arith, f.0))
count_next n (suc zero) l f = (omega arith, omega (arith, f.1), λ m. l)
count_next n (suc (suc j)) l f =
    let less : suc (suc (suc j)) - 1 ≡ suc (suc j) = omega arith in
    let tenth_less : suc (suc j) - 1 ≡ suc j = omega arith in
    let least : 10 ^ suc j ≤ n / 10 = rw tenth_less at f.2 (omega arith) in
    (omega arith, rw (pow-suc 10 (suc (suc j))) (omega (arith, f.1)), λ m. rw (less, pow-suc 10 (suc j)) (omega arith))

pub shown_in_fewest : ShownInFewest
shown_in_fewest = decimal_by_steps (λ m ds. IsDigitCount 10 1 m (length ds) × (ds ≡ last_digits 10 (length ds) m)) one more
  where
    one : (m : ℕ) → m < 10 → IsDigitCount 10 1 m 1 × ((48 + m) ∷ [] ≡ last_digits 10 1 m)
    one m l = let same : m % 10 ≡ m = omega arith in ((omega arith, omega arith, λ g. absurd (omega arith)), rw (glyph_digit m, same) refl)

    more : (m : ℕ) (ds : List ℕ) → 10 ≤ m → IsDigitCount 10 1 (m / 10) (length ds) × (ds ≡ last_digits 10 (length ds) (m / 10))
        → IsDigitCount 10 1 m (length (ds ++ ((48 + m % 10) ∷ []))) × (ds ++ ((48 + m % 10) ∷ []) ≡ last_digits 10 (length (ds ++ ((48 + m % 10) ∷ []))) m)
    more m ds l f =
        let longer : length (ds ++ ((48 + m % 10) ∷ [])) ≡ suc (length ds) = omega (arith, length-append ds ((48 + m % 10) ∷ [])) in
        rw longer (count_next m (length ds) l f.0, rw (glyph_digit m) (ap (λ (xs : List ℕ). xs ++ ((48 + m % 10) ∷ [])) f.1))

pub shown_round_trip : ShownRoundTrip
shown_round_trip n h = let f = shown_in_fewest n h in rw f.1 (round_trip n (length (decimal n)) h f.0)

-- blanks by `repeat` and by `replicate`
repeated : (k : ℕ) → repeat {A = ℕ} k (32 ∷ []) ≡ replicate k 32
repeated zero = refl
repeated (suc k) = ap (λ (xs : List ℕ). 32 ∷ xs) (repeated k)

pub shown_in_column : ShownInColumn
unfolding padded_integral char_count encode
shown_in_column n zero = let none : 0 - length (decimal n) ≡ 0 = omega arith in rw none refl
shown_in_column n (suc w) =
    let k : ℕ = suc w - length (decimal n) in
    let behind : k - 0 - 0 - (k - 0 - 0) ≡ 0 = omega arith in
    let plain : k - 0 - 0 ≡ k = omega arith in
    rw (ne_eqb (suc w) 0 (λ e. omega arith), behind, plain, repeated k) (simp append-nil)

-- ---- digits

pub digit_low : (b : ℕ) → digitb b ≡ true → 48 ≤ b
digit_low b h = leb-true 48 b (and_left (leb 48 b) (leb b 57) h)

-- ---- one more digit

pub longer_to : (v d n : ℕ) → longer_by v d ≡ Some n → n ≡ v * 10 + d
longer_to v d n e = by (ltb (v * 10 + d) too_large) e
  where
    by : (b : Bool) → cond b (Some (v * 10 + d)) None ≡ Some n → n ≡ v * 10 + d
    by true g = cc
    by false g = let z : ◌≡◌ {A = ℕ} 0 1 = cc in absurd (omega arith)

pub longer_beyond : (v d : ℕ) → longer_by v d ≡ None → too_large ≤ v * 10 + d
longer_beyond v d e = ltb-false (v * 10 + d) too_large (by (ltb (v * 10 + d) too_large) e)
  where
    by : (b : Bool) → cond b (Some (v * 10 + d)) None ≡ None → b ≡ false
    by true g = let z : ◌≡◌ {A = ℕ} 0 1 = cc in absurd (omega arith)
    by false g = refl

-- ---- how many digits a number has

-- a number of 64 bits has at most 20
pub few_places : (n k : ℕ) → n < 2 ^ 64 → IsDigitCount 10 1 n k → k ≤ number_bytes
few_places n k h f =
    elim (dec_le k 20) [
      | yes l ↦ l
      | no g ↦
          let l : 20 < k = lt_of_not-le g in
          let m : 10 ^ 20 ≤ 10 ^ (k - 1) = pow-le-pow_right {n = 10} (omega arith) {i = 20} {j = k - 1} (omega arith) in
          absurd (omega (arith, f.2 (omega arith)))
    ]

-- and no two counts of digits are the fewest
fewest_le : (n j k : ℕ) → IsDigitCount 10 1 n j → IsDigitCount 10 1 n k → j ≤ k
fewest_le n j k f g =
    elim (dec_le j k) [
      | yes l ↦ l
      | no h ↦
          let l : k < j = lt_of_not-le h in
          let m : 10 ^ k ≤ 10 ^ (j - 1) = pow-le-pow_right {n = 10} (omega arith) {i = k} {j = j - 1} (omega arith) in
          absurd (omega (arith, f.2 (omega (arith, g.0)), g.1))
    ]

pub fewest_unique : (n j k : ℕ) → IsDigitCount 10 1 n j → IsDigitCount 10 1 n k → j ≡ k
fewest_unique n j k f g = omega (arith, fewest_le n j k f g, fewest_le n k j g f)
