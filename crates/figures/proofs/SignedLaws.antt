-- Laws of signed numbers: what a word says, in the order of specs/Signed.antt; the round trips.
--
-- Not here: laws of the digits (DecimalLaws).
use Prim.Native.Nat.{ℕ, suc, ◌≤◌, ◌<◌}
use mathlib.Core.Bool.{true}
use mathlib.Core.List.{List, [], ◌∷◌}
use mathlib.Core.Path.{◌≡◌, ◌∙◌}
use native.Mathlib.Omega.{arith}
use lib.ListN.{length, get_or}
use lib.IntN.{pos, negsuc, neg_ℤ}
use borrow.Author.Tests.{le-leb, lt-ltb, ne_eqb}
use Rattle.std.proofs.Common.{Ok}
use Rattle.std.specs.Fmt.{decimal}
use Rattle.io.specs.Digits.{last_digits}
use Rattle.pages.proofs.Numbers.{and_left}
use Rattle.script.specs.Line.{every}
use Rattle.figures.proofs.DecimalLaws.{round_trip, digits_some, digits_every, digit_low, shown_in_fewest}
use Rattle.figures.specs.Decimal.{digitb, number_said}
use Rattle.figures.specs.Signed.{minus, most_below, positive, negative, signed_said, SignedRoundTrip, SignedShownRoundTrip}

-- ---- what a word says

pub positive_is : (n : ℕ) → n < most_below → positive (Ok n) ≡ Ok (pos n)
positive_is n h = rw (lt-ltb n most_below h)

pub negative_is : (n : ℕ) → n ≤ most_below → negative (Ok n) ≡ Ok (neg_ℤ (pos n))
negative_is n h = rw (le-leb n most_below h)

pub signed_plain : (xs : List ℕ) → 0 < length xs → ¬ (get_or xs 0 0 ≡ minus) → signed_said xs ≡ positive (number_said xs)
signed_plain [] h e = absurd (omega arith)
signed_plain (x ∷ xs) h e = rw (ne_eqb x minus e)

-- ---- the round trip

-- the first of some digits is no minus sign
digits_plain : (xs : List ℕ) → 0 < length xs → every digitb xs ≡ true → ¬ (get_or xs 0 0 ≡ minus)
digits_plain [] h e m = omega arith
digits_plain (x ∷ xs) h e m = omega (arith, m, digit_low x (and_left (digitb x) (every digitb xs) e))

pub signed_round_trip : SignedRoundTrip
signed_round_trip (pos n) k f h =
    let said = round_trip n k (omega (arith, f.sfits)) h in
    let xs = last_digits 10 k n in
    signed_plain xs (digits_some k n h.0) (digits_plain xs (digits_some k n h.0) (digits_every k n)) ∙ rw said (positive_is n f.sfits)
signed_round_trip (negsuc m) k f h =
    let said = round_trip (suc m) k (omega (arith, f.sfits)) h in
    rw said (negative_is (suc m) f.sfits)

-- of what `Display` writes: a sign where there is one, and the digits of the distance from 0
pub signed_shown_round_trip : SignedShownRoundTrip
signed_shown_round_trip (pos n) f =
    let shown = shown_in_fewest n (omega (arith, f.sfits)) in
    rw shown.1 (signed_round_trip (pos n) (length (decimal n)) f shown.0)
signed_shown_round_trip (negsuc m) f =
    let shown = shown_in_fewest (suc m) (omega (arith, f.sfits)) in
    rw shown.1 (signed_round_trip (negsuc m) (length (decimal (suc m))) f shown.0)
