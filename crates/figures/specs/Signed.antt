-- The signed number that a word says: a minus sign stands before the digits of a negative one.
--
--   minus              the byte of the minus sign
--   most_below         2^63, how far below 0 the least signed number is; the largest is one less above it
--   positive s         what a word without a sign says, by the number that it says
--   negative s         what a word with a minus sign says, by the number behind the sign: -0 is 0
--   signed_said xs     what a word says
--   sign_of z           what stands before the digits of z: a minus sign where z is negative
--
--   SignedRoundTrip        a number's sign, and what `io::decimal` prints of its distance from 0, say that number
--   SignedShownRoundTrip   what std's `Display` writes of a signed number, `signed_decimal z`, says that number
--
-- Laws, and the proofs of both, are in proofs/SignedLaws.antt.
use Rattle.std.specs.Prelude.{◌≡◌, Result, Ok, Err, cond, List, [], ◌∷◌, ◌++◌, ℕ, leb, ltb, eqb, ℤ, pos, negsuc, neg_ℤ, nat_abs}
use Rattle.std.specs.Fmt.{signed_decimal}
use Rattle.std.specs.Int.{w64}
use Rattle.std.proofs.Common.{SFits}
use Rattle.io.specs.Digits.{last_digits, IsDigitCount}
use Rattle.figures.specs.Decimal.{number_said}
use Rattle.figures.specs.declared.numbers.NumberError.{NumberError}
use Rattle.figures.specs.declared.numbers.NumberError.TheVariants.{TooLarge, NoNumber}

abbrev pub minus : ℕ
minus = 45

abbrev pub most_below : ℕ
most_below = 9223372036854775808

abbrev pub positive : Result ℕ NumberError → Result ℤ NumberError
positive (Ok n) = cond (ltb n most_below) (Ok (pos n)) (Err TooLarge)
positive (Err why) = Err why

abbrev pub negative : Result ℕ NumberError → Result ℤ NumberError
negative (Ok n) = cond (leb n most_below) (Ok (neg_ℤ (pos n))) (Err TooLarge)
negative (Err why) = Err why

abbrev pub signed_said : List ℕ → Result ℤ NumberError
signed_said [] = Err NoNumber
signed_said (x ∷ xs) = cond (eqb x minus) (negative (number_said xs)) (positive (number_said (x ∷ xs)))

abbrev pub sign_of : ℤ → List ℕ
sign_of (pos n) = []
sign_of (negsuc n) = minus ∷ []

abbrev pub SignedRoundTrip : Type 0
SignedRoundTrip = (z : ℤ) (k : ℕ) → SFits w64 z → IsDigitCount 10 1 (nat_abs z) k → signed_said (sign_of z ++ last_digits 10 k (nat_abs z)) ≡ Ok z

abbrev pub SignedShownRoundTrip : Type 0
SignedShownRoundTrip = (z : ℤ) → SFits w64 z → signed_said (signed_decimal z) ≡ Ok z
