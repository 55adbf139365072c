-- The number that a word says in decimal digits.
--
--   digitb b           the byte b is a digit
--   value_from v xs    the value of the digits xs behind a value v
--   too_large          2^64, the first number that is too large
--   longer_by v d      the value v with one more digit d
--   fitting n          what a word of digits with the value n says
--   number_said xs     what a word says: no number where it has no bytes, or one that is no digit
--
--   RoundTrip          what `io::decimal` prints of a number says that number
--   ShownInFewest      what std's `Display` writes of a number, `decimal n`, are its digits, as few as hold it: as `io::decimal` prints it
--   ShownRoundTrip     what `Display` writes of a number says that number
--   ShownInColumn      in a column of w places, `{:>w}`, it writes blanks before these digits, and nothing else
--
-- Laws, and the proofs of these four, are in proofs/DecimalLaws.antt.
use Rattle.std.specs.Prelude.{◌≡◌, Option, Some, None, Result, Ok, Err, Bool, cond, ◌&&◌, List, [], ◌∷◌, ◌++◌, ℕ, ◌+◌, ◌-◌, ◌*◌, ◌^◌, ◌<◌, leb, ltb, eqb, length, replicate, decimal}
use Rattle.std.specs.Fmt.{format_spec, styled_decimal}
use Rattle.io.specs.Digits.{last_digits, IsDigitCount}
use Rattle.figures.specs.declared.numbers.NumberError.{NumberError}
use Rattle.figures.specs.declared.numbers.NumberError.TheVariants.{TooLarge, NoNumber}
use Rattle.script.specs.Line.{every}

abbrev pub digitb : ℕ → Bool
digitb b = leb 48 b && leb b 57

unfoldable pub value_from : ℕ → List ℕ → ℕ
value_from v [] = v
value_from v (x ∷ xs) = value_from (v * 10 + (x - 48)) xs

abbrev pub too_large : ℕ
too_large = 18446744073709551616

abbrev pub longer_by : ℕ → ℕ → Option ℕ
longer_by v d = cond (ltb (v * 10 + d) too_large) (Some (v * 10 + d)) None

abbrev pub fitting : ℕ → Result ℕ NumberError
fitting n = cond (ltb n too_large) (Ok n) (Err TooLarge)

abbrev pub number_said : List ℕ → Result ℕ NumberError
number_said xs = cond (eqb (length xs) 0) (Err NoNumber) (cond (every digitb xs) (fitting (value_from 0 xs)) (Err NoNumber))

abbrev pub RoundTrip : Type 0
RoundTrip = (n k : ℕ) → n < too_large → IsDigitCount 10 1 n k → number_said (last_digits 10 k n) ≡ Ok n

abbrev pub ShownInFewest : Type 0
ShownInFewest = (n : ℕ) → n < too_large → IsDigitCount 10 1 n (length (decimal n)) × (decimal n ≡ last_digits 10 (length (decimal n)) n)

abbrev pub ShownRoundTrip : Type 0
ShownRoundTrip = (n : ℕ) → n < too_large → number_said (decimal n) ≡ Ok n

abbrev pub ShownInColumn : Type 0
ShownInColumn = (n w : ℕ) → styled_decimal (format_spec 32 3 0 w (2 ^ 64 - 1)) n ≡ replicate (w - length (decimal n)) 32 ++ decimal n
