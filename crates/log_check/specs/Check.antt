-- The check of a block of a log: two sums over its bytes (request E6).
--
--   block_bytes       the bytes of a block
--   short_bytes       the bytes of a word of 16 bits
--   check_at          where the check stands: a in 16 bits, then b
--   shorts            how many words of 16 bits stand before it
--   sum_values        both sums are modulo this
--   shorts_in b       these words
--   sums_from s ws    the sums after the words ws, from the sums s: a with each word, b with each of a's successive values
--   sums_of ws        the same from 0
--   checkb b          the block b holds the sums of its words
--
-- What is proved of them (proofs/CheckLaws.antt):
--
--   total ws          the sum of the numbers ws
--   successive a ws   the successive values of a sum that starts with a, after each of the numbers ws
--   LogSums           a is the sum of the words, b the sum of the sum's successive values, each modulo 65,535; and no block whose check is right
--                     holds 65,535 in it
--
-- Assumes nothing.
use Rattle.std.specs.Prelude.{Bool, true, ◌&&◌, List, [], ◌∷◌, ◌≡◌, ℕ, ◌+◌, ◌%◌, ◌/◌, ◌<◌, eqb}
use Rattle.little.specs.Little.{numbers, value_at}
use Rattle.log_check.specs.declared.Sums.{Sums}

abbrev pub block_bytes : ℕ
block_bytes = 512

abbrev pub short_bytes : ℕ
short_bytes = 2

abbrev pub check_at : ℕ
check_at = 508

abbrev pub second_at : ℕ
second_at = check_at + short_bytes

abbrev pub shorts : ℕ
shorts = check_at / short_bytes

abbrev pub sum_values : ℕ
sum_values = 65535

abbrev pub shorts_in : List ℕ → List ℕ
shorts_in b = numbers short_bytes shorts b

unfoldable pub sums_from : Sums → List ℕ → Sums
sums_from s [] = s
sums_from s (w ∷ ws) = let a = (s.a + w) % sum_values in sums_from (record { a = a; b = (s.b + a) % sum_values }) ws

abbrev pub sums_of : List ℕ → Sums
sums_of ws = sums_from (record { a = 0; b = 0 }) ws

unfoldable pub checkb : List ℕ → Bool
checkb b =
    let s = sums_of (shorts_in b) in
    eqb (value_at check_at second_at b) s.a && eqb (value_at second_at block_bytes b) s.b

-- ---- what is proved

unfoldable pub total : List ℕ → ℕ
total [] = 0
total (w ∷ ws) = w + total ws

unfoldable pub successive : ℕ → List ℕ → List ℕ
successive a [] = []
successive a (w ∷ ws) = (a + w) ∷ successive (a + w) ws

pub record LogSums : Type 0 where
  pub first : (ws : List ℕ) → (sums_of ws).a ≡ total ws % sum_values
  pub second : (ws : List ℕ) → (sums_of ws).b ≡ total (successive 0 ws) % sum_values
  -- a stored 65,535 is in no block whose check is right
  pub first_below : (b : List ℕ) → checkb b ≡ true → value_at check_at second_at b < sum_values
  pub second_below : (b : List ℕ) → checkb b ≡ true → value_at second_at block_bytes b < sum_values
