-- Numbers in bytes, the lowest byte first, for any width and at any place.
--
--   byte_values       how many values a byte has
--   word_bytes         how many bytes a word has, a number of 64 bits
--   little bs         the number that the bytes bs are
--   bytes_of w v       the lowest w bytes of the number v
--   numbers w n bs    the first n numbers of w bytes each in bs
--   bytes_of_all w vs  the numbers vs in w bytes each, one behind the other
--   part from to b    the bytes b from one place up to another
--   value_at from to b the number that they are
--   laid from to q b  b with q in the place of those bytes
--   Bytes bs          bs are bytes: each is below byte_values
--   Below w vs        each of the numbers vs has at most w bytes
--
-- Assumes nothing. Laws are in proofs/LittleLaws.antt: `little` and `bytes_of`, `numbers` and `bytes_of_all` undo each other.
use Rattle.std.specs.Prelude.{ℕ, zero, suc, ◌+◌, ◌-◌, ◌*◌, ◌/◌, ◌%◌, ◌^◌, ◌<◌, List, [], ◌∷◌, ◌++◌, take, drop, get_or}

abbrev pub byte_values : ℕ
byte_values = 256

abbrev pub word_bytes : ℕ
word_bytes = 8

unfoldable pub little : List ℕ → ℕ
little [] = 0
little (b ∷ bs) = b + byte_values * little bs

unfoldable pub bytes_of : ℕ → ℕ → List ℕ
bytes_of zero v = []
bytes_of (suc w) v = v % byte_values ∷ bytes_of w (v / byte_values)

unfoldable pub numbers : ℕ → ℕ → List ℕ → List ℕ
numbers w zero bs = []
numbers w (suc n) bs = little (take w bs) ∷ numbers w n (drop w bs)

unfoldable pub bytes_of_all : ℕ → List ℕ → List ℕ
bytes_of_all w [] = []
bytes_of_all w (v ∷ vs) = bytes_of w v ++ bytes_of_all w vs

abbrev pub part : ℕ → ℕ → List ℕ → List ℕ
part from to b = take (to - from) (drop from b)

abbrev pub value_at : ℕ → ℕ → List ℕ → ℕ
value_at from to b = little (part from to b)

abbrev pub laid : ℕ → ℕ → List ℕ → List ℕ → List ℕ
laid from to q b = take from b ++ (q ++ drop to b)

abbrev pub Bytes : List ℕ → Type 0
Bytes bs = (i : ℕ) → get_or bs i 0 < byte_values

abbrev pub Below : ℕ → List ℕ → Type 0
Below w vs = (i : ℕ) → get_or vs i 0 < byte_values ^ w
