-- What `Display` writes of words and of bytes.
--
--   word_shown w        a blank, and the decimal digits of the word w as std's `Display` writes them
--   words_shown ws      the words of a list, one behind the other
--   byte_shown b        the two hexadecimal digits of the byte b, the higher one first, in small letters
--   bytes_shown bs      the bytes of a list, one behind the other
--
-- That these digits of a word say it is `ShownRoundTrip`, figures/specs/Decimal.antt.
use Rattle.std.specs.Prelude.{List, [], ◌∷◌, ℕ, ◌/◌, ◌%◌, flat_map, decimal}
use Rattle.figures.specs.Hex.{glyph_of}

abbrev pub word_shown : ℕ → List ℕ
word_shown w = 32 ∷ decimal w

abbrev pub words_shown : List ℕ → List ℕ
words_shown ws = flat_map word_shown ws

abbrev pub byte_shown : ℕ → List ℕ
byte_shown b = glyph_of (b / 16) ∷ glyph_of (b % 16) ∷ []

abbrev pub bytes_shown : List ℕ → List ℕ
bytes_shown bs = flat_map byte_shown bs
