-- Bytes as hexadecimal text.
--
--   no_nibble          the value of what is no hexadecimal digit
--   nibble_of b        the value of the digit b, small or capital
--   nibbleb b          b is a hexadecimal digit
--   nibble_said b      the value of b, if it is a hexadecimal digit
--   hexb xs            the text xs says bytes: digits, and an even count of them
--   bytes_said xs      the bytes, the higher digit of each first
--   glyph_of v         the digit of a value below 16, in small letters: as `io::hex` prints it
--
-- Laws are in proofs/HexLaws.antt.
use Rattle.std.specs.Prelude.{Option, Some, None, Bool, false, cond, not, List, [], ◌∷◌, ℕ, ◌+◌, ◌-◌, ◌*◌, ◌%◌, leb, ltb, eqb, length}
use Rattle.script.specs.Line.{every}

abbrev pub no_nibble : ℕ
no_nibble = 16

unfoldable pub nibble_of : ℕ → ℕ
nibble_of b =
    cond (ltb b 48) no_nibble
    (cond (leb b 57) (b - 48)
    (cond (ltb b 65) no_nibble
    (cond (leb b 70) (b - 65 + 10)
    (cond (ltb b 97) no_nibble
    (cond (leb b 102) (b - 97 + 10)
    no_nibble)))))

abbrev pub nibbleb : ℕ → Bool
nibbleb b = not (eqb (nibble_of b) no_nibble)

abbrev pub nibble_said : ℕ → Option ℕ
nibble_said b = cond (nibbleb b) (Some (nibble_of b)) None

abbrev pub hexb : List ℕ → Bool
hexb xs = cond (eqb (length xs % 2) 0) (every nibbleb xs) false

unfoldable pub bytes_said : List ℕ → List ℕ
bytes_said [] = []
bytes_said (a ∷ []) = []
bytes_said (a ∷ b ∷ xs) = (nibble_of a * 16 + nibble_of b) ∷ bytes_said xs

abbrev pub glyph_of : ℕ → ℕ
glyph_of v = cond (ltb v 10) (48 + v) (97 + (v - 10))
