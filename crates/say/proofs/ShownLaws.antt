-- What std writes of a byte in two hexadecimal digits is what specs/Shown.antt says; one byte more of those that are printed.
use Prim.Native.Nat.{ℕ, ◌+◌, ◌-◌, ◌^◌, ◌<◌, ◌/◌, ◌%◌}
use mathlib.Core.Bool.{false}
use mathlib.Core.List.{List, [], ◌++◌}
use mathlib.Core.Path.{◌≡◌, refl}
use native.Mathlib.Decide.{dec_le}
use native.Mathlib.Nat.{lt_of_not-le}
use native.Mathlib.Omega.{arith}
use lib.ListN.{length, get_or, take}
use borrow.Author.Tests.{lt-ltb, le-ltb}
use Rattle.std.proofs.Common.{Some}
use Rattle.std.proofs.lemmas.Fmt.{hex_byte}
use Rattle.std.proofs.lemmas.List.{take_more, flat_map_more}
use Rattle.std.specs.Fmt.{digit_glyph, digits, digits_output, format_spec, styled_digits_output}
use Rattle.figures.specs.Hex.{glyph_of}
use Rattle.say.specs.Shown.{byte_shown, bytes_shown}

glyph_shown : (v : ℕ) → v < 16 → digit_glyph false v ≡ glyph_of v
glyph_shown v h =
    elim (dec_le 10 v) [
      | yes l ↦ rw (le-ltb v 10 l) (omega arith)
      | no g ↦ rw (lt-ltb v 10 (lt_of_not-le g)) refl
    ]

-- what `{:02x}` writes of a byte: d is the number in hexadecimal, and s the options
pub byte_in_two : (d : _) (s : _) (b : ℕ) → b < 256 → digits_output d ≡ Some (digits 16 false b) → s ≡ format_spec 32 0 4 2 (2 ^ 64 - 1)
    → styled_digits_output d s ≡ Some (byte_shown b)
byte_in_two d s b h e f = rw (f, e, hex_byte false b h, glyph_shown (b / 16) (omega arith), glyph_shown (b % 16) (omega arith)) refl

-- one byte more of those that are printed
pub bytes_next : (bs : List ℕ) (i : ℕ) → i < length bs → bytes_shown (take i bs) ++ byte_shown (get_or bs i 0) ≡ bytes_shown (take (i + 1) bs)
bytes_next bs i h = rw (take_more bs i 0 h) (flat_map_more byte_shown [] (take i bs) (get_or bs i 0))
