-- Text in a lent buffer.
--
--   Laid d at s r e         the text s was laid at a place of the buffer d: it ends at r, and the buffer is e
--   number_bytes            the most digits that a number has
--   NumberLaid d at n r e   so was the number n, in as few decimal digits as hold it
--
--   OneLaid                 a number is laid in one way alone: any two results of NumberLaid are one place and one buffer
--
-- OneLaid is proved in proofs/LaidLaws.antt.
use Rattle.std.specs.Prelude.{◌≡◌, List, ℕ, ◌+◌, ◌≤◌, length}
use Rattle.std.proofs.Math.Seq.{paste}
use Rattle.io.specs.Digits.{last_digits, IsDigitCount}

pub record Laid (d : List ℕ) (at : ℕ) (s : List ℕ) (r : ℕ) (e : List ℕ) : Type 0 where
  pub place : r ≡ at + length s
  pub buffer : e ≡ paste d at s (length s)

abbrev pub number_bytes : ℕ
number_bytes = 20

pub record NumberLaid (d : List ℕ) (at n r : ℕ) (e : List ℕ) : Type 0 where
  pub places : ℕ
  pub fewest : IsDigitCount 10 1 n places
  pub few : r ≤ at + number_bytes
  pub laid : Laid d at (last_digits 10 places n) r e

abbrev pub OneLaid : Type 0
OneLaid = (d : List ℕ) (at n r s : ℕ) (e f : List ℕ) → NumberLaid d at n r e → NumberLaid d at n s f → (r ≡ s) × (e ≡ f)
