-- Page borders, for any page size P: no power of two is assumed.
--
--   least_page, largest_page  the least and the largest page size
--   PageSize P               P lies between them; page_sizeb P is the test
--   Border P a               a is a multiple of P; borderb P a is the test
--   down P a                 the last multiple of P not above a
--   up P a                   the first multiple of P not below a
--   left P a                 the bytes from a to the first multiple of P above it
--   up_from P a               the bytes from a to the first multiple of P not below it
--
-- The same once more, by what they are and not by how they are computed, and the statement that both agree:
--
--   LastBorder, FirstBorder  b is the last border not above a, the first border not below a
--   Borders                  down, up, left and up_from are these, and nothing else is
--
-- Assumes nothing. `Borders` is proved in proofs/PageLaws.antt, with the laws that all other proofs use.
use Rattle.std.specs.Prelude.{◌≡◌, Bool, ◌&&◌, ℕ, ◌+◌, ◌-◌, ◌*◌, ◌/◌, ◌%◌, ◌≤◌, ◌<◌, leb, eqb}

abbrev pub least_page : ℕ
least_page = 512

abbrev pub largest_page : ℕ
largest_page = 1073741824

pub record PageSize (P : ℕ) : Type 0 where
  pub least : least_page ≤ P
  pub largest : P ≤ largest_page

abbrev pub page_sizeb : ℕ → Bool
page_sizeb P = leb least_page P && leb P largest_page

pub record Border (P a : ℕ) : Type 0 where
  pub none_over : a % P ≡ 0

abbrev pub borderb : ℕ → ℕ → Bool
borderb P a = eqb (a % P) 0

unfoldable pub down : ℕ → ℕ → ℕ
down P a = a / P * P

unfoldable pub up : ℕ → ℕ → ℕ
up P a = (a + (P - 1)) / P * P

unfoldable pub left : ℕ → ℕ → ℕ
left P a = P - a % P

unfoldable pub up_from : ℕ → ℕ → ℕ
up_from P a = up P a - a

-- ---- the second description

pub record LastBorder (P a b : ℕ) : Type 0 where
  pub border : Border P b
  pub not_above : b ≤ a
  pub last : (c : ℕ) → Border P c → c ≤ a → c ≤ b

pub record FirstBorder (P a b : ℕ) : Type 0 where
  pub border : Border P b
  pub not_below : a ≤ b
  pub first : (c : ℕ) → Border P c → a ≤ c → b ≤ c

pub record BordersAt (P a : ℕ) : Type 0 where
  pub down_is : LastBorder P a (down P a)
  pub down_only : (b : ℕ) → LastBorder P a b → b ≡ down P a
  pub up_is : FirstBorder P a (up P a)
  pub up_only : (b : ℕ) → FirstBorder P a b → b ≡ up P a
  pub left_is : FirstBorder P (a + 1) (a + left P a)
  pub up_from_is : a + up_from P a ≡ up P a

abbrev pub Borders : Type 0
Borders = (P a : ℕ) → 0 < P → BordersAt P a
