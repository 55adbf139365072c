-- The area of a C host: P, M, E and n, then the words of the table, each a word of eight bytes, the lowest byte first (request E5).
--
--   page_at .. count_at   where P, M, E and n start
--   table_at               where the table starts; the bytes before it are the head
--   entry_bytes           the bytes of an entry of the table
--   area_length C         the length of an area for C entries: 32 + 24C
--   AreaLength len        the rule of an area's length: C is from 4 to 1,024
--   area_lengthb len      the test of it
--   table_words len       how many words the table has, in an area of len bytes
--
--   state_in b, words_in b  the state and the table's words that the bytes b are
--   head_of sp             the bytes of the state sp
--   area_of sp w          the bytes of the state sp and the words w
--   Words sp w            every number of sp and w has at most eight bytes, as every number in memory
--   AreaFits b w          the words w are as many as an area of the length of b has for its table
--
-- What is proved of them (proofs/AreaLaws.antt):
--
--   AreaLengths           the test is the rule
--   AreaRead              what is read out of an area, written again, is that area
--   AreaWritten           what is written into an area is read out of it
use Rattle.std.specs.Prelude.{Bool, true, ◌&&◌, List, [], ◌∷◌, ◌++◌, ◌≡◌, ℕ, ◌+◌, ◌-◌, ◌*◌, ◌/◌, ◌%◌, ◌≤◌, leb, eqb, length, drop}
use Rattle.little.specs.Little.{word_bytes, value_at, numbers, bytes_of_all, Bytes, Below}
use Rattle.pieces.specs.Words.{entry_words}
use Rattle.space.specs.declared.Space.{Space}
use Rattle.table.specs.Local.{table_lengthb}
use Rattle.table.specs.Sound.{least_capacity, largest_capacity}

-- ---- the layout

abbrev pub page_at : ℕ
page_at = 0

abbrev pub limit_at : ℕ
limit_at = page_at + word_bytes

abbrev pub end_at : ℕ
end_at = limit_at + word_bytes

abbrev pub count_at : ℕ
count_at = end_at + word_bytes

abbrev pub table_at : ℕ
table_at = count_at + word_bytes

abbrev pub entry_bytes : ℕ
entry_bytes = entry_words * word_bytes

abbrev pub area_length : ℕ → ℕ
area_length C = table_at + C * entry_bytes

pub record AreaLength (len : ℕ) : Type 0 where
  pub capacity : ℕ
  pub is : len ≡ area_length capacity
  pub least : least_capacity ≤ capacity
  pub largest : capacity ≤ largest_capacity

abbrev pub table_words : ℕ → ℕ
table_words len = (len - table_at) / word_bytes

unfoldable pub area_lengthb : ℕ → Bool
area_lengthb len = leb table_at len && (eqb ((len - table_at) % word_bytes) 0 && table_lengthb (table_words len))

-- ---- bytes read

abbrev pub state_in : List ℕ → Space
state_in b =
    record {
      page = value_at page_at limit_at b;
      limit = value_at limit_at end_at b;
      end = value_at end_at count_at b;
      count = value_at count_at table_at b;
    }

abbrev pub words_in : List ℕ → List ℕ
words_in b = numbers word_bytes (table_words (length b)) (drop table_at b)

-- ---- bytes written

abbrev pub state_words : Space → List ℕ
state_words sp = sp.page ∷ sp.limit ∷ sp.end ∷ sp.count ∷ []

abbrev pub head_of : Space → List ℕ
head_of sp = bytes_of_all word_bytes (state_words sp)

abbrev pub area_of : Space → List ℕ → List ℕ
area_of sp w = head_of sp ++ bytes_of_all word_bytes w

abbrev pub Words : Space → List ℕ → Type 0
Words sp w = Below word_bytes (state_words sp) × Below word_bytes w

abbrev pub AreaFits : List ℕ → List ℕ → Type 0
AreaFits b w = length b ≡ table_at + length w * word_bytes

-- ---- what is proved

abbrev pub AreaLengths : Type 0
AreaLengths = (len : ℕ) → (AreaLength len → area_lengthb len ≡ true) × (area_lengthb len ≡ true → AreaLength len)

abbrev pub AreaRead : Type 0
AreaRead = (b : List ℕ) → Bytes b → area_lengthb (length b) ≡ true → area_of (state_in b) (words_in b) ≡ b

abbrev pub AreaWritten : Type 0
AreaWritten = (sp : Space) (w : List ℕ) → Words sp w → (state_in (area_of sp w) ≡ sp) × (words_in (area_of sp w) ≡ w)
