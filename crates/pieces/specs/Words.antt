-- The lent words: so many to an entry, then zeros.
--
--   entry_words          the words of an entry: address, size, kind
--   kind_at w i           the word of w that says entry i's kind
--   words_at w i         the three words of w that say entry i
--   piece_of u           the piece that three words say
--   entry_at w i          entry i of the words w
--   entries w i k        k entries of w, from entry i on
--   words_of w i j       the words of w that say the entries from i up to j
--   count_in w           how many entries the words w fill; entries_in w, these entries
--   words es             the words of the entries es
--   table len es         the table of len words that holds the entries es: their words, then zeros
--   laid w i es          the words w with the entries es in place of those from entry i on
--   Zeros w n            every word of w after the first n entries is 0
--   EndsFit w n          the first n entries of w end where a number of 64 bits can say it, as in every sound table
--
-- What is proved of them (proofs/WordLaws.antt):
--
--   EntriesOfTable       what is laid into a table is read out of it
--   TableOfEntries       a slice with n entries of known kinds, and zeros behind them, is the table of what is read out of it
--
-- Assumes nothing.
use Rattle.std.specs.Prelude.{◌≡◌, List, [], ◌∷◌, ◌++◌, ℕ, zero, suc, ◌+◌, ◌-◌, ◌*◌, ◌/◌, ◌^◌, ◌≤◌, ◌<◌, length, get_or, take, drop, replicate}
use Rattle.pieces.specs.declared.Piece.{Piece}
use Rattle.pieces.specs.declared.Words.{Words}
use Rattle.pieces.specs.Pieces.{piece, behind, kind_of, Kind, status_of}

abbrev pub entry_words : ℕ
entry_words = 3

abbrev size_word : ℕ
size_word = 1

abbrev kind_word : ℕ
kind_word = 2

abbrev pub kind_at : List ℕ → ℕ → ℕ
kind_at w i = get_or w (i * entry_words + kind_word) 0

abbrev pub words_at : List ℕ → ℕ → Words
words_at w i = record { address = get_or w (i * entry_words) 0; size = get_or w (i * entry_words + size_word) 0; kind = kind_at w i }

abbrev pub piece_of : Words → Piece
piece_of u = piece u.address u.size (status_of u.kind)

unfoldable pub entry_at : List ℕ → ℕ → Piece
entry_at w i = piece_of (words_at w i)

unfoldable pub entries : List ℕ → ℕ → ℕ → List Piece
entries w i zero = []
entries w i (suc k) = entry_at w i ∷ entries w (suc i) k

abbrev pub words_of : List ℕ → ℕ → ℕ → List ℕ
words_of w i j = take ((j - i) * entry_words) (drop (i * entry_words) w)

abbrev pub count_in : List ℕ → ℕ
count_in w = length w / entry_words

abbrev pub entries_in : List ℕ → List Piece
entries_in w = entries w 0 (count_in w)

unfoldable pub words : List Piece → List ℕ
words [] = []
words (x ∷ es) = x.address ∷ x.size ∷ kind_of x.status ∷ words es

unfoldable pub table : ℕ → List Piece → List ℕ
table len es = words es ++ replicate (len - length es * entry_words) 0

unfoldable pub laid : List ℕ → ℕ → List Piece → List ℕ
laid w i es = take (i * entry_words) w ++ (words es ++ drop ((i + length es) * entry_words) w)

abbrev pub Zeros : List ℕ → ℕ → Type 0
Zeros w n = (i : ℕ) → n * entry_words ≤ i → i < length w → get_or w i 0 ≡ 0

abbrev pub EndsFit : List ℕ → ℕ → Type 0
EndsFit w n = (i : ℕ) → i < n → behind (entry_at w i) < 2 ^ 64

-- ---- what is proved

abbrev pub EntriesOfTable : Type 0
EntriesOfTable = (len : ℕ) (es : List Piece) → entries (table len es) 0 (length es) ≡ es

abbrev pub TableOfEntries : Type 0
TableOfEntries =
    (w : List ℕ) (n : ℕ) → n * entry_words ≤ length w → ((i : ℕ) → i < n → Kind (kind_at w i)) → Zeros w n
    → table (length w) (entries w 0 n) ≡ w
