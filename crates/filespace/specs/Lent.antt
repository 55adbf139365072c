-- What `main` lends, and what a run keeps.
--
--   line_bytes              the bytes of a line: the most that a script may have in one
--   most_entries, table_words the entries of a table, and its words: the most that a script may name
use Rattle.std.specs.Prelude.{ℕ, ◌*◌}
use Rattle.pieces.specs.Words.{entry_words}

abbrev pub line_bytes : ℕ
line_bytes = 100000

abbrev pub most_entries : ℕ
most_entries = 2048

abbrev pub table_words : ℕ
table_words = most_entries * entry_words
