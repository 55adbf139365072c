-- The state and the lent words, and what a call does to them.
--
--   SoundSpace sp w         state and table are sound together
--   soundb sp w             the test of it, as `table` makes it
--   entries_of sp w         the entries of the table
--   lives_of sp w           its live pieces
--   with_end sp e n         the state with another end and count
--   Outcome                 what a call leaves: its refusal number (0 if accepted), the state, and every word of the lent table
--   refused k sp w          refused with k: the state and every word as they came
--   refusing form sp w t k o  refused with k if t holds, and else o; `form` says how an outcome stands in what the call leaves, `plain` as it is
--   state_of sp ps           the state with the end and the count that the live pieces ps determine
--   settled sp w ps         the table and the end that the live pieces ps determine; 6, if the table has too little room for them
--
-- Assumes nothing.
use Rattle.std.specs.Prelude.{Bool, cond, List, ℕ, ltb, length}
use Rattle.pieces.specs.declared.Piece.{Piece}
use Rattle.pieces.specs.Words.{entries, table}
use Rattle.refusals.specs.AnswerNumbers.{table_full}
use Rattle.table.specs.Fill.{lives, fill, end_of}
use Rattle.table.specs.Sound.{capacity, Sound}
use Rattle.table.specs.Local.{localb}
use Rattle.space.specs.declared.Space.{Space}

abbrev pub SoundSpace : Space → List ℕ → Type 0
SoundSpace sp w = Sound sp.page sp.limit sp.end sp.count w

abbrev pub soundb : Space → List ℕ → Bool
soundb sp w = localb sp.page sp.limit sp.end sp.count w

abbrev pub entries_of : Space → List ℕ → List Piece
entries_of sp w = entries w 0 sp.count

abbrev pub lives_of : Space → List ℕ → List Piece
lives_of sp w = lives (entries_of sp w)

abbrev pub with_end : Space → ℕ → ℕ → Space
with_end sp e n = record { page = sp.page; limit = sp.limit; end = e; count = n }

pub record Outcome : Type 0 where
  pub refusal : ℕ
  pub state : Space
  pub words : List ℕ

abbrev pub refused : ℕ → Space → List ℕ → Outcome
refused k sp w = record { refusal = k; state = sp; words = w }

unfoldable pub refusing : {A : Type 0} → (Outcome → A) → Space → List ℕ → Bool → ℕ → A → A
refusing form sp w t k o = cond t (form (refused k sp w)) o

abbrev pub plain : Outcome → Outcome
plain o = o

abbrev pub state_of : Space → List Piece → Space
state_of sp ps = with_end sp (end_of sp.page ps) (length (fill sp.page ps))

unfoldable pub settled : Space → List ℕ → List Piece → Outcome
settled sp w ps =
    refusing plain sp w (ltb (capacity (length w)) (length (fill sp.page ps))) table_full
    (record { refusal = 0; state = state_of sp ps; words = table (length w) (fill sp.page ps) })
