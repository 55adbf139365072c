-- Listing one manager's free sections.
--
--   ListOutcome           what a listing leaves: its refusal number, the count, the state, and every word of the lent list slice; `uncounted` what
--                         a refused one leaves
--   listed_as sp v xs     the sections xs, written into the words v
--   listed sp m w v       a listing into the words v; the table w is not written
--
-- The codes of the managers are in requests/specs/Requests.antt, `sections` and `pairs` in sections/specs/Sections.antt. Assumes nothing.
use Rattle.std.specs.Prelude.{not, List, ◌++◌, ℕ, ◌*◌, ltb, length, drop}
use Rattle.pieces.specs.declared.Piece.{Piece}
use Rattle.refusals.specs.AnswerNumbers.{not_sound, unknown_code, slice_too_short}
use Rattle.requests.specs.Requests.{managerb, class_of_manager}
use Rattle.sections.specs.Sections.{sections, pair_words, pairs}
use Rattle.space.specs.Outcomes.{soundb, entries_of, Outcome, refusing}
use Rattle.space.specs.declared.Space.{Space}

pub record ListOutcome : Type 0 where
  pub refusal : ℕ
  pub count : ℕ
  pub state : Space
  pub words : List ℕ

-- a refused call counts nothing
abbrev pub uncounted : Outcome → ListOutcome
uncounted o = record { refusal = o.refusal; count = 0; state = o.state; words = o.words }

-- the sections xs, written into the words v
unfoldable pub listed_as : Space → List ℕ → List Piece → ListOutcome
listed_as sp v xs =
    refusing uncounted sp v (ltb (length v) (length xs * pair_words)) slice_too_short
    (record { refusal = 0; count = length xs; state = sp; words = pairs xs ++ drop (length xs * pair_words) v })

unfoldable pub listed : Space → ℕ → List ℕ → List ℕ → ListOutcome
listed sp m w v =
    refusing uncounted sp v (not (soundb sp w)) not_sound
    (refusing uncounted sp v (not (managerb m)) unknown_code (listed_as sp v (sections (class_of_manager m) (entries_of sp w))))
