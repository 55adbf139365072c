-- Opening: P, M and the lent table. The table's old words are not looked at.
--
--   nowhere               four zeros, the state of a refused opening
--   opened P M w          what an opening leaves. P, M and the table's length lie in the ranges of a sound state with E and n 0
--   default_page, default_limit  P and M of the default opening; P is request E7's
--
-- Assumes nothing.
use Rattle.std.specs.Prelude.{cond, List, ℕ, length, replicate}
use Rattle.refusals.specs.AnswerNumbers.{out_of_range}
use Rattle.table.specs.Sound.{largest_limit}
use Rattle.table.specs.Local.{rangesb}
use Rattle.space.specs.Outcomes.{Outcome}
use Rattle.space.specs.declared.Space.{Space}

abbrev pub default_page : ℕ
default_page = 65536

abbrev pub default_limit : ℕ
default_limit = largest_limit

abbrev pub nowhere : Space
nowhere = record { page = 0; limit = 0; end = 0; count = 0 }

unfoldable pub opened : ℕ → ℕ → List ℕ → Outcome
opened P M w =
    cond (rangesb P M 0 0 (length w))
    (record { refusal = 0; state = record { page = P; limit = M; end = 0; count = 0 }; words = replicate (length w) 0 })
    (record { refusal = out_of_range; state = nowhere; words = w })
