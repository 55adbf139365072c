-- A call on an open file as one value, and what is recorded of it.
--
--   Answered              what a call leaves, and its answer
--   unanswered o          the outcome o, of a call whose answer is 0
--   answered c sp w       what the call c leaves on the state sp and the words w. The answer is an allocation's address answer, and else 0
--   answer_said r w       what a call answered and left, in document 01's numbers
--
-- Assumes nothing.
use Rattle.std.specs.Prelude.{List, ℕ}
use Rattle.call.specs.declared.Call.{Call}
use Rattle.call.specs.declared.Call.TheVariants.{Allocate, Release, Extend, Shorten}
use Rattle.call.specs.declared.Told.{Told}
use Rattle.space.specs.Giving.{released, extended, shortened}
use Rattle.space.specs.Outcomes.{Outcome}
use Rattle.space.specs.Placing.{Placed, allocated}
use Rattle.space.specs.declared.Space.{Space}

pub record Answered : Type 0 where
  pub outcome : Outcome
  pub answer : ℕ

abbrev pub unanswered : Outcome → Answered
unanswered o = record { outcome = o; answer = 0 }

abbrev pub addressed : Placed → Answered
addressed p = record { outcome = p.outcome; answer = p.address }

unfoldable pub answered : Call → Space → List ℕ → Answered
answered (Allocate t s) sp w = addressed (allocated sp t s w)
answered (Release a z) sp w = unanswered (released sp a z w)
answered (Extend a z m) sp w = unanswered (extended sp a z m w)
answered (Shorten a z k) sp w = unanswered (shortened sp a z k w)

abbrev pub answer_said : Told → List ℕ → Answered
answer_said r w = record { outcome = record { refusal = r.number; state = r.space; words = w }; answer = r.answer }
