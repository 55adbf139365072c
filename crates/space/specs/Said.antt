-- What a call said and left, in document 01's numbers: the answer's number and values, the state, and every lent word. Each contract is an
-- equation of this with the call's meaning.
--
--   open_said r w .. shorten_said r w   refusal number, state, and the words w of the table as the call returns; an extend and a shorten say it
--                                       alike, as `resize_said`
--   allocate_said r w                   the same with the address answer
--   list_said r v                       refusal number, count, state, and the words v of the list slice
--
-- Assumes nothing.
use Rattle.std.specs.Prelude.{List, ℕ}
use Rattle.refusals.specs.AnswerNumbers.{open_number, allocate_number, address_of, release_number, resize_number, list_number, count_of}
use Rattle.refusals.specs.declared.OpenRefusal.{OpenRefusal}
use Rattle.refusals.specs.declared.AllocateRefusal.{AllocateRefusal}
use Rattle.refusals.specs.declared.ReleaseRefusal.{ReleaseRefusal}
use Rattle.refusals.specs.declared.ResizeRefusal.{ResizeRefusal}
use Rattle.refusals.specs.declared.ListRefusal.{ListRefusal}
use Rattle.space.specs.Listing.{ListOutcome}
use Rattle.space.specs.Outcomes.{Outcome}
use Rattle.space.specs.Placing.{Placed}
use Rattle.space.specs.declared.answers.Answered.{Answered}

abbrev pub open_said : Answered Unit OpenRefusal → List ℕ → Outcome
open_said r w = record { refusal = open_number r.answer; state = r.space; words = w }

abbrev pub allocate_said : Answered ℕ AllocateRefusal → List ℕ → Placed
allocate_said r w =
    record {
      address = address_of r.answer;
      outcome = record { refusal = allocate_number r.answer; state = r.space; words = w };
    }

abbrev pub release_said : Answered Unit ReleaseRefusal → List ℕ → Outcome
release_said r w = record { refusal = release_number r.answer; state = r.space; words = w }

abbrev pub resize_said : Answered Unit ResizeRefusal → List ℕ → Outcome
resize_said r w = record { refusal = resize_number r.answer; state = r.space; words = w }

abbrev pub extend_said : Answered Unit ResizeRefusal → List ℕ → Outcome
extend_said r w = resize_said r w

abbrev pub shorten_said : Answered Unit ResizeRefusal → List ℕ → Outcome
shorten_said r w = resize_said r w

abbrev pub list_said : Answered ℕ ListRefusal → List ℕ → ListOutcome
list_said r v = record { refusal = list_number r.answer; count = count_of r.answer; state = r.space; words = v }
