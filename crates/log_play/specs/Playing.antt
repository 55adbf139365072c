-- The records of a log, played: each call is made once more, on what the ones before it left (request E6).
--
--   File                what is played on: the state, and the words of the table
--   no_file             before the open
--   words_for C         how many words a table for C entries has; none, where C is not from 4 to 1,024
--   Heard               what is heard of a call that is made once more: refusal number, answer, and what it leaves
--   hear_open r         an open: P in size, M in change, C in address
--   call_of r            the call that any other record is
--   heard r f           the record r, made once more on f
--   agreesb r h         the record says what was heard: the refusal number and the answer
--   Played              how many records agree before the first one that does not, and what they leave
--   played f rs         the records rs on f, up to the first one that does not agree
--
-- A table that is none is refused with 1 by an open, as document 01 says of a table's length; after a refused open the state is four zeros, so that
-- E is 0 and every call is refused with 2 (demands/specs/Demands.antt, `nowhere_refused`). Assumes nothing.
use Rattle.std.specs.Prelude.{Bool, cond, ◌&&◌, List, [], ◌∷◌, ℕ, suc, ◌*◌, eqb, leb, replicate}
use Rattle.call.specs.Answered.{Answered, answered, unanswered}
use Rattle.call.specs.declared.Call.{Call}
use Rattle.call.specs.declared.Call.TheVariants.{Allocate, Release, Extend, Shorten}
use Rattle.log_blocks.specs.Records.{opens, allocates, releases, extends}
use Rattle.log_blocks.specs.declared.records.Record.{Record}
use Rattle.pieces.specs.Words.{entry_words}
use Rattle.space.specs.Opening.{nowhere, opened}
use Rattle.space.specs.declared.Space.{Space}
use Rattle.table.specs.Sound.{least_capacity, largest_capacity}

pub record File : Type 0 where
  pub space : Space
  pub words : List ℕ

abbrev pub no_file : File
no_file = record { space = nowhere; words = [] }

unfoldable pub words_for : ℕ → ℕ
words_for C = cond (leb least_capacity C && leb C largest_capacity) (C * entry_words) 0

pub record Heard : Type 0 where
  pub refusal : ℕ
  pub answer : ℕ
  pub file : File

-- what is heard of an answered call
abbrev pub heard_of : Answered → Heard
heard_of a =
    record {
      refusal = a.outcome.refusal;
      answer = a.answer;
      file = record { space = a.outcome.state; words = a.outcome.words };
    }

abbrev pub hear_open : Record → Heard
hear_open r = heard_of (unanswered (opened r.size r.change (replicate (words_for r.address) 0)))

unfoldable pub call_of : Record → Call
call_of r =
    cond (eqb r.operation allocates) (Allocate r.code r.size)
    (cond (eqb r.operation releases) (Release r.address r.size)
    (cond (eqb r.operation extends) (Extend r.address r.size r.change) (Shorten r.address r.size r.change)))

unfoldable pub heard : Record → File → Heard
heard r f = cond (eqb r.operation opens) (hear_open r) (heard_of (answered (call_of r) f.space f.words))

unfoldable pub agreesb : Record → Heard → Bool
agreesb r h = eqb r.refusal h.refusal && eqb r.answer h.answer

pub record Played : Type 0 where
  pub agreed : ℕ
  pub file : File

abbrev pub one_more : Played → Played
one_more p = record { agreed = suc p.agreed; file = p.file }

unfoldable pub played : File → List Record → Played
played f [] = record { agreed = 0; file = f }
played f (r ∷ rs) =
    let h = heard r f in
    cond (agreesb r h) (one_more (played h.file rs)) (record { agreed = 0; file = h.file })
