-- The laws of records that are played.
--
--   words_few, words_many, words_some   the words of a table for so many entries
--   heard_open, heard_call_lem          what is heard of an open, and of any other record
--   front_long                          words that were put in front of others, as many as stood there
--   call_heard                          what is heard of a call over a lent table
--   plus i p                            what is played behind i records that agree
--   play_stops, play_next, play_ends    records that are played: one that does not agree, one that does, none left
use Prim.Native.Nat.{ℕ, suc, ◌+◌, ◌*◌, ◌≤◌, ◌<◌}
use mathlib.Core.Bool.{Bool, true, false}
use mathlib.Core.List.{List, ◌∷◌, ◌++◌}
use mathlib.Core.Path.{◌≡◌, refl, ap, ◌∙◌}
use native.Mathlib.Omega.{arith}
use lib.Dec.{leb}
use lib.ListN.{length, take, drop, length-append, length-drop}
use lib.Seq.{take_at}
use Rattle.call.specs.Answered.{answered, answer_said}
use Rattle.call.specs.declared.Call.{Call}
use Rattle.call.specs.declared.Told as call
use Rattle.log_blocks.proofs.RecordLaws.{records_left, records_next, records_end}
use Rattle.log_blocks.specs.Blocks.{records_at}
use Rattle.log_blocks.specs.Records.{record_bytes, opens, record_in}
use Rattle.log_blocks.specs.declared.records.Record.{Record}
use Rattle.log_play.specs.Lent.{file_in, heard_in}
use Rattle.log_play.specs.declared.Held.{Held}
use Rattle.log_play.specs.Playing.{File, words_for, Heard, heard_of, hear_open, call_of, heard, agreesb, Played, played}
use Rattle.pages.proofs.Numbers.{and-false, passes, fails}
use Rattle.pieces.specs.Words.{entry_words}
use Rattle.table.specs.Sound.{least_capacity, largest_capacity}
use borrow.Author.Tests.{eq-eqb, ne_eqb, le-leb, lt-leb}

-- ---- the table

pub words_few : (C : ℕ) → C < least_capacity → 0 ≡ words_for C
unfolding words_for
words_few C h = rw (lt-leb least_capacity C h) refl

pub words_many : (C : ℕ) → largest_capacity < C → 0 ≡ words_for C
unfolding words_for
words_many C h = rw (lt-leb C largest_capacity h, and-false (leb least_capacity C) refl) refl

pub words_some : (C : ℕ) → least_capacity ≤ C → C ≤ largest_capacity → C * entry_words ≡ words_for C
unfolding words_for
words_some C h k = rw (le-leb least_capacity C h, le-leb C largest_capacity k) refl

-- ---- the call

pub heard_open : (r : Record) (f : File) → r.operation ≡ opens → hear_open r ≡ heard r f
unfolding heard
heard_open r f o = rw (eq-eqb r.operation opens o) refl

pub heard_call_lem : (r : Record) (f : File) → (r.operation ≡ opens → ⊥) → heard_of (answered (call_of r) f.space f.words) ≡ heard r f
unfolding heard
heard_call_lem r f o = rw (ne_eqb r.operation opens o) refl

-- ---- over a lent table: its first words are the file's, and w are the words behind them

pub front_long : (v w : List ℕ) (n : ℕ) → n ≤ length w → length (v ++ drop n w) ≡ length w → length v ≡ n
front_long v w n h e = omega (arith, h, e, length-append v (drop n w), length-drop n w)

pub call_heard : (said : Record) (h : Held) (u : List ℕ) (t : call.Told) (v w : List ℕ) {c : Call} → (said.operation ≡ opens → ⊥) → c ≡ call_of said
    → length v ≡ h.used → answer_said t v ≡ answered c h.space (take h.used u)
    → heard_in (record { number = t.number; answer = t.answer; file = record { space = t.space; used = h.used } }) (v ++ w)
    ≡ heard said (file_in h u)
call_heard said h u t v w o e l a =
    rw (take_at v w h.used l) (ap heard_of (rw e at a)) ∙ heard_call_lem said (file_in h u) o

-- ---- records that are played

abbrev pub plus : ℕ → Played → Played
plus i p = record { agreed = i + p.agreed; file = p.file }

-- i records agree, and the file is f then
abbrev pub stopped : ℕ → File → Played
stopped i f = record { agreed = i; file = f }

stopped_plus : (i : ℕ) (f : File) → stopped i f ≡ plus i (stopped 0 f)
stopped_plus i f = let e : i + 0 ≡ i = omega arith in rw e refl

-- the record i of the block b on the file f: r is what it says, h what is heard, and t whether they agree
module _ (n i : ℕ) (b : List ℕ) (f : File) (r : Record) (within : i < n) (is : r ≡ record_in (take record_bytes (drop (records_at + i * record_bytes) b)))
    {h : Heard} (hears : h ≡ heard r f) {t : Bool} (compares : t ≡ agreesb r h) where
  first : records_left n i b ≡ r ∷ records_left n (i + 1) b
  first = rw is (records_next n i b within)

  pub play_stops : t ≡ false → stopped i h.file ≡ plus i (played f (records_left n i b))
  unfolding played
  play_stops differs =
      let e = rw hears at (fails compares differs) in
      rw (first, e, hears) (stopped_plus i (heard r f).file)

  pub play_next : t ≡ true → plus (i + 1) (played h.file (records_left n (i + 1) b)) ≡ plus i (played f (records_left n i b))
  unfolding played
  play_next agree =
      let e = rw hears at (passes compares agree) in
      let p = played (heard r f).file (records_left n (i + 1) b) in
      let m : i + 1 + p.agreed ≡ i + suc p.agreed = omega arith in
      rw (first, e, hears, m) refl

pub play_ends : (n i : ℕ) (b : List ℕ) (f : File) → n ≤ i → i ≤ n → stopped n f ≡ plus i (played f (records_left n i b))
unfolding played
play_ends n i b f h k =
    let e : n ≡ i = omega arith in
    rw (records_end n i b h, e) (stopped_plus i f)
