-- What the customer signs on of the calls on a space. Statements alone: each is proved in proofs/, under its name in small letters, and is a field
-- of the one record that is signed (signed/specs/Signed.antt).
--
--   Refusals        demand 1: each call is accepted, or refused with a number of its row, the state as given and every word as it came
--   Keeps           demand 2: after every call state and table are sound together, with P and M unchanged
--   Edits           an accepted call inserts, removes or resizes one live piece, and no other changes
--   NewBytes        a new piece, and what an extend adds, lies in bytes that were in no live piece
--   Placing         the place is the smallest fitting section, the lowest of equals, else the end; there is one such place
--   OneOfFive       of an address and a size exactly one of five is so in a sound table: they name a live piece, or one of 13 to 16
--   Exactly         each refusal is given exactly when the table of numbered refusals says, in its order
--   Listings        an accepted listing writes the free sections of the manager, all of them and no other, in address order
--   Runs            from an accepted opening on every run of calls keeps state and table sound
--   AnyOrder        demand 3: releases in any order are all accepted, and end with the state and the words that the pieces left determine
--   TwoOrders       the same said of two orders side by side, as crane and server see it
--   TheRun          the run with P = 512, M = 5,120, C = 12: twelve steps, their answers and ends, and the words
--   OneResult       each call's promise allows one result: answer, state and lent words
--
-- The words that they use, in their order; those of the calls are in Calls.antt, of the rows in Rows.antt, of the run in Run.antt:
--
--   Answered ks sp w o      o is accepted, or refused with one of the numbers ks, with the state sp and the words w
--   list_outcome o          the outcome of a listing, by number, state and words
--   Covers sp w             the entries of w cover the file with no gap and no overlap
--   KeptSound sp w next v   next and v are sound together and cover the file, with P, M and the slice's length of sp and w
--   Accepted c sp w         the call c is accepted of a sound table
--   NotLive sp w a b        the bytes from a up to b are in no live piece
--   OneCase sp w a z        exactly one of the five cases is so of a and z
--   ListedAll sp m w v      a listing wrote address and size of each free section of the manager, in address order, and returns their count
--   Releasable sp w ns      state and table are sound together, and ns are distinct live pieces by their true address and size
--   accepted_all sp w k ps  k calls are accepted, and leave the state and every word that the live pieces ps determine
--   RunOver w               the run, over a table of the words w
--   Unique said o           one result, and one list of words, say o
--
-- Assumes nothing.
use Rattle.std.specs.Prelude.{ℕ, ◌+◌, ◌≤◌, ◌<◌, ◌≡◌, length, replicate}
use mathlib.Core.List.{List, Memᴰ, Permᴰ}
use Rattle.accepted.specs.Places.{PlaceIs}
use Rattle.demands.specs.Calls.{Call, allocates, extends, lives_after, edited, Unnamed, called, refusals_of, list_refusals, handed_back, OnSpace}
use Rattle.demands.specs.Calls.{Ran, ran, releases_of, remove_all, IsLive, Distinct}
use Rattle.demands.specs.Rows.{NameCase, IsSo, Row, ListRow}
use Rattle.demands.specs.Run.{five_steps, twelve_steps, exchanged_steps, left_after_five, left_after_twelve, begun, played_over, ran_over}
use Rattle.pieces.specs.Words.{entry_at, table}
use Rattle.pieces.specs.declared.Class.{Class}
use Rattle.pieces.specs.declared.Piece.{Piece}
use Rattle.refusals.specs.AnswerNumbers.{not_sound, no_address}
use Rattle.requests.specs.Requests.{class_for, class_of_manager}
use Rattle.rules.specs.Editing.{Name}
use Rattle.sections.specs.Order.{SectionsOf}
use Rattle.sections.specs.Sections.{list_words}
use Rattle.space.specs.Giving.{released, extended, shortened}
use Rattle.space.specs.Listing.{ListOutcome, listed}
use Rattle.space.specs.Opening.{nowhere, opened, default_page, default_limit}
use Rattle.space.specs.Outcomes.{SoundSpace, entries_of, lives_of, Outcome, state_of}
use Rattle.space.specs.Placing.{allocated}
use Rattle.space.specs.Said.{open_said, allocate_said, release_said, extend_said, shorten_said, list_said}
use Rattle.space.specs.declared.Space.{Space}
use Rattle.table.specs.Fill.{fill}
use Rattle.table.specs.Theorems.{Holds, OneEntry}

-- ---- demand 1

-- accepted, or refused with one of the numbers ks, with the state sp and the words w
pub data Answered (ks : List ℕ) (sp : Space) (w : List ℕ) (o : Outcome) : Type 0 where
  accepted : o.refusal ≡ 0 → Answered ks sp w o
  refused : Memᴰ o.refusal ks → o.state ≡ sp → o.words ≡ w → Answered ks sp w o

-- the outcome of a listing: its words are those of the lent list slice, since it does not write the table
abbrev pub list_outcome : ListOutcome → Outcome
list_outcome o = record { refusal = o.refusal; state = o.state; words = o.words }

pub record Refusals : Type 0 where
  pub calls : (c : Call) (sp : Space) (w : List ℕ) → Answered (refusals_of c) (handed_back c sp) w (called c sp w)
  -- an address answer is then 2^64 - 1
  pub address : (sp : Space) (t s : ℕ) (w : List ℕ) → ((allocated sp t s w).outcome.refusal ≡ 0 → ⊥) → (allocated sp t s w).address ≡ no_address
  pub listing : (sp : Space) (m : ℕ) (w v : List ℕ) → Answered list_refusals sp v (list_outcome (listed sp m w v))
  -- a count answer is then 0; and a listing, refused or not, changes no state
  pub count : (sp : Space) (m : ℕ) (w v : List ℕ) → ((listed sp m w v).refusal ≡ 0 → ⊥) → (listed sp m w v).count ≡ 0
  pub same_state : (sp : Space) (m : ℕ) (w v : List ℕ) → (listed sp m w v).state ≡ sp
  -- the state of a refused opening is refused with 2 by every call that takes a state
  pub nowhere_refused : (c : Call) (w : List ℕ) → OnSpace c → (called c nowhere w).refusal ≡ not_sound
  pub nowhere_listed : (m : ℕ) (w v : List ℕ) → (listed nowhere m w v).refusal ≡ not_sound

-- ---- demand 2

-- live and free entries cover the file with no gap and no overlap: each byte below E lies in exactly one entry, and none beyond
pub record Covers (sp : Space) (w : List ℕ) : Type 0 where
  pub once : (v : ℕ) → v < sp.end → OneEntry w sp.count v
  pub none_beyond : (i v : ℕ) → i < sp.count → Holds (entry_at w i) v → v < sp.end

-- next and v are sound together, hence E <= M and n <= C; P, M and the slice's length are those of sp and w
pub record KeptSound (sp : Space) (w : List ℕ) (next : Space) (v : List ℕ) : Type 0 where
  pub sound : SoundSpace next v
  pub covers : Covers next v
  pub page : next.page ≡ sp.page
  pub limit : next.limit ≡ sp.limit
  pub slice : length v ≡ length w

pub record Keeps : Type 0 where
  pub opening : (P M : ℕ) (w : List ℕ) → (opened P M w).refusal ≡ 0
      → KeptSound (record { page = P; limit = M; end = 0; count = 0 }) w (opened P M w).state (opened P M w).words
  pub calls : (c : Call) (sp : Space) (w : List ℕ) → OnSpace c → SoundSpace sp w → KeptSound sp w (called c sp w).state (called c sp w).words

-- c is accepted of a sound table
pub record Accepted (c : Call) (sp : Space) (w : List ℕ) : Type 0 where
  pub on_space : OnSpace c
  pub sound : SoundSpace sp w
  pub done : (called c sp w).refusal ≡ 0

pub record Edits : Type 0 where
  pub live_pieces : (c : Call) (sp : Space) (w : List ℕ) → Accepted c sp w → lives_after c sp w ≡ edited c sp w
  pub others : (c : Call) (sp : Space) (w : List ℕ) → Accepted c sp w → (x : Piece) → Memᴰ x (lives_of sp w) → Unnamed c x
      → Memᴰ x (lives_after c sp w)

-- the bytes from a up to b are in no live piece
abbrev pub NotLive : Space → List ℕ → ℕ → ℕ → Type 0
NotLive sp w a b = (v : ℕ) → a ≤ v → v < b → (x : Piece) → Memᴰ x (lives_of sp w) → Holds x v → ⊥

pub record NewBytes : Type 0 where
  pub allocating : (sp : Space) (t s : ℕ) (w : List ℕ) → Accepted (allocates t s) sp w
      → NotLive sp w (allocated sp t s w).address ((allocated sp t s w).address + s)
  pub extending : (sp : Space) (a z m : ℕ) (w : List ℕ) → Accepted (extends a z m) sp w → NotLive sp w (a + z) (a + z + m)

pub record Placing : Type 0 where
  pub place : (sp : Space) (t s : ℕ) (w : List ℕ) → Accepted (allocates t s) sp w
      → PlaceIs sp.page sp.end (class_for sp.page t s) s (entries_of sp w) (allocated sp t s w).address
  pub one : (sp : Space) (w : List ℕ) → SoundSpace sp w → (k : Class) (s b d : ℕ) → PlaceIs sp.page sp.end k s (entries_of sp w) b
      → PlaceIs sp.page sp.end k s (entries_of sp w) d → b ≡ d

pub record OneCase (sp : Space) (w : List ℕ) (a z : ℕ) : Type 0 where
  pub case : NameCase
  pub so : IsSo sp w a z case
  pub alone : (other : NameCase) → IsSo sp w a z other → other ≡ case

abbrev pub OneOfFive : Type 0
OneOfFive = (sp : Space) (w : List ℕ) → SoundSpace sp w → (a z : ℕ) → OneCase sp w a z

pub record Exactly : Type 0 where
  pub calls : (c : Call) (sp : Space) (w : List ℕ) → Row c sp w (called c sp w).refusal
  pub listing : (sp : Space) (m : ℕ) (w v : List ℕ) → ListRow sp m w v (listed sp m w v).refusal
  -- and a row allows one number
  pub one : (c : Call) (sp : Space) (w : List ℕ) (r r' : ℕ) → Row c sp w r → Row c sp w r' → r ≡ r'
  pub one_listing : (sp : Space) (m : ℕ) (w v : List ℕ) (r r' : ℕ) → ListRow sp m w v r → ListRow sp m w v r' → r ≡ r'

-- the words of the lent list slice: the pairs of the sections, and behind them as they came
pub record ListedAll (sp : Space) (m : ℕ) (w v : List ℕ) : Type 0 where
  pub sections : List Piece
  pub are : SectionsOf (class_of_manager m) (entries_of sp w) sections
  pub count : (listed sp m w v).count ≡ length sections
  pub words : (listed sp m w v).words ≡ list_words v sections

abbrev pub Listings : Type 0
Listings = (sp : Space) (m : ℕ) (w v : List ℕ) → (listed sp m w v).refusal ≡ 0 → ListedAll sp m w v

abbrev pub Runs : Type 0
Runs =
    (P M : ℕ) (w : List ℕ) (cs : List Call) → (opened P M w).refusal ≡ 0 → ((c : Call) → Memᴰ c cs → OnSpace c)
    → KeptSound (opened P M w).state w (ran cs (opened P M w).state (opened P M w).words).state
    (ran cs (opened P M w).state (opened P M w).words).words

-- ---- demand 3

-- state and table are sound together, and ns are distinct live pieces by their true address and size
pub record Releasable (sp : Space) (w : List ℕ) (ns : List Name) : Type 0 where
  pub sound : SoundSpace sp w
  pub distinct : Distinct ns
  pub live : (n : Name) → Memᴰ n ns → IsLive (entries_of sp w) n

-- all calls accepted, and the state and every word that the live pieces ps determine
abbrev pub accepted_all : Space → List ℕ → ℕ → List Piece → Ran
accepted_all sp w calls ps =
    record { refusals = replicate calls 0; state = state_of sp ps; words = table (length w) (fill sp.page ps) }

abbrev pub AnyOrder : Type 0
AnyOrder =
    (sp : Space) (w : List ℕ) (ns ms : List Name) → Releasable sp w ns → Permᴰ ns ms
    → ran (releases_of ms) sp w ≡ accepted_all sp w (length ms) (remove_all ns (lives_of sp w))

abbrev pub TwoOrders : Type 0
TwoOrders =
    (sp : Space) (w : List ℕ) (ns ms : List Name) → Releasable sp w ns → Permᴰ ns ms
    → ran (releases_of ns) sp w ≡ ran (releases_of ms) sp w

-- ---- the run with P = 512, M = 5,120, C = 12

pub record RunOver (w : List ℕ) : Type 0 where
  pub opening : (begun w).refusal ≡ 0
  -- the calls of the twelve steps, played, give the twelve steps: each answer, and E after each
  pub twelve : played_over w twelve_steps ≡ twelve_steps
  pub after_five : ran_over w five_steps ≡ left_after_five
  pub after_twelve : ran_over w twelve_steps ≡ left_after_twelve
  -- steps 11 and 12 exchanged end there too, by way of E = 2,560
  pub exchanged : played_over w exchanged_steps ≡ exchanged_steps
  pub exchanged_ends : ran_over w exchanged_steps ≡ left_after_twelve

-- whatever the 36 words of the table were before
abbrev pub TheRun : Type 0
TheRun = (w : List ℕ) → length w ≡ 36 → RunOver w

-- ---- uniqueness

-- two results that say the same o, in document 01's numbers, are one, and so are the lent words
abbrev pub Unique : {R O : Type 0} → (R → List ℕ → O) → O → Type 0
Unique {R} said o = (r r' : R) (v v' : List ℕ) → said r v ≡ o → said r' v' ≡ o → (r ≡ r') × (v ≡ v')

-- each contract of `space` says `..Said r v ≡ meaning`: there is one such r, and one such v
pub record OneResult : Type 0 where
  pub opening : (P M : ℕ) (w : List ℕ) → Unique open_said (opened P M w)
  pub default_opening : (w : List ℕ) → Unique open_said (opened default_page default_limit w)
  pub allocating : (sp : Space) (t s : ℕ) (w : List ℕ) → Unique allocate_said (allocated sp t s w)
  pub releasing : (sp : Space) (a z : ℕ) (w : List ℕ) → Unique release_said (released sp a z w)
  pub extending : (sp : Space) (a z m : ℕ) (w : List ℕ) → Unique extend_said (extended sp a z m w)
  pub shortening : (sp : Space) (a z k : ℕ) (w : List ℕ) → Unique shorten_said (shortened sp a z k w)
  pub listing : (sp : Space) (m : ℕ) (w v : List ℕ) → Unique list_said (listed sp m w v)
