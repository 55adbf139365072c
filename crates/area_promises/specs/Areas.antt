-- What request E5 says of the calls over an area of bytes. Statements alone: each is proved in proofs/Areas.antt, and is a field of the one record
-- that is signed (signed/specs/Signed.antt).
--
--   AreaBytes       an area's length is 32 + 24C with C from 4 to 1,024; its bytes, read and written again, are the same, and the other way round
--   AreaCalls       each exported call is the call of document 01 on the state and the words that the bytes are
--   AreaRefused     a refused call leaves every byte of the area and of the result; 10, then 1 or 2 for another length, come first
--   AreaDone        an accepted call leaves the bytes of the state and the table that the call leaves; the address goes to the first 8 bytes of the
--                   result, and no later byte changes
--   AreaRuns        so every run of calls over an area answers as over state and table, and its bytes are then those of what the run leaves
--   AreaAnyOrder    releases in any order are all accepted, and end with the same bytes
--   OneArea         each call's promise allows one result: the answer and the bytes
--
-- The words that they use:
--
--   wrong_length c  how a call c refuses bytes that are no area
--   called_in c b   what the call c leaves in the area b
--   RanIn, ran_in cs b    what the calls cs leave, one after the other: the refusal number of each, and the bytes after the last
use Rattle.std.specs.Prelude.{ℕ, ◌≤◌, ◌<◌, ◌≡◌, length, take, drop, replicate}
use mathlib.Core.List.{List, [], ◌∷◌, Memᴰ, Permᴰ}
use Rattle.area_bytes.specs.Area.{AreaLength, state_in, words_in, AreaLengths, AreaRead, AreaWritten}
use Rattle.area_calls.specs.Calls.{Left, LeftBoth, area_said, both_said, in_area, opened_in, allocated_in, released_in, extended_in, shortened_in}
use Rattle.demands.specs.Calls.{Call, opens, allocates, releases, extends, shortens, called, OnSpace, ran, releases_of}
use Rattle.demands.specs.Demands.{Releasable}
use Rattle.little.specs.Little.{word_bytes, bytes_of, Bytes}
use Rattle.refusals.specs.AnswerNumbers.{out_of_range, not_sound, slice_too_short}
use Rattle.rules.specs.Editing.{Name}
use Rattle.space.specs.Placing.{allocated}

-- ---- the calls

abbrev pub wrong_length : Call → ℕ
wrong_length (opens P M) = out_of_range
wrong_length (allocates t s) = not_sound
wrong_length (releases a z) = not_sound
wrong_length (extends a z m) = not_sound
wrong_length (shortens a z k) = not_sound

abbrev pub called_in : Call → List ℕ → Left
called_in c b = in_area (wrong_length c) b (called c (state_in b) (words_in b))

pub record RanIn : Type 0 where
  pub refusals : List ℕ
  pub area : List ℕ

unfoldable pub ran_in : List Call → List ℕ → RanIn
ran_in [] b = record { refusals = []; area = b }
ran_in (c ∷ cs) b =
    let l = called_in c b in
    let r = ran_in cs l.area in
    record { refusals = l.refusal ∷ r.refusals; area = r.area }

-- ---- the statements

pub record AreaBytes : Type 0 where
  pub lengths : AreaLengths
  pub read : AreaRead
  pub written : AreaWritten

pub record AreaCalls : Type 0 where
  pub opening : (P M : ℕ) (b : List ℕ) → opened_in P M b ≡ called_in (opens P M) b
  pub releasing : (a z : ℕ) (b : List ℕ) → released_in a z b ≡ called_in (releases a z) b
  pub extending : (a z m : ℕ) (b : List ℕ) → extended_in a z m b ≡ called_in (extends a z m) b
  pub shortening : (a z k : ℕ) (b : List ℕ) → shortened_in a z k b ≡ called_in (shortens a z k) b
  pub allocating : (t s : ℕ) (b r : List ℕ) → word_bytes ≤ length r → (allocated_in t s b r).left ≡ called_in (allocates t s) b

pub record AreaRefused : Type 0 where
  pub calls : (c : Call) (b : List ℕ) → ((called_in c b).refusal ≡ 0 → ⊥) → (called_in c b).area ≡ b
  pub other_length : (c : Call) (b : List ℕ) → (AreaLength (length b) → ⊥) → called_in c b ≡ area_said (wrong_length c) b
  pub short_result : (t s : ℕ) (b r : List ℕ) → length r < word_bytes → allocated_in t s b r ≡ both_said slice_too_short b r
  pub result : (t s : ℕ) (b r : List ℕ) → ((allocated_in t s b r).left.refusal ≡ 0 → ⊥) → (allocated_in t s b r).result ≡ r

pub record AreaDone : Type 0 where
  pub number : (c : Call) (b : List ℕ) → AreaLength (length b) → (called_in c b).refusal ≡ (called c (state_in b) (words_in b)).refusal
  pub state : (c : Call) (b : List ℕ) → (called_in c b).refusal ≡ 0 → state_in (called_in c b).area ≡ (called c (state_in b) (words_in b)).state
  pub words : (c : Call) (b : List ℕ) → (called_in c b).refusal ≡ 0 → words_in (called_in c b).area ≡ (called c (state_in b) (words_in b)).words
  pub same_length : (c : Call) (b : List ℕ) → length (called_in c b).area ≡ length b
  -- the result
  pub address : (t s : ℕ) (b r : List ℕ) → (allocated_in t s b r).left.refusal ≡ 0
      → take word_bytes (allocated_in t s b r).result ≡ bytes_of word_bytes (allocated (state_in b) t s (words_in b)).address
  pub later : (t s : ℕ) (b r : List ℕ) → drop word_bytes (allocated_in t s b r).result ≡ drop word_bytes r

-- the bytes and the numbers of a run cs over the area b are those of the run over the state and the words in it
pub record RunsAlike (cs : List Call) (b : List ℕ) : Type 0 where
  pub refusals : (ran_in cs b).refusals ≡ (ran cs (state_in b) (words_in b)).refusals
  pub state : state_in (ran_in cs b).area ≡ (ran cs (state_in b) (words_in b)).state
  pub words : words_in (ran_in cs b).area ≡ (ran cs (state_in b) (words_in b)).words

abbrev pub AreaRuns : Type 0
AreaRuns = (cs : List Call) (b : List ℕ) → ((c : Call) → Memᴰ c cs → OnSpace c) → AreaLength (length b) → RunsAlike cs b

pub record AreaAnyOrder : Type 0 where
  pub accepted : (b : List ℕ) (ns ms : List Name) → AreaLength (length b) → Releasable (state_in b) (words_in b) ns → Permᴰ ns ms
      → (ran_in (releases_of ms) b).refusals ≡ replicate (length ms) 0
  pub same_bytes : (b : List ℕ) (ns ms : List Name) → Bytes b → AreaLength (length b) → Releasable (state_in b) (words_in b) ns → Permᴰ ns ms
      → (ran_in (releases_of ns) b).area ≡ (ran_in (releases_of ms) b).area

-- each contract of `area` says `..Said k b ≡ meaning`: there is one such answer, and one such list of bytes
pub record OneArea : Type 0 where
  pub calls : (o : Left) (k k' : ℕ) (b b' : List ℕ) → area_said k b ≡ o → area_said k' b' ≡ o → (k ≡ k') × (b ≡ b')
  pub allocating : (o : LeftBoth) (k k' : ℕ) (b b' r r' : List ℕ) → both_said k b r ≡ o → both_said k' b' r' ≡ o
      → (k ≡ k') × ((b ≡ b') × (r ≡ r'))
