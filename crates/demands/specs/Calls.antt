-- The calls, and runs of them: what each leaves is the meaning that its contract in `space` cites, on the state and on every lent word.
--
--   Call                 a call with its arguments, but for the state and the lent table
--   called c sp w        what it leaves: refusal number, state, every word of the table
--   refusals_of c        the numbers with which it may be refused, in their order; list_refusals those of a listing
--   handed_back c sp     the state that it hands back if it is refused: the given one, but of an opening four zeros
--   OnSpace c            it takes a state: it is not an opening
--   Ran                  what a run of calls leaves: the refusal number of each, and state and words after the last
--   ran cs sp w          the calls cs in their order, each with the state and the words that the one before it left
--   releases_of ns       the run that releases each piece named
--   remove_all ns ps     the live pieces ps without those named
--
--   lives_after c sp w   those that the call c leaves
--   edited c sp w        those that it is to leave if it is accepted: the new piece inserted, the named one removed or resized
--   Unnamed c x          x is not the piece that c names
--   IsLive es n          a live entry of es has this address and size
--   Distinct ns          no name stands twice in ns
--
-- `SoundSpace` and `lives_of`, state and table sound together and the live pieces of a table, are in space/specs/Outcomes.antt. Assumes nothing.
use Rattle.std.specs.Prelude.{ℕ, ◌+◌, ◌-◌, ◌≡◌}
use mathlib.Core.List.{List, [], ◌∷◌, Memᴰ}
use Rattle.find.specs.Find.{Named}
use Rattle.pieces.specs.Pieces.{piece}
use Rattle.pieces.specs.declared.Piece.{Piece}
use Rattle.pieces.specs.declared.Status.TheVariants.{Live}
use Rattle.refusals.specs.AnswerNumbers.{out_of_range, not_sound, unknown_code, zero_asked, beyond_limit, table_full}
use Rattle.refusals.specs.AnswerNumbers.{beyond_end, in_free, inside_live, other_size, no_room_behind, too_little_left, slice_too_short}
use Rattle.requests.specs.Requests.{class_for}
use Rattle.rules.specs.Editing.{Name, insert, remove, resize}
use Rattle.space.specs.Giving.{name_of, released, extended, shortened}
use Rattle.space.specs.Opening.{nowhere, opened}
use Rattle.space.specs.Outcomes.{lives_of, Outcome}
use Rattle.space.specs.Placing.{allocated}
use Rattle.space.specs.declared.Space.{Space}

-- ---- the calls

pub data Call : Type 0 where
  -- page size, limit
  opens : ℕ → ℕ → Call
  -- type, size
  allocates : ℕ → ℕ → Call
  -- address, size
  releases : ℕ → ℕ → Call
  -- address, size, change
  extends : ℕ → ℕ → ℕ → Call
  shortens : ℕ → ℕ → ℕ → Call

unfoldable pub called : Call → Space → List ℕ → Outcome
called (opens P M) sp w = opened P M w
called (allocates t s) sp w = (allocated sp t s w).outcome
called (releases a z) sp w = released sp a z w
called (extends a z m) sp w = extended sp a z m w
called (shortens a z k) sp w = shortened sp a z k w

-- ---- refusals

abbrev pub refusals_of : Call → List ℕ
refusals_of (opens P M) = out_of_range ∷ []
refusals_of (allocates t s) = not_sound ∷ unknown_code ∷ zero_asked ∷ beyond_limit ∷ table_full ∷ []
refusals_of (releases a z) = not_sound ∷ beyond_end ∷ in_free ∷ inside_live ∷ other_size ∷ table_full ∷ []
refusals_of (extends a z m) =
    not_sound ∷ zero_asked ∷ beyond_end ∷ in_free ∷ inside_live ∷ other_size ∷ no_room_behind ∷ beyond_limit ∷ table_full ∷ []
refusals_of (shortens a z k) = not_sound ∷ zero_asked ∷ beyond_end ∷ in_free ∷ inside_live ∷ other_size ∷ too_little_left ∷ table_full ∷ []

abbrev pub list_refusals : List ℕ
list_refusals = not_sound ∷ unknown_code ∷ slice_too_short ∷ []

abbrev pub handed_back : Call → Space → Space
handed_back (opens P M) sp = nowhere
handed_back (allocates t s) sp = sp
handed_back (releases a z) sp = sp
handed_back (extends a z m) sp = sp
handed_back (shortens a z k) sp = sp

pub data OnSpace : Call → Type 0 where
  allocating : {t s : ℕ} → OnSpace (allocates t s)
  releasing : {a z : ℕ} → OnSpace (releases a z)
  extending : {a z m : ℕ} → OnSpace (extends a z m)
  shortening : {a z k : ℕ} → OnSpace (shortens a z k)

-- ---- runs

pub record Ran : Type 0 where
  pub refusals : List ℕ
  pub state : Space
  pub words : List ℕ

unfoldable pub ran : List Call → Space → List ℕ → Ran
ran [] sp w = record { refusals = []; state = sp; words = w }
ran (c ∷ cs) sp w =
    let o = called c sp w in
    let r = ran cs o.state o.words in
    record { refusals = o.refusal ∷ r.refusals; state = r.state; words = r.words }

unfoldable pub releases_of : List Name → List Call
releases_of [] = []
releases_of (n ∷ ns) = releases n.address n.size ∷ releases_of ns

unfoldable pub remove_all : List Name → List Piece → List Piece
remove_all [] ps = ps
remove_all (n ∷ ns) ps = remove_all ns (remove n ps)

-- ---- the live pieces

abbrev pub lives_after : Call → Space → List ℕ → List Piece
lives_after c sp w = lives_of (called c sp w).state (called c sp w).words

abbrev pub edited : Call → Space → List ℕ → List Piece
edited (opens P M) sp w = []
edited (allocates t s) sp w = insert (piece (allocated sp t s w).address s (Live (class_for sp.page t s))) (lives_of sp w)
edited (releases a z) sp w = remove (name_of a z) (lives_of sp w)
edited (extends a z m) sp w = resize (name_of a z) (z + m) (lives_of sp w)
edited (shortens a z k) sp w = resize (name_of a z) (z - k) (lives_of sp w)

abbrev Other : ℕ → ℕ → Piece → Type 0
Other a z x = x.address ≡ a → x.size ≡ z → ⊥

abbrev pub Unnamed : Call → Piece → Type 0
Unnamed (opens P M) x = ⊥
Unnamed (allocates t s) x = Unit
Unnamed (releases a z) x = Other a z x
Unnamed (extends a z m) x = Other a z x
Unnamed (shortens a z k) x = Other a z x

-- ---- what is asked of state, table and names

pub record IsLive (es : List Piece) (n : Name) : Type 0 where
  pub entry : Piece
  pub among : Memᴰ entry es
  pub named : Named n.address n.size entry

pub data Distinct : List Name → Type 0 where
  distinct_none : Distinct []
  distinct_more : {n : Name} {ns : List Name} → (Memᴰ n ns → ⊥) → Distinct ns → Distinct (n ∷ ns)
