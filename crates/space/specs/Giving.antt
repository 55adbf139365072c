-- Giving back, lengthening, shortening. Each names a live piece by its exact address and size.
--
--   name_of a z                     a piece by its address and size
--   named_in sp w a z              the entry of the named piece, on a sound table, or why there is none
--   when_named sp w found r        the refusal of a name r that has no entry; and else what `found` gives of its entry
--   naming sp w zero a z found     the front of the three calls: 2, state and table are not sound; 4, if `zero` says that a size or change is 0,
--                                  where the call has that refusal; the refusal of the name; and else what `found` gives of its entry
--   released_at sp a z w i x       the piece x, entry i, is released
--   released sp a z w              a release
--   new_size sp a z way m w i x    how many bytes the piece x, entry i, has that is m longer, or m shorter; or why it keeps those it has
--   resized_to sp a z w n          it gets them
--   resized sp a z way m w         an extend or a shorten by m; `extended`, `shortened` each by itself
--
-- The room behind a piece and what remains of it are in room/specs/Room.antt. Assumes nothing.
use Rattle.std.specs.Prelude.{Bool, false, cond, not, ◌||◌, List, ℕ, ◌+◌, ◌-◌, eqb, Result, Ok, Err}
use Rattle.find.specs.Find.{Found, find_in}
use Rattle.pieces.specs.Pieces.{class_of}
use Rattle.pieces.specs.Words.{entries}
use Rattle.pieces.specs.declared.Piece.{Piece}
use Rattle.refusals.specs.AnswerNumbers.{not_sound, zero_asked, not_named_number, not_resized_number}
use Rattle.refusals.specs.declared.NotResized.{NotResized}
use Rattle.refusals.specs.declared.NotResized.TheVariants.{NoRoomBehind, BeyondLimit, TooLittleLeft}
use Rattle.room.specs.Room.{room_behindb, grows_beyondb, remainsb}
use Rattle.rules.specs.Editing.{Name, remove, resize}
use Rattle.space.specs.Outcomes.{soundb, entries_of, lives_of, Outcome, refused, refusing, plain, settled}
use Rattle.space.specs.declared.Space.{Space}
use Rattle.space.specs.declared.give.Way.{Way}
use Rattle.space.specs.declared.give.Way.TheVariants.{Longer, Shorter}

abbrev pub name_of : ℕ → ℕ → Name
name_of a z = record { address = a; size = z }

-- ---- the front

abbrev pub named_in : Space → List ℕ → ℕ → ℕ → Found
named_in sp w a z = find_in a z 0 (entries_of sp w)

unfoldable pub when_named : Space → List ℕ → (ℕ → Piece → Outcome) → Found → Outcome
when_named sp w found (Ok (i, x)) = found i x
when_named sp w found (Err why) = refused (not_named_number why) sp w

unfoldable pub naming : Space → List ℕ → Bool → ℕ → ℕ → (ℕ → Piece → Outcome) → Outcome
naming sp w zero a z found =
    refusing plain sp w (not (soundb sp w)) not_sound
    (refusing plain sp w zero zero_asked
    (when_named sp w found (named_in sp w a z)))

-- ---- release

unfoldable pub released_at : Space → ℕ → ℕ → List ℕ → ℕ → Piece → Outcome
released_at sp a z w i x = settled sp w (remove (name_of a z) (lives_of sp w))

unfoldable pub released : Space → ℕ → ℕ → List ℕ → Outcome
released sp a z w = naming sp w false a z (released_at sp a z w)

-- ---- extend and shorten

-- the entries behind entry i
abbrev pub entries_behind : Space → List ℕ → ℕ → List Piece
entries_behind sp w i = entries w (i + 1) (sp.count - (i + 1))

unfoldable pub new_size : Space → ℕ → ℕ → Way → ℕ → List ℕ → ℕ → Piece → Result ℕ NotResized
new_size sp a z Longer m w i x =
    cond (not (room_behindb sp.page (class_of x.status) (a + z) z m (entries_behind sp w i))) (Err NoRoomBehind)
    (cond (grows_beyondb sp.page sp.limit (a + z) m (entries_behind sp w i)) (Err BeyondLimit)
    (Ok (z + m)))
new_size sp a z Shorter m w i x =
    cond (not (remainsb sp.page (class_of x.status) z m)) (Err TooLittleLeft)
    (Ok (z - m))

unfoldable pub resized_to : Space → ℕ → ℕ → List ℕ → Result ℕ NotResized → Outcome
resized_to sp a z w (Ok n) = settled sp w (resize (name_of a z) n (lives_of sp w))
resized_to sp a z w (Err why) = refused (not_resized_number why) sp w

abbrev pub resized_at : Space → ℕ → ℕ → Way → ℕ → List ℕ → ℕ → Piece → Outcome
resized_at sp a z way m w i x = resized_to sp a z w (new_size sp a z way m w i x)

unfoldable pub resized : Space → ℕ → ℕ → Way → ℕ → List ℕ → Outcome
resized sp a z way m w = naming sp w (eqb z 0 || eqb m 0) a z (resized_at sp a z way m w)

abbrev pub extended : Space → ℕ → ℕ → ℕ → List ℕ → Outcome
extended sp a z m w = resized sp a z Longer m w

abbrev pub shortened : Space → ℕ → ℕ → ℕ → List ℕ → Outcome
shortened sp a z k w = resized sp a z Shorter k w
