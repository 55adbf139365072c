-- Choosing a place: a request names metadata (1) or raw (2) and a size s.
--
--   beyondb sp s q          the place q is at the end, and the fewest whole pages that hold s there would pass the limit
--   Placed                  what an allocation leaves, and its address answer; `unplaced` that of a refused one
--   placed sp k s w q       s bytes of class k go to the place q
--   allocated sp t s w      an allocation
--
-- The codes and the class of a request are in requests/specs/Requests.antt; the place itself is `place_for` (choose/specs/Place.antt).
-- Assumes nothing.
use Rattle.std.specs.Prelude.{Bool, cond, not, ◌&&◌, List, ℕ, eqb}
use Rattle.choose.specs.Place.{place_for, at_endb, place_address}
use Rattle.choose.specs.declared.place.Place.{Place}
use Rattle.pieces.specs.Pieces.{piece}
use Rattle.pieces.specs.declared.Class.{Class}
use Rattle.pieces.specs.declared.Status.TheVariants.{Live}
use Rattle.refusals.specs.AnswerNumbers.{not_sound, unknown_code, zero_asked, beyond_limit, no_address}
use Rattle.requests.specs.Requests.{typeb, class_for}
use Rattle.room.specs.Room.{passesb}
use Rattle.rules.specs.Editing.{insert}
use Rattle.space.specs.Outcomes.{soundb, entries_of, lives_of, Outcome, refusing, settled}
use Rattle.space.specs.declared.Space.{Space}

abbrev pub beyondb : Space → ℕ → Place → Bool
beyondb sp s q = at_endb q && passesb sp.page sp.limit sp.end s

pub record Placed : Type 0 where
  pub address : ℕ
  pub outcome : Outcome

-- a refused call has no address
abbrev pub unplaced : Outcome → Placed
unplaced o = record { address = no_address; outcome = o }

-- an accepted call answers its place
unfoldable pub placed_at : ℕ → Outcome → Placed
placed_at b o = record { address = cond (eqb o.refusal 0) b no_address; outcome = o }

-- s bytes of class k go to the place q
unfoldable pub placed : Space → Class → ℕ → List ℕ → Place → Placed
placed sp k s w q =
    refusing unplaced sp w (beyondb sp s q) beyond_limit
    (placed_at (place_address sp.end q)
    (settled sp w (insert (piece (place_address sp.end q) s (Live k)) (lives_of sp w))))

unfoldable pub allocated : Space → ℕ → ℕ → List ℕ → Placed
allocated sp t s w =
    let k = class_for sp.page t s in
    refusing unplaced sp w (not (soundb sp w)) not_sound
    (refusing unplaced sp w (not (typeb t)) unknown_code
    (refusing unplaced sp w (eqb s 0) zero_asked
    (placed sp k s w (place_for sp.page k s (entries_of sp w)))))
