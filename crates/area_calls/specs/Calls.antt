-- What the calls over an area of bytes mean: each is the call of `space` on the state and the words that the bytes are (request E5).
--
--   Left                  what a call leaves: its refusal number, and every byte of the area
--   LeftBoth              what an allocation leaves: these, and every byte of the result
--   left_by o             the bytes of the state and the words that the outcome o leaves
--   in_area k b o          what o leaves in the area b: its bytes; of a refusal the bytes as they came. Where b has not the length of an area, the
--                         refusal k
--   opened_in P M b, released_in a z b, extended_in a z m b, shortened_in a z k b  an opening, a release, an extend, a shorten
--   allocated_in t s b r  an allocation: 10 before anything else, where the result r has fewer than 8 bytes; the address goes to the first 8
--
--   area_said k b, both_said k b r  what a call answered and left
--   Lent b w              b has the length of an area, and w is a table for its words
--   Holds b sp w          b is the area of the state sp and the words w
use Rattle.std.specs.Prelude.{true, cond, List, ◌≡◌, ℕ, ltb, eqb, length}
use Rattle.area_bytes.specs.Area.{area_lengthb, state_in, words_in, area_of, AreaFits}
use Rattle.little.specs.Little.{word_bytes, bytes_of, laid}
use Rattle.refusals.specs.AnswerNumbers.{out_of_range, not_sound, slice_too_short}
use Rattle.space.specs.Giving.{released, extended, shortened}
use Rattle.space.specs.Opening.{opened}
use Rattle.space.specs.Outcomes.{Outcome}
use Rattle.space.specs.Placing.{allocated}
use Rattle.space.specs.declared.Space.{Space}

pub record Left : Type 0 where
  pub refusal : ℕ
  pub area : List ℕ

pub record LeftBoth : Type 0 where
  pub left : Left
  pub result : List ℕ

abbrev pub area_said : ℕ → List ℕ → Left
area_said k b = record { refusal = k; area = b }

abbrev pub both_said : ℕ → List ℕ → List ℕ → LeftBoth
both_said k b r = record { left = area_said k b; result = r }

-- ---- what an outcome leaves

abbrev pub left_by : Outcome → List ℕ
left_by o = area_of o.state o.words

unfoldable pub in_area : ℕ → List ℕ → Outcome → Left
in_area k b o = cond (area_lengthb (length b)) (area_said o.refusal (cond (eqb o.refusal 0) (left_by o) b)) (area_said k b)

-- ---- the calls

abbrev pub opened_in : ℕ → ℕ → List ℕ → Left
opened_in P M b = in_area out_of_range b (opened P M (words_in b))

abbrev pub released_in : ℕ → ℕ → List ℕ → Left
released_in a z b = in_area not_sound b (released (state_in b) a z (words_in b))

abbrev pub extended_in : ℕ → ℕ → ℕ → List ℕ → Left
extended_in a z m b = in_area not_sound b (extended (state_in b) a z m (words_in b))

abbrev pub shortened_in : ℕ → ℕ → ℕ → List ℕ → Left
shortened_in a z k b = in_area not_sound b (shortened (state_in b) a z k (words_in b))

-- the address a in the result r, of a call that left l
abbrev pub with_address : ℕ → List ℕ → Left → LeftBoth
with_address a r l = record { left = l; result = cond (eqb l.refusal 0) (laid 0 word_bytes (bytes_of word_bytes a) r) r }

unfoldable pub allocated_in : ℕ → ℕ → List ℕ → List ℕ → LeftBoth
allocated_in t s b r =
    let placed = allocated (state_in b) t s (words_in b) in
    cond (ltb (length r) word_bytes) (both_said slice_too_short b r) (with_address placed.address r (in_area not_sound b placed.outcome))

-- ---- what the parts of a call ask

pub record Lent (b w : List ℕ) : Type 0 where
  pub area : area_lengthb (length b) ≡ true
  pub fits : AreaFits b w

abbrev pub Holds : List ℕ → Space → List ℕ → Type 0
Holds b sp w = b ≡ area_of sp w
