-- A call on a file that was opened, as one thing that is asked of its area: an allocation, a release, or an extend or a shorten (request E5).
--
--   meant q sp w      what q means on the state sp and the words w: what it leaves, and the address, which only an allocation has
--   left_in q b       what q leaves in the area b
--   address_in q b    the address that it is told; bytes that are no area give none
--   unaddressed f r   the decision r of a call that has no address, with the number of its refusal by f
--   Leads sp w o r    the decision r leads to o
--   ToldIn q b y c    y is what q is told of the area b, which is c then
use Rattle.std.specs.Prelude.{cond, List, ◌≡◌, ℕ, length, Result, Ok, Err}
use Rattle.area_bytes.specs.Area.{area_lengthb, state_in, words_in}
use Rattle.area_calls.specs.Calls.{Left, area_said, in_area}
use Rattle.area_calls.specs.declared.Asked.{Asked}
use Rattle.area_calls.specs.declared.Asked.TheVariants.{Allocate, Release, Resize}
use Rattle.area_calls.specs.declared.Told.{Told}
use Rattle.change.specs.declared.plan.Plan.{Plan}
use Rattle.refusals.specs.AnswerNumbers.{not_sound, no_address}
use Rattle.space.specs.Giving.{released, resized}
use Rattle.space.specs.Halves.{Carries, Refuses}
use Rattle.space.specs.Placing.{Placed, unplaced, allocated}
use Rattle.space.specs.declared.Space.{Space}

abbrev pub meant : Asked → Space → List ℕ → Placed
meant (Allocate t s) sp w = allocated sp t s w
meant (Release a z) sp w = unplaced (released sp a z w)
meant (Resize a z way m) sp w = unplaced (resized sp a z way m w)

abbrev pub left_in : Asked → List ℕ → Left
left_in q b = in_area not_sound b (meant q (state_in b) (words_in b)).outcome

abbrev pub address_in : Asked → List ℕ → ℕ
address_in q b = cond (area_lengthb (length b)) (meant q (state_in b) (words_in b)).address no_address

-- a decision with its refusal's number, and the address of a call that has none
abbrev pub unaddressed : {E : Type 0} → (E → ℕ) → Result Plan E → Result (ℕ × Plan) ℕ
unaddressed number (Ok plan) = Ok (no_address, plan)
unaddressed number (Err refusal) = Err (number refusal)

abbrev pub Leads : Space → List ℕ → Placed → Result (ℕ × Plan) ℕ → Type 0
Leads sp w o (Ok (a, plan)) = (a ≡ o.address) × Carries sp w o.outcome plan
Leads sp w o (Err k) = (no_address ≡ o.address) × Refuses sp w o.outcome k

pub record ToldIn (q : Asked) (b : List ℕ) (y : Told) (c : List ℕ) : Type 0 where
  pub left : area_said y.number c ≡ left_in q b
  pub address : y.address ≡ address_in q b
