-- How an accepted change ends: a plan with room for its entries, and what carrying it out leaves.
--
--   if_room w plan         the plan, if the words w have room for its entries; or none, as the table is full
--   carried_out n w plan   the words w, of n entries, with the plan carried out
--   SettleFits P E n i j w what a plan asks: the n entries of w are those of a sound table, and i up to j a part of them
--   CarryFits n w plan     what carrying out asks: the plan is one for a sound table of n entries, and the table has room
--   Settles P n w ps plan  the plan is one for the live pieces ps, and the table has room for them
--
-- Assumes nothing. That the plans are for the new live pieces, and that carrying out leaves their table, is said in proofs/SettleLaws.antt.
use Rattle.std.specs.Prelude.{◌≡◌, cond, List, ℕ, ◌+◌, ◌-◌, ◌≤◌, ltb, length, Option, Some, None}
use Rattle.change.specs.Change.{Planned}
use Rattle.change.specs.declared.plan.Plan.{Plan}
use Rattle.edit.specs.Edit.{spliced}
use Rattle.edit.specs.New.{new_entries}
use Rattle.pieces.specs.declared.Piece.{Piece}
use Rattle.table.specs.Sound.{capacity, Sound}

unfoldable pub if_room : List ℕ → Plan → Option Plan
if_room w plan = cond (ltb (capacity (length w)) plan.count) None (Some plan)

abbrev pub carried_out : ℕ → List ℕ → Plan → List ℕ
carried_out n w plan = spliced w n plan.from plan.to (new_entries plan.new)

-- a sound table, whatever its limit is
pub record SettleFits (P E n i j : ℕ) (w : List ℕ) : Type 0 where
  pub limit : ℕ
  pub sound : Sound P limit E n w
  pub low : i ≤ j
  pub high : j ≤ n

pub record CarryFits (n : ℕ) (w : List ℕ) (plan : Plan) : Type 0 where
  pub page : ℕ
  pub limit : ℕ
  pub end : ℕ
  pub sound : Sound page limit end n w
  pub low : plan.from ≤ plan.to
  pub high : plan.to ≤ n
  pub counted : plan.count ≡ plan.from + length (new_entries plan.new) + (n - plan.to)
  pub room : plan.count ≤ capacity (length w)

pub record Settles (P n : ℕ) (w : List ℕ) (ps : List Piece) (plan : Plan) : Type 0 where
  pub planned : Planned P n w ps plan
  pub room : plan.count ≤ capacity (length w)
