-- A change that is carried out with a summary.
--
--   ChangeFits sp w s plan     what it asks: the plan is one for a sound table with which the summary agrees, and leaves a sound one
--   Changed, change_said r v   what it leaves: the state, every word of the table, and the summary
--   changed_by sp w plan       what it is to leave: the plan carried out, and the summary of the new table
use Rattle.std.specs.Prelude.{true, List, ◌≡◌, ℕ}
use Rattle.by_value.specs.Told.{Told, told}
use Rattle.by_value.specs.With.{agreeb, summed}
use Rattle.by_value.specs.declared.Changed.{Changed}
use Rattle.change.specs.declared.plan.Plan.{Plan}
use Rattle.settle.specs.Settle.{CarryFits}
use Rattle.space.specs.Halves.{carried, carry_said}
use Rattle.space.specs.Outcomes.{SoundSpace, Outcome}
use Rattle.space.specs.declared.Space.{Space}
use Rattle.totals.specs.declared.Summary.{Summary}

pub record ChangeFits (sp : Space) (w : List ℕ) (s : Summary) (plan : Plan) : Type 0 where
  pub sound : SoundSpace sp w
  pub fits : CarryFits sp.count w plan
  pub next : SoundSpace (carried sp w plan).state (carried sp w plan).words
  pub agrees : agreeb sp w s ≡ true

abbrev pub change_said : Changed → List ℕ → Told Outcome
change_said r v = told (carry_said r.space v) r.summary

abbrev pub changed_by : Space → List ℕ → Plan → Told Outcome
changed_by sp w plan = told (carried sp w plan) (summed sp (carried sp w plan))
