-- What a call with a summary said and left: what the call without one says, and every number of the summary.
--
--   Told X          that; told x s makes one
--   kept r g        the summary after a call by value: that of r, which was handed back, where the call changes it; and else g, the one that was given
--   fresh_some      the refusal of a summary that is worked out afresh, by `fresh_refusal`, is not 0
--   fresh_said r w  what a call said that works the summary out afresh: its number, the state, and the words w of the table as it returns
use Rattle.std.specs.Prelude.{List, ℕ, ◌≡◌, Option, Some, None, Result}
use Rattle.std.proofs.Common.{arith}
use Rattle.by_value.specs.declared.FreshRefusal.{FreshRefusal}
use Rattle.by_value.specs.declared.FreshRefusal.TheVariants.{NotSound}
use Rattle.refusals.specs.AnswerNumbers.{not_sound, number_by}
use Rattle.space.specs.declared.answers.Answered.{Answered}
use Rattle.space.specs.Outcomes.{Outcome}
use Rattle.totals.specs.declared.Summary.{Summary}

pub record Told (X : Type 0) : Type 0 where
  pub said : X
  pub summary : Summary

abbrev pub told : {X : Type 0} → X → Summary → Told X
told x s = record { said = x; summary = s }

abbrev pub kept : Option Summary → Summary → Summary
kept (Some s) g = s
kept None g = g

abbrev pub fresh_refusal : FreshRefusal → ℕ
fresh_refusal NotSound = not_sound

pub fresh_some : (r : FreshRefusal) → fresh_refusal r ≡ 0 → ⊥
fresh_some NotSound e = omega (arith, e)

abbrev pub fresh_number : Result Unit FreshRefusal → ℕ
fresh_number r = number_by fresh_refusal r

abbrev pub fresh_said : Answered Unit FreshRefusal → List ℕ → Outcome
fresh_said r w = record { refusal = fresh_number r.answer; state = r.space; words = w }
