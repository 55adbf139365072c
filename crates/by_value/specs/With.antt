-- What the calls mean that take a summary, by what those without one mean.
--
--   Agrees sp w s              the summary s agrees with the table: but for the signed number it is that of the entries
--   after sp s o               the summary after a call on the state sp that left o: that of the new table, with the signed number new E minus
--                              old E; as it came, s, if the call was refused
--   unless_refused k new old   the summary `new`, and `old` if k is the number of a refusal
--   agreeing form out sp w s x  x, a call without a summary: refused 2 where the summary does not agree. `form` says how a refusal stands in what
--                              the call leaves, and `out` what is left of the table
--   opened_with P M w s        an opening: accepted, it sets every number to 0
--   allocated_with sp t z w s, released_with sp a z w s, resized_with sp a z way m w s  the calls on a table; extended_with, shortened_with
--   freshened sp w s           the summary worked out afresh, the signed number 0; 2, where state and table are not sound
use Rattle.std.specs.Prelude.{Bool, cond, not, List, ◌≡◌, ℕ, eqb, pos}
use Rattle.by_value.specs.Told.{Told, told}
use Rattle.refusals.specs.AnswerNumbers.{not_sound}
use Rattle.space.specs.Giving.{released, resized}
use Rattle.space.specs.Opening.{opened}
use Rattle.space.specs.Outcomes.{soundb, entries_of, Outcome, refused, plain}
use Rattle.space.specs.Placing.{Placed, unplaced, allocated}
use Rattle.space.specs.declared.Space.{Space}
use Rattle.space.specs.declared.give.Way.{Way}
use Rattle.space.specs.declared.give.Way.TheVariants.{Longer, Shorter}
use Rattle.totals.specs.Summary.{summary_of, no_totals, agreesb, moved_by}
use Rattle.totals.specs.declared.Summary.{Summary}

-- ---- the summary and the table

abbrev pub agreeb : Space → List ℕ → Summary → Bool
agreeb sp w s = agreesb s (entries_of sp w)

abbrev pub Agrees : Space → List ℕ → Summary → Type 0
Agrees sp w s = s ≡ summary_of s.moved (entries_of sp w)

-- the summary of what a call left
abbrev pub summed : Space → Outcome → Summary
summed sp o = summary_of (moved_by sp.end o.state.end) (entries_of o.state o.words)

-- a new summary where the number of an answer says that the call was accepted, and else the old one
unfoldable pub unless_refused : ℕ → Summary → Summary → Summary
unless_refused k new old = cond (eqb k 0) new old

abbrev pub after : Space → Summary → Outcome → Summary
after sp s o = unless_refused o.refusal (summed sp o) s

unfoldable pub agreeing : {X : Type 0} → (Outcome → X) → (X → Outcome) → Space → List ℕ → Summary → X → Told X
agreeing form out sp w s x = cond (agreeb sp w s) (told x (after sp s (out x))) (told (form (refused not_sound sp w)) s)

-- ---- the calls

unfoldable pub opened_with : ℕ → ℕ → List ℕ → Summary → Told Outcome
opened_with P M w s = told (opened P M w) (unless_refused (opened P M w).refusal no_totals s)

unfoldable pub allocated_with : Space → ℕ → ℕ → List ℕ → Summary → Told Placed
allocated_with sp t z w s = agreeing unplaced (λ x. x.outcome) sp w s (allocated sp t z w)

unfoldable pub released_with : Space → ℕ → ℕ → List ℕ → Summary → Told Outcome
released_with sp a z w s = agreeing plain plain sp w s (released sp a z w)

unfoldable pub resized_with : Space → ℕ → ℕ → Way → ℕ → List ℕ → Summary → Told Outcome
resized_with sp a z way m w s = agreeing plain plain sp w s (resized sp a z way m w)

abbrev pub extended_with : Space → ℕ → ℕ → ℕ → List ℕ → Summary → Told Outcome
extended_with sp a z m w s = resized_with sp a z Longer m w s

abbrev pub shortened_with : Space → ℕ → ℕ → ℕ → List ℕ → Summary → Told Outcome
shortened_with sp a z k w s = resized_with sp a z Shorter k w s

unfoldable pub freshened : Space → List ℕ → Summary → Told Outcome
freshened sp w s =
    cond (not (soundb sp w)) (told (refused not_sound sp w) s)
    (told (record { refusal = 0; state = sp; words = w }) (summary_of (pos 0) (entries_of sp w)))
