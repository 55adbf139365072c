-- `by_value::fresh` meets its contract: 2, where the test fails, and else the summary of the table, worked out.
use mathlib.Core.Path.{ap, ◌∙◌}
use Rattle.by_value.proofs.WithLaws.{freshened_not, freshened_done}
use Rattle.by_value.specs.Told.{told}
use Rattle.pages.proofs.Numbers.{passes, fails}
use Rattle.space.proofs.OutcomeLaws.{tested}
use lib.IntN.{pos}
use Rattle.totals.proofs.CountLaws.{countable_sound}
use Rattle.totals.specs.Summary.{summary_of}
use Rattle.by_value.proofs.fresh.Goals as goal

pub returns-then-not-is_sound : goal.returns-then-not-is_sound
returns-then-not-is_sound c given =
    let a = c.args in
    rw c.refused.ensures (freshened_not a.space a.table.now given (fails c.is_sound.ensures c.if-not-is_sound.true))

pub entries-requires : goal.entries-requires
entries-requires c =
    let a = c.args in
    tested a.space a.table.now c.is_sound.ensures c.if-not-is_sound.false

pub work_out-summary-requires : goal.work_out-summary-requires
work_out-summary-requires c =
    let a = c.args in
    countable_sound (tested a.space a.table.now c.is_sound.ensures c.if-not-is_sound.false) c.entries.ensures.words

pub returns : goal.returns
returns c given =
    let a = c.args in
    let sound = passes c.is_sound.ensures c.if-not-is_sound.false in
    let summary = c.work_out-summary.ensures ∙ ap (summary_of (pos 0)) c.entries.ensures.entries in
    rw c.done.ensures (ap (told _) summary ∙ freshened_done a.space a.table.now given sound)
