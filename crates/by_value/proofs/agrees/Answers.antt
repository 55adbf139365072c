-- `by_value::agrees` meets its contract: both tests, of which the second asks for a table that is sound.
use mathlib.Core.Bool.{true}
use mathlib.Core.Path.{◌≡◌, sym, ap, ◌∙◌}
use Rattle.space.proofs.OutcomeLaws.{tested}
use Rattle.space.specs.Outcomes.{soundb}
use Rattle.totals.proofs.CountLaws.{countable_sound}
use Rattle.totals.specs.Summary.{agreesb}
use Rattle.by_value.proofs.agrees.Goals as goal

pub entries-requires : goal.entries-requires
entries-requires c =
    let a = c.args in
    tested a.space a.table.now c.is_sound.ensures c.if-is_sound.true

pub agrees-requires : goal.agrees-requires
agrees-requires c =
    let a = c.args in
    countable_sound (tested a.space a.table.now c.is_sound.ensures c.if-is_sound.true) c.entries.ensures.words

pub returns-then-is_sound : goal.returns-then-is_sound
returns-then-is_sound c =
    let a = c.args in
    let sound : true ≡ soundb a.space a.table.now = sym c.if-is_sound.true ∙ c.is_sound.ensures in
    rw (← sound) (c.agrees.ensures ∙ ap (agreesb a.given) c.entries.ensures.entries)
