-- `space::Space::list` meets its contract: refusal 2 is the law of a table that is not sound; of a sound one the half decides.
use mathlib.Core.Path.{sym}
use Rattle.pages.proofs.Numbers.{fails}
use Rattle.space.proofs.ListLaws.{listed_unsound}
use Rattle.space.proofs.OutcomeLaws.{tested}
use Rattle.space.proofs.Space.list.Goals as goal

pub returns-then-not-is_sound : goal.returns-then-not-is_sound
returns-then-not-is_sound c =
    let a = c.args in
    let unsound = fails c.is_sound.ensures c.if-not-is_sound.true in
    rw c.answers.ensures (sym (listed_unsound a.self a.manager a.table.now a.out.now unsound))

pub list_sound-requires : goal.list_sound-requires
list_sound-requires c =
    let a = c.args in
    tested a.self a.table.now c.is_sound.ensures c.if-not-is_sound.false
