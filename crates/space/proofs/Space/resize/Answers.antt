-- `space::Space::resize` meets its contract: refusal 2 is the law of a table that is not sound; of a sound one it does what was decided.
use mathlib.Core.Path.{sym}
use Rattle.pages.proofs.Numbers.{fails}
use Rattle.space.proofs.GiveLaws.{resized_unsound}
use Rattle.space.proofs.OutcomeLaws.{tested}
use Rattle.space.proofs.Space.resize.Goals as goal

pub returns-then-not-is_sound : goal.returns-then-not-is_sound
returns-then-not-is_sound c =
    let a = c.args in
    let unsound = fails c.is_sound.ensures c.if-not-is_sound.true in
    rw c.answers.ensures (sym (resized_unsound a.self a.address a.size a.way a.by a.table.now unsound))

pub decide_resize-requires : goal.decide_resize-requires
decide_resize-requires c =
    let a = c.args in
    tested a.self a.table.now c.is_sound.ensures c.if-not-is_sound.false
