-- `space::Space::allocate` meets its contract: refusal 2 is the law of a table that is not sound; of a sound one it does what was decided.
use mathlib.Core.Path.{sym}
use Rattle.pages.proofs.Numbers.{fails}
use Rattle.space.proofs.OutcomeLaws.{tested}
use Rattle.space.proofs.PlaceLaws.{allocated_unsound}
use Rattle.space.proofs.Space.allocate.Goals as goal

pub returns-then-not-is_sound : goal.returns-then-not-is_sound
returns-then-not-is_sound c =
    let a = c.args in
    let unsound = fails c.is_sound.ensures c.if-not-is_sound.true in
    rw c.answers.ensures (sym (allocated_unsound a.self a.code a.size a.table.now unsound))

pub decide_allocate-requires : goal.decide_allocate-requires
decide_allocate-requires c =
    let a = c.args in
    tested a.self a.table.now c.is_sound.ensures c.if-not-is_sound.false
