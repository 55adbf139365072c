-- `say::map::map` is safe: a sound file can be drawn page by page.
use Rattle.say.proofs.MapLaws.{rows_of_test}
use Rattle.say.proofs.map.map.Goals as goal

pub invariant_of-picture : goal.invariant_of-picture
invariant_of-picture c = record { drawn = rows_of_test _ _ _ _ _ _ c.is_sound.ensures c.if-not-is_sound.false }
