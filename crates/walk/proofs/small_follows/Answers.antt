-- `walk::small_follows` meets its contract: the packed number agrees with the rule, state by state and kind by kind.
use mathlib.Core.Path.{refl}
use Rattle.pieces.specs.Pieces.{status_of}
use Rattle.walk.proofs.PackedLaws.{packed}
use Rattle.walk.specs.Walk.{small_followsb}
use Rattle.walk.proofs.small_follows.Goals as goal

pub returns : goal.returns
unfolding small_followsb status_of
returns c = packed _ c.args.state c.args.kind refl c.requires.0 c.requires.1
