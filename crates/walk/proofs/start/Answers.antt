-- `walk::start` meets its contract: at 0 a whole page is left.
use mathlib.Core.Path.{refl}
use borrow.Author.Tests.{eq-eqb}
use Rattle.pages.proofs.PageLaws.{left_of, border_zero}
use Rattle.walk.specs.Walk.{state_of}
use Rattle.walk.proofs.start.Goals as goal

pub returns : goal.returns
unfolding state_of
returns c = let p = c.args.p in rw (left_of p c.requires (border_zero p), eq-eqb p p refl)
