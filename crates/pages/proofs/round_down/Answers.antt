-- `pages::round_down` returns the quotient's multiple, which is `down` by its text.
use Rattle.std.proofs.Common.{refl}
use Rattle.pages.specs.Pages.{down}
use Rattle.pages.proofs.round_down.Goals as goal

pub returns : goal.returns
unfolding down
returns c = refl
