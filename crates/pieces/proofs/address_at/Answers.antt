-- `pieces::address_at` meets its contract: the address is the entry's first word.
use mathlib.Core.Path.{refl}
use Rattle.pieces.specs.Words.{entry_at}
use Rattle.pieces.proofs.address_at.Goals as goal

pub returns : goal.returns
unfolding entry_at
returns c = refl
