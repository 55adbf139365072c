-- `pieces::put` meets its contract: three stores lay one piece.
use Rattle.pieces.proofs.WordLaws.{laid_one}
use Rattle.pieces.proofs.put.Goals as goal

pub returns : goal.returns
returns c = rw c.from.ensures (laid_one _ _ _ c.requires)
