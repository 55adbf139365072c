-- `pieces::piece_at` meets its contract: it is the piece that the entry's words say.
use mathlib.Core.Path.{ap, ◌∙◌}
use Rattle.pieces.specs.Words.{piece_of, entry_at}
use Rattle.pieces.proofs.piece_at.Goals as goal

pub returns : goal.returns
unfolding entry_at
returns c = c.piece_of.ensures ∙ ap piece_of c.words_at.ensures
