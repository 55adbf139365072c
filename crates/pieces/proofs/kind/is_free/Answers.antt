-- `pieces::kind::is_free` meets its contract: the free kinds are those above the live ones.
use mathlib.Core.Path.{sym}
use Rattle.pieces.proofs.KindLaws.{free_kind}
use Rattle.pieces.proofs.kind.is_free.Goals as goal

pub returns : goal.returns
returns c = sym (free_kind c.args.kind c.requires)
