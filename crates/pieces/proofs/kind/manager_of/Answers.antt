-- `pieces::kind::manager_of` meets its contract: the free kinds stand in the order of the managers.
use mathlib.Core.Path.{sym}
use Rattle.pieces.proofs.KindLaws.{manager_kind}
use Rattle.pieces.proofs.kind.manager_of.Goals as goal

pub overflow_sub-result : goal.overflow_sub-result
overflow_sub-result c = (manager_kind c.args.kind c.requires.0 c.requires.1).0

pub returns : goal.returns
returns c = sym (manager_kind c.args.kind c.requires.0 c.requires.1).1
