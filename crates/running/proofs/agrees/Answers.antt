-- `running::agrees` meets its contract: the given summary is the fresh one, but for the signed number, which is taken from it.
use mathlib.Core.Path.{◌∙◌}
use Rattle.running.proofs.CompareLaws.{compared}
use Rattle.running.proofs.agrees.Goals as goal

pub returns : goal.returns
returns c = c.eq.ensures ∙ compared c.args.given c.work_out-fresh.result _ c.work_out-fresh.ensures
