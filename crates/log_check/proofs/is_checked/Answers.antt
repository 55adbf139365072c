-- `log_check::is_checked` meets its contract: the sums that are told are those that are due.
use Rattle.std.proofs.Common.{◌∙◌}
use Rattle.log_check.proofs.CheckLaws.{checked}
use Rattle.log_check.proofs.is_checked.Goals as goal

pub returns : goal.returns
returns c = c.eq.ensures ∙ checked c.args.block.now c.sum_up-due.ensures c.short_at.ensures.is c.short_at-2.ensures.is
