-- `log_blocks::count` meets its contract: the count is one byte.
use mathlib.Core.Path.{◌∙◌, sym}
use Rattle.little.proofs.LittleLaws.{value_byte}
use Rattle.log_blocks.specs.Blocks.{count_at}
use borrow.Author.Rules.{rules}
use Rattle.log_blocks.proofs.count.Goals as goal

pub returns : goal.returns
returns c = c.from.ensures ∙ sym (value_byte count_at c.args.block.now (search rules))
