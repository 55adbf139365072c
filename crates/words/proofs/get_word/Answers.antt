-- `words::get_word` meets its contract: the number that the standard library makes of eight bytes is the one that they are.
use Rattle.std.proofs.Common.{◌∙◌}
use Rattle.little.proofs.LittleLaws.{little_word}
use Rattle.words.proofs.get_word.Goals as goal

pub returns : goal.returns
returns c = c.from_le_bytes.ensures ∙ little_word c.args.b.now c.requires
