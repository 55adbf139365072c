-- `log_check::short_at` meets its contract: the word is its two bytes.
use Rattle.std.proofs.Common.{arith}
use Rattle.log_check.proofs.CheckLaws.{short_is}
use Rattle.log_check.proofs.short_at.Goals as goal

pub returns-clause-is : goal.returns-clause-is
returns-clause-is c = omega (arith, c.from.ensures, c.from_le_bytes.ensures, short_is c.args.bytes.now c.args.at c.requires)
