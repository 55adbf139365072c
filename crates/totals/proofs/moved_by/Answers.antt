-- `totals::moved_by` meets its contract: both differences are below 2^63, so each is a signed number of 64 bits.
use Rattle.totals.proofs.MovedLaws.{machine_up, machine_down}
use Rattle.totals.proofs.moved_by.Goals as goal

pub returns-then-old-new : goal.returns-then-old-new
returns-then-old-new c = machine_up c.args.old c.args.new c.requires.0 c.requires.1 c.if-old-new.true

pub returns : goal.returns
returns c = machine_down c.args.old c.args.new c.requires.0 c.requires.1 c.if-old-new.false
