-- `edit::gap::put_free` meets its contract: the test is the one by which a free entry is there or not.
use Rattle.std.proofs.Common.{arith}
use Rattle.edit.proofs.NewLaws.{count_some, put_none, put_some}
use Rattle.edit.proofs.gap.put_free.Goals as goal

pub returns-then-b-a : goal.returns-then-b-a
returns-then-b-a c = put_none _ _ _ _ _ c.if-b-a.true

pub put-requires : goal.put-requires
put-requires c = omega (arith, count_some c.args.a c.args.b c.if-b-a.false)

pub returns : goal.returns
returns c = put_some _ _ _ _ _ _ c.if-b-a.false c.put.ensures
