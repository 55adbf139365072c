use native.Mathlib.Omega.{arith}
use Rattle.running.proofs.ReplaceLaws.{exchanging_next, exchanging_all}
use Rattle.running.proofs.replace.Goals as goal

pub loop-i-preserved : goal.loop-i-preserved
loop-i-preserved c =
    let l = c.loop-i in
    exchanging_next _ _ _ _ _ l.invariant c.requires (omega (arith, l.invariant.kept, c.loop-i-test.true))

pub returns : goal.returns
returns c = let l = c.loop-i in exchanging_all _ _ _ _ _ l.invariant (omega (arith, l.invariant.kept, c.loop-i-test.false))
