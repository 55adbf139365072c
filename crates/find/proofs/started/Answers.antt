use Prim.Native.Nat.{◌-◌}
use native.Mathlib.Omega.{arith}
use Rattle.find.proofs.HalfLaws.{fewer}
use Rattle.find.proofs.started.Goals as goal

pub loop-low-smaller-then-address-address_at : goal.loop-low-smaller-then-address-address_at
loop-low-smaller-then-address-address_at c =
    let l = c.loop-low in
    fewer (l.high - l.low) _ (omega (arith, c.loop-low-test.true)) (omega arith)

pub loop-low-smaller : goal.loop-low-smaller
loop-low-smaller c =
    let l = c.loop-low in
    fewer (l.high - l.low) _ (omega (arith, c.loop-low-test.true)) (omega arith)
