-- Laws of the decades of sizes: how many edges a size reaches.
--
--   edges_none, edges_more      none of those from an edge on that it is below, and one more where it reaches the first
--   decade_few                  a decade is one of those that are counted
--
-- Not here: that a decade holds the sizes between its edges (Described.antt).
use Prim.Native.Nat.{ℕ, zero, suc, ◌*◌, ◌≤◌, ◌<◌}
use mathlib.Core.Bool.{Bool, true, false, cond}
use mathlib.Core.Path.{◌≡◌, refl}
use native.Mathlib.Omega.{arith}
use lib.Dec.{ltb}
use borrow.Author.Tests.{lt-ltb, le-ltb}
use Rattle.totals.specs.Summary.{ten, last_decade, edges_reached, decade_of}

pub edges_none : (n e z : ℕ) → z < e → edges_reached n e z ≡ 0
unfolding edges_reached
edges_none zero e z h = refl
edges_none (suc n) e z h = rw (lt-ltb z e h)

pub edges_more : (n e z : ℕ) → e ≤ z → edges_reached (suc n) e z ≡ suc (edges_reached n (e * ten) z)
unfolding edges_reached
edges_more n e z h = rw (le-ltb z e h)

edges_few : (n e z : ℕ) → edges_reached n e z ≤ n
unfolding edges_reached
edges_few zero e z = omega arith
edges_few (suc n) e z = go (ltb z e) (edges_few n (e * ten) z)
  where
    go : (t : Bool) → edges_reached n (e * ten) z ≤ n → cond t 0 (suc (edges_reached n (e * ten) z)) ≤ suc n
    go true l = omega arith
    go false l = omega arith

pub decade_few : (z : ℕ) → decade_of z ≤ last_decade
unfolding decade_of
decade_few z = edges_few last_decade ten z
