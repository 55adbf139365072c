-- Laws of the signed number: by how much the end of file moved, upward (moved_up) and downward (moved_down); and as the machine works it out and
-- hands it on.
--
use Prim.Native.Nat.{ℕ, suc, ◌-◌, ◌^◌, ◌≤◌, ◌<◌}
use mathlib.Core.Bool.{Bool, cond}
use mathlib.Core.Path.{◌≡◌, sym, ap, ◌∙◌}
use native.Mathlib.Omega.{arith}
use lib.IntN.{ℤ, pos, negsuc, neg_ℤ, ◌-ℤ◌, +ℤ_idl}
use mir.Facts.{to_z_pos, to_z-of_z}
use mir.Syntax.{w64}
use mir.Val.{to_z, of_z, SFits}
use borrow.Author.Tests.{lt-ltb, le-ltb}
use Rattle.pages.proofs.Numbers.{split}
use Rattle.totals.specs.Summary.{moved_by}

pub moved_up : (old new : ℕ) → old ≤ new → moved_by old new ≡ pos (new - old)
unfolding moved_by
moved_up old new h = ap (λ (t : Bool). cond t (negsuc (old - suc new)) (pos (new - old))) (le-ltb new old h)

pub moved_down : (old new : ℕ) → new < old → moved_by old new ≡ neg_ℤ (pos (old - new))
unfolding moved_by
moved_down old new h =
    let e : old - new ≡ suc (old - suc new) = omega arith in
    ap (λ (t : Bool). cond t (negsuc (old - suc new)) (pos (new - old))) (lt-ltb new old h) ∙ rw e

-- ---- as the machine has it

module _ (old new : ℕ) (old_small : old < 2 ^ 63) (new_small : new < 2 ^ 63) where
  pub machine_up : old ≤ new → to_z w64 (new - old) ≡ moved_by old new
  machine_up h = let l : new - old < 2 ^ 63 = omega arith in to_z_pos w64 l ∙ sym (moved_up old new h)

  machine_minus : new < old → pos 0 -ℤ to_z w64 (old - new) ≡ negsuc (old - suc new)
  machine_minus h =
      let l : old - new < 2 ^ 63 = omega arith in
      let e : old - new ≡ suc (old - suc new) = omega arith in
      rw (to_z_pos w64 l, e) (+ℤ_idl (negsuc (old - suc new)))

  pub machine_fits : new < old → SFits w64 (pos 0 -ℤ to_z w64 (old - new))
  machine_fits h = rw (machine_minus h) (record { sfits = omega arith })

  pub machine_down : new < old → to_z w64 (of_z w64 (pos 0 -ℤ to_z w64 (old - new))) ≡ moved_by old new
  machine_down h =
      let e : old - new ≡ suc (old - suc new) = omega arith in
      to_z-of_z {w = w64} (machine_fits h) ∙ machine_minus h ∙ sym (rw e at (moved_down old new h))

  -- handed on as a number of the machine, it is the same
  moved_fits : SFits w64 (moved_by old new)
  moved_fits =
      split old new
      (λ h. let l : new - old < 2 ^ 63 = omega arith in rw (moved_up old new h) (record { sfits = l }))
      (λ h. let e : old - new ≡ suc (old - suc new) = omega arith in rw (moved_down old new h, e) (record { sfits = omega arith }))

  pub moved_on : {m : ℤ} → m ≡ moved_by old new → to_z w64 (of_z w64 m) ≡ moved_by old new
  moved_on e = rw e (to_z-of_z {w = w64} moved_fits)
