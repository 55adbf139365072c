-- A sound file can be drawn page by page.
use Prim.Native.Nat.{ℕ}
use mathlib.Core.Bool.{Bool, true}
use mathlib.Core.List.{List}
use mathlib.Core.Path.{◌≡◌, sym, ◌∙◌}
use native.Mathlib.Omega.{arith}
use Rattle.say.specs.Rows.{Rows}
use Rattle.table.proofs.Theorems.{local_form}
use Rattle.table.specs.Local.{localb}

sound_rows : (P M E n : ℕ) (w : List ℕ) → localb P M E n w ≡ true → Rows P E
sound_rows P M E n w h =
    let r = ((local_form P M E n w).1 h).ranges in
    record { some = omega (arith, r.page.least); page_most = r.page.largest; end_most = omega (arith, r.end_limit, r.limit_largest) }

pub rows_of_test : (P M E n : ℕ) (w : List ℕ) (sound : Bool) → sound ≡ localb P M E n w → sound ≡ true → Rows P E
rows_of_test P M E n w sound told taken = sound_rows P M E n w (sym told ∙ taken)
