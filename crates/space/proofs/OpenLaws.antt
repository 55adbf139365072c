-- Laws of an opening.
--
-- In this order: the whole call, refused and done (opened); the state that it leaves is refused by every call (nowhere-unsound), or sound
-- (opened-sound).
--
-- Assumes nothing.
use Prim.Native.Nat.{ℕ, ◌*◌}
use mathlib.Core.Bool.{true, false}
use mathlib.Core.List.{List}
use mathlib.Core.Path.{◌≡◌, refl}
use lib.ListN.{length, replicate, drop, length-replicate, get_or-replicate}
use Rattle.pieces.specs.Words.{entry_words, entries}
use Rattle.refusals.specs.AnswerNumbers.{out_of_range}
use Rattle.space.specs.Opening.{nowhere, opened}
use Rattle.space.specs.Outcomes.{soundb}
use Rattle.table.proofs.LocalLaws.{true_zeros}
use Rattle.table.specs.Local.{rangesb, kindsb, zerosb, chainb, localb}

-- ---- the whole call

module _ (P M : ℕ) (w : List ℕ) where
  pub opened_refused : rangesb P M 0 0 (length w) ≡ false → opened P M w ≡ record { refusal = out_of_range; state = nowhere; words = w }
  unfolding opened
  opened_refused e = rw e

  pub opened_done : rangesb P M 0 0 (length w) ≡ true
      → opened P M w ≡ record { refusal = 0; state = record { page = P; limit = M; end = 0; count = 0 }; words = replicate (length w) 0 }
  unfolding opened
  opened_done e = rw e

-- ---- the state that it leaves

-- every call that takes a state refuses that of a refused opening with 2
pub nowhere_unsound : (w : List ℕ) → soundb nowhere w ≡ false
unfolding localb rangesb
nowhere_unsound w = refl

pub opened_sound : (P M len : ℕ) → rangesb P M 0 0 len ≡ true
    → soundb (record { page = P; limit = M; end = 0; count = 0 }) (replicate len 0) ≡ true
unfolding localb kindsb chainb entries
opened_sound P M len e =
    let w : List ℕ = replicate len 0 in
    let zeros : zerosb (drop (0 * entry_words) w) ≡ true = true_zeros w 0 (λ i h l. get_or-replicate len i 0 0 (rw length-replicate at l)) in
    rw (length-replicate, e, zeros)
