-- Laws of how an accepted change ends.
--
--   room_full, room_ready                 the two outcomes of `if_room`
--   plan_fits                             a sound table lets a plan be made
--   ready_without, ready_with             one with room is a plan for the new live pieces
--   full_without, full_with               and without room the new live pieces need too many entries
--   carried_laid, -entries, -new          carried out, a plan leaves the entries in front, the new ones, and those behind
--   length_carried, carried_front, -back  the words that a plan leaves as they were
--   carry_fits, carried_table             one with room can be carried out, and then the table is that of the new live pieces
--
-- Assumes nothing.
use Prim.Native.Nat.{ℕ, ◌+◌, ◌-◌, ◌*◌, ◌≤◌, ◌<◌}
use mathlib.Core.List.{List, [], ◌∷◌, ◌++◌}
use mathlib.Core.Path.{◌≡◌, refl, sym, ap, ◌∙◌}
use native.Mathlib.Omega.{arith}
use lib.ListN.{length, take, drop, replicate, length-append}
use lib.Seq.{take_at, drop_at, length-take-le}
use borrow.Author.Tests.{lt-ltb, le-ltb}
use Rattle.change.proofs.PlanLaws.{planned_without, planned_with}
use Rattle.change.specs.Change.{plan_without, plan_with, PlanFits, Planned}
use Rattle.change.specs.declared.plan.Plan.{Plan}
use Rattle.edit.proofs.EditLaws.{spliced_table}
use Rattle.edit.specs.Edit.{spliced}
use Rattle.edit.specs.New.{new_entries}
use Rattle.pages.proofs.Numbers.{split}
use Rattle.pieces.proofs.WordLaws.{entries_of_table, length_entries, entries_append, take_entries, drop_entries}
use Rattle.pieces.proofs.WordLaws.{length_table, zeros_of_table, zeros_replicate}
use Rattle.pieces.specs.Words.{entry_words, entries, table, Zeros}
use Rattle.pieces.specs.declared.Piece.{Piece}
use Rattle.rules.specs.Between.{lives_with}
use Rattle.settle.specs.Settle.{if_room, carried_out, SettleFits, CarryFits, Settles}
use Rattle.std.specs.Prelude.{Some, None}
use Rattle.table.proofs.Theorems.{count_fits, sound_table}
use Rattle.table.specs.Fill.{fill}
use Rattle.table.specs.Sound.{capacity, Sound}

-- ---- the two outcomes

module _ (w : List ℕ) (plan : Plan) where
  pub room_full : capacity (length w) < plan.count → if_room w plan ≡ None
  unfolding if_room
  room_full h = rw (lt-ltb (capacity (length w)) plan.count h) refl

  pub room_ready : plan.count ≤ capacity (length w) → if_room w plan ≡ Some plan
  unfolding if_room
  room_ready h = rw (le-ltb (capacity (length w)) plan.count h) refl

  -- r is what was answered
  is_ready : {q : Plan} → Some q ≡ if_room w plan → (q ≡ plan) × (plan.count ≤ capacity (length w))
  is_ready {q} e =
      split plan.count (capacity (length w))
      (λ h. let r : Some q ≡ Some plan = e ∙ room_ready h in let q_is : q ≡ plan = cc in (q_is, h))
      (λ h. let r : Some q ≡ None = e ∙ room_full h in let z : ◌≡◌ {A = ℕ} 0 1 = cc in absurd (omega arith))

  is_full : None ≡ if_room w plan → capacity (length w) < plan.count
  is_full e =
      split plan.count (capacity (length w))
      (λ h. let r : None ≡ Some plan = e ∙ room_ready h in let z : ◌≡◌ {A = ℕ} 0 1 = cc in absurd (omega arith))
      (λ h. h)

-- ---- a sound table lets a plan be made

-- for any part of its entries
pub plan_fits : {P E n i j k l : ℕ} {w : List ℕ} → SettleFits P E n i j w → k ≤ l → l ≤ n → PlanFits P E n k l w
plan_fits f low high =
    let s = f.sound in
    record {
      page = s.ranges.page;
      border = s.ranges.end_border;
      file = omega (arith, s.ranges.end_limit, s.ranges.limit_largest, s.ranges.page.largest);
      few = omega (arith, count_fits s.ranges, s.ranges.slice.largest);
      room = count_fits s.ranges;
      rules = s.rules;
      low = low;
      high = high;
    }

-- ---- what was decided of it

-- of a plan for the live pieces ps
module _ {P n : ℕ} {w : List ℕ} {ps : List Piece} {plan : Plan} (p : Planned P n w ps plan) where
  settles : {q : Plan} → Some q ≡ if_room w plan → Settles P n w ps q
  settles e = let r = is_ready w plan e in record { planned = rw r.0 p; room = rw r.0 r.1 }

  too_many : None ≡ if_room w plan → capacity (length w) < length (fill P ps)
  too_many e = omega (arith, is_full w plan e, p.count)

-- of the plans that are made
module _ {P E n i j : ℕ} {w : List ℕ} (f : SettleFits P E n i j w) where
  without_right : Planned P n w (lives_with w n i j []) (plan_without P E n i j w)
  without_right = planned_without (plan_fits f f.low f.high)

  pub ready_without : {plan : Plan} → Some plan ≡ if_room w (plan_without P E n i j w) → Settles P n w (lives_with w n i j []) plan
  ready_without e = settles without_right e

  pub full_without : None ≡ if_room w (plan_without P E n i j w) → capacity (length w) < length (fill P (lives_with w n i j []))
  full_without e = too_many without_right e

  module _ (x : Piece) where
    with_right : Planned P n w (lives_with w n i j (x ∷ [])) (plan_with P E n i j w x)
    with_right = planned_with (plan_fits f f.low f.high) x

    pub ready_with : {plan : Plan} → Some plan ≡ if_room w (plan_with P E n i j w x) → Settles P n w (lives_with w n i j (x ∷ [])) plan
    ready_with e = settles with_right e

    pub full_with : None ≡ if_room w (plan_with P E n i j w x) → capacity (length w) < length (fill P (lives_with w n i j (x ∷ [])))
    full_with e = too_many with_right e

-- ---- a plan that is carried out

-- the table has the planned entries in place of those that went
module _ {n : ℕ} {w : List ℕ} {plan : Plan} (f : CarryFits n w plan) where
  -- the entries of the table then
  abbrev pub left : List Piece
  left = entries w 0 plan.from ++ (new_entries plan.new ++ entries w plan.to (n - plan.to))

  pub carried_laid : carried_out n w plan ≡ table (length w) left
  carried_laid =
      let es : List Piece = entries w 0 n in
      let l : length es ≡ n = length_entries w 0 n in
      let fits : length es * entry_words ≤ length w = rw l (count_fits f.sound.ranges) in
      let t = spliced_table (length w) es plan.from plan.to (new_entries plan.new) fits f.low (rw l f.high) in
      let front = take_entries w plan.from n (omega (arith, f.low, f.high)) in
      let back = drop_entries w plan.to n f.high in
      rw (front, back, l, ← sound_table f.sound) at t

  left_count : length left ≡ plan.count
  left_count =
      let e : length left ≡ plan.from + (length (new_entries plan.new) + (n - plan.to)) = simp (length-append, length_entries) in
      omega (arith, f.counted)

  pub carried_entries : entries (carried_out n w plan) 0 plan.count ≡ left
  carried_entries = rw (carried_laid, ← left_count) (entries_of_table (length w) left)

  pub length_carried : length (carried_out n w plan) ≡ length w
  length_carried =
      let fits : length left * entry_words ≤ length w = omega (arith, left_count, f.room) in
      ap length carried_laid ∙ length_table (length w) left fits

  -- the words before those that went are as they were, and so are those behind all entries, old and new: these are 0
  pub carried_front : take (plan.from * entry_words) (carried_out n w plan) ≡ take (plan.from * entry_words) w
  unfolding spliced
  carried_front =
      let long : plan.from * entry_words ≤ length w = omega (arith, f.low, f.high, count_fits f.sound.ranges) in
      take_at (take (plan.from * entry_words) w) _ (plan.from * entry_words) (length-take-le (plan.from * entry_words) w long)

  pub carried_back : (m : ℕ) → n ≤ m → plan.count ≤ m → drop (m * entry_words) (carried_out n w plan) ≡ drop (m * entry_words) w
  carried_back m old new =
      let v : List ℕ = carried_out n w plan in
      let zeros : Zeros v plan.count = rw (carried_laid, ← left_count) (zeros_of_table (length w) left) in
      zeros_replicate v m (λ i h l. zeros i (omega (arith, h, new)) l)
      ∙ (ap (λ (k : ℕ). replicate (k - m * entry_words) 0) length_carried
      ∙ sym (zeros_replicate w m (λ i h l. f.sound.zeros i (omega (arith, h, old)) l)))

  -- the new ones among them
  pub carried_new : entries (carried_out n w plan) plan.from (length (new_entries plan.new)) ≡ new_entries plan.new
  carried_new =
      let v : List ℕ = carried_out n w plan in
      let new : List Piece = new_entries plan.new in
      let rest : ℕ = n - plan.to in
      let many : plan.count - plan.from ≡ length new + rest = omega (arith, f.counted) in
      let from = drop_entries v plan.from plan.count (omega (arith, f.counted)) in
      let behind = drop_at (entries w 0 plan.from) (new ++ entries w plan.to rest) plan.from (length_entries w 0 plan.from) in
      let both : entries v plan.from (length new) ++ entries v (plan.from + length new) rest ≡ new ++ entries w plan.to rest =
      sym (entries_append v plan.from (length new) rest) ∙ rw (many, carried_entries, behind) at (sym from) in
      sym (take_at (entries v plan.from (length new)) _ (length new) (length_entries v plan.from (length new)))
      ∙ (ap (take (length new)) both ∙ take_at new _ (length new) refl)

module _ {P M E n Q : ℕ} {w : List ℕ} {ps : List Piece} {plan : Plan} (s : Sound P M E n w) (p : Settles Q n w ps plan) where
  -- what a plan puts in, it has counted
  plan_counted : plan.count ≡ plan.from + length (new_entries plan.new) + (n - plan.to)
  plan_counted =
      let e = simp (length-append, length_entries) at (ap length p.planned.filled) in
      omega (arith, p.planned.count)

  pub carry_fits : CarryFits n w plan
  carry_fits =
      record {
        page = P;
        limit = M;
        end = E;
        sound = s;
        low = p.planned.low;
        high = p.planned.high;
        counted = plan_counted;
        room = p.room;
      }

  pub carried_table : carried_out n w plan ≡ table (length w) (fill Q ps)
  carried_table = carried_laid carry_fits ∙ ap (table (length w)) p.planned.filled
