-- The way to the entry in which an address lies: of entries that rise, the last that starts at or before the address, or none.
--
--   find_fits                 a sound table can be searched: its entries rise
--   all_passed, none_left     entries in which the address does not lie are passed; if it lies in none that are left, it is beyond the end
--   none_started              no entry starts at or before the address
--   last_start, found_last, behind_last    the last that does: it starts there, the address lies in it, or in none
use Prim.Native.Nat.{ℕ, zero, suc, ◌+◌, ◌-◌, ◌≤◌, ◌<◌}
use mathlib.Core.Bool.{false}
use mathlib.Core.List.{List}
use mathlib.Core.Path.{◌≡◌, sym, ap, ◌∙◌}
use native.Mathlib.Nat.{zero-add, add-zero, sub-zero}
use native.Mathlib.Omega.{arith}
use Rattle.find.proofs.FindLaws.{lies, lies_before, lies_behind}
use Rattle.find.specs.Find.{Found, holdsb, told_of, find_in}
use Rattle.find.specs.Walk.{Rising, Started}
use Rattle.pages.proofs.Numbers.{split}
use Rattle.pieces.proofs.WordLaws.{entries_next, entries_none, front_count, front_entry}
use Rattle.pieces.specs.Words.{words_of, count_in, entry_at, entries}
use Rattle.pieces.specs.declared.Piece.{Piece}
use Rattle.refusals.specs.declared.NotNamed.TheVariants.{BeyondEnd}
use Rattle.std.specs.Prelude.{Err}
use Rattle.table.proofs.Theorems.{count_fits}
use Rattle.table.proofs.TilingLaws.{rising}
use Rattle.table.specs.Sound.{Sound}
use Rattle.table.specs.Theorems.{Holds}

-- v is what a caller took of the table: all entries
pub find_fits : {P M E n : ℕ} {w v : List ℕ} → Sound P M E n w → v ≡ words_of w 0 n → Rising v (count_in v)
find_fits {n = n} {w = w} s is =
    let there = count_fits s.ranges in
    let many = front_count w n there in
    rw is
    (λ i k low high.
    let k_in : k < n = omega (arith, many) in
    rw (front_entry w n there i (omega arith), front_entry w n there k k_in) (rising w s.rules.tiling i k low k_in))

module _ (a z : ℕ) (w : List ℕ) (n : ℕ) where
  -- what is told from entry i on
  abbrev from : ℕ → Found
  from i = find_in a z i (entries w i (n - i))

  passed : (i : ℕ) → i < n → holdsb a (entry_at w i) ≡ false → from i ≡ from (i + 1)
  unfolding find_in
  passed i lt not_it = rw (entries_next w n i lt, not_it)

  -- an address that lies in none of the entries from i up to i + d is looked for behind them
  all_passed : (i d : ℕ) → i + d ≤ n → ((k : ℕ) → i ≤ k → k < i + d → holdsb a (entry_at w k) ≡ false) → from i ≡ from (i + d)
  all_passed i zero le h = rw (add-zero i)
  all_passed i (suc d) le h =
      let e : i + 1 + d ≡ i + suc d = omega arith in
      passed i (omega arith) (h i (omega arith) (omega arith))
      ∙ (all_passed (i + 1) d (omega arith) (λ k l m. h k (omega arith) (omega arith)) ∙ ap from e)

  none_left : (i : ℕ) → i ≤ n → ((k : ℕ) → i ≤ k → k < n → holdsb a (entry_at w k) ≡ false) → from i ≡ Err BeyondEnd
  unfolding find_in
  none_left i le h =
      let e : i + (n - i) ≡ n = omega arith in
      all_passed i (n - i) (omega arith) (λ k l m. h k l (omega arith)) ∙ (ap from e ∙ rw (entries_none w n n (omega arith)))

  from_first : from 0 ≡ find_in a z 0 (entries w 0 n)
  from_first = rw (sub-zero n)

  module _ (up : Rising w n) where
    -- entries from the first that starts behind the address on
    later_not : (i : ℕ) → (i < n → a < (entry_at w i).address) → (k : ℕ) → i ≤ k → k < n → holdsb a (entry_at w k) ≡ false
    later_not i next k l h =
        split k i (λ m. let e : i ≡ k = omega arith in lies_before a (entry_at w k) (rw e at (next (omega arith))))
        (λ m. lies_before a (entry_at w k) (omega (arith, next (omega arith), up i k m h)))

    pub none_started : (r : ℕ) → r ≤ 0 → Started a n w r → find_in a z 0 (entries w 0 n) ≡ Err BeyondEnd
    none_started r none s =
        let e : r ≡ 0 = omega arith in
        let first : Started a n w 0 = rw e at s in
        sym from_first ∙ none_left 0 (omega arith) (later_not 0 first.next)

    -- x is the last entry that starts at or before the address
    module _ (r : ℕ) (some : 0 < r) (s : Started a n w r) (x : Piece) (is : x ≡ entry_at w (r - 1)) where
      pub last_start : x.address ≤ a
      last_start = rw is (s.before (r - 1) (omega arith))

      to_last : find_in a z 0 (entries w 0 n) ≡ from (r - 1)
      to_last =
          let e : 0 + (r - 1) ≡ r - 1 = zero-add (r - 1) in
          sym from_first
          ∙ (all_passed 0 (r - 1) (omega (arith, s.within))
          (λ k l h. lies_behind a (entry_at w k) (omega (arith, ap (λ (v : Piece). v.address) is, up k (r - 1) (omega arith) (omega (arith, s.within)), last_start)))
          ∙ ap from e)

      pub found_last : a - x.address < x.size → find_in a z 0 (entries w 0 n) ≡ told_of a z (r - 1) x
      unfolding find_in
      found_last lt =
          let it : Holds x a = record { from = last_start; to = omega (arith, last_start) } in
          to_last ∙ rw (entries_next w n (r - 1) (omega (arith, s.within)), ← is, lies a x it)

      pub behind_last : x.size ≤ a - x.address → find_in a z 0 (entries w 0 n) ≡ Err BeyondEnd
      behind_last le =
          let e : r - 1 + 1 ≡ r = omega arith in
          let not_it = ap (holdsb a) (sym is) ∙ lies_behind a x (omega (arith, last_start)) in
          to_last
          ∙ (passed (r - 1) (omega (arith, s.within)) not_it ∙ (ap from e ∙ none_left r s.within (later_not r s.next)))
