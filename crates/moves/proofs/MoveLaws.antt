-- Laws of the loops that move words. What such a loop must do is `paste` of lib.Seq: some words in place of others.
--
-- In this order: a part of a front; two pastes side by side; a move after a move, downwards and upwards; the words while a copy upwards has k words to go
-- (rising), and a turn of it; all words from a place up to the last that is in use moved up, moved down (moved).
--
-- Assumes nothing.
use mathlib.Core.Path.{◌≡◌, refl, sym, ap, ◌∙◌}
use mathlib.Core.List.{List, ◌++◌, append_assoc}
use Prim.Native.Nat.{ℕ, ◌+◌, ◌-◌, ◌≤◌}
use native.Mathlib.Omega.{arith}
use native.Mathlib.Nat.{add_assoc, le_refl}
use lib.ListN.{length, take, drop, replicate, length-take, length-drop, length-replicate}
use lib.ListN.{replicate-append-replicate}
use lib.Seq.{paste, take-paste, drop-paste, take_all, take-take, take-add, take-append-le, drop-drop, drop_at}
use lib.Seq.{length-take-le, length-paste}
use Rattle.std.proofs.lemmas.List.{drop-replicate, drop-take}

part_front : (w : List ℕ) (j m n : ℕ) → n ≡ j + m → take m (drop j w) ≡ drop j (take n w)
part_front w j m n e = rw (e, drop-take)

-- ---- a paste beside a paste

module _ (d : List ℕ) (at : ℕ) (s : List ℕ) (k : ℕ) (room : at + k ≤ length d) (enough : k ≤ length s) where
  paste_take : (n : ℕ) → n ≤ at → take n (paste d at s k) ≡ take n d
  paste_take n le =
      ap (take n) (append_assoc (take at d) (take k s) (drop (at + k) d))
      ∙ take-append-le n (take at d) (take k s ++ drop (at + k) d) (rw length-take (omega arith))
      ∙ take-take n at d le

  paste_drop : (m : ℕ) → drop (at + k + m) (paste d at s k) ≡ drop (at + k + m) d
  paste_drop m =
      sym (drop-drop m (at + k) (paste d at s k))
      ∙ ap (drop m) (drop-paste d at s k (omega arith) enough)
      ∙ drop-drop m (at + k) d

-- two pastes side by side are one, in either order
module _ (d : List ℕ) (at : ℕ) (s : List ℕ) (k m : ℕ) (room : at + (k + m) ≤ length d) (enough : k + m ≤ length s) where
  paste_behind : paste (paste d at s k) (at + k) (drop k s) m ≡ paste d at s (k + m)
  paste_behind =
      rw (take-paste d at s k (omega arith) (omega arith), paste_drop d at s k (omega arith) (omega arith) m, take-add k m s, add_assoc at k m)
      (simp append_assoc)

  paste_before : paste (paste d (at + k) (drop k s) m) at s k ≡ paste d at s (k + m)
  paste_before =
      let p : List ℕ = take (at + k) d in
      let r : List ℕ = take m (drop k s) ++ drop (at + k + m) d in
      let back : drop (at + k) (p ++ r) ≡ r = drop_at p r (at + k) (length-take-le (at + k) d (omega arith)) in
      rw (paste_take d (at + k) (drop k s) m (omega arith) (rw length-drop (omega arith)) at (omega arith))
      (rw (append_assoc p (take m (drop k s)) (drop (at + k + m) d), back, take-add k m s, add_assoc at k m) (simp append_assoc))

-- ---- a move after a move: what the second one reads is still as it was

module _ (d : List ℕ) (to from k m n : ℕ) (both : k + m ≡ n) (t u : List ℕ) where
  -- k words moved down, then m more behind them
  pub down_more : to ≤ from → from + n ≤ length d → t ≡ paste d to (drop from d) k → u ≡ paste t (to + k) (drop (from + k) t) m
      → u ≡ paste d to (drop from d) n
  down_more le fits is next =
      let e : to + k + (from - to) ≡ from + k = omega arith in
      let enough : k + m ≤ length (drop from d) = rw length-drop (omega arith) in
      let same : drop (from + k) (paste d to (drop from d) k) ≡ drop k (drop from d) =
      rw e at (paste_drop d to (drop from d) k (omega arith) (omega arith) (from - to)) ∙ sym (drop-drop k from d) in
      next ∙ rw (is, same, ← both) (paste_behind d to (drop from d) k m (omega arith) enough)

  -- m words moved up, then the k before them
  pub up_more : from ≤ to → to + n ≤ length d → t ≡ paste d (to + k) (drop (from + k) d) m → u ≡ paste t to (drop from t) k
      → u ≡ paste d to (drop from d) n
  up_more le fits is next =
      let s : List ℕ = drop from d in
      let enough : k + m ≤ length s = rw length-drop (omega arith) in
      let behind : m ≤ length (drop k s) = rw length-drop (omega arith) in
      let so : t ≡ paste d (to + k) (drop k s) m = rw drop-drop is in
      let long : length t ≡ length d = rw so (length-paste d (to + k) (drop k s) m (omega arith) behind) in
      let same : take k (drop from t) ≡ take k s =
      part_front t from k (from + k) refl
      ∙ ap (drop from) (rw so (paste_take d (to + k) (drop k s) m (omega arith) behind (from + k) (omega arith)))
      ∙ sym (part_front d from k (from + k) refl) in
      next ∙ rw (same, so, ← both) (paste_before d to s k m (omega arith) enough)

-- ---- the loops

module _ (d : List ℕ) (to from len : ℕ) where
  abbrev pub rising : ℕ → List ℕ
  rising k = paste d (to + k) (drop (from + k) d) (len - k)

  pub rising_next : (k m : ℕ) (t u : List ℕ) → from ≤ to → to + len ≤ length d → k + m ≤ len → t ≡ rising (k + m)
      → u ≡ paste t (to + k) (drop (from + k) t) m → u ≡ rising k
  rising_next k m t u le fits lt is next =
      up_more d (to + k) (from + k) m (len - (k + m)) (len - k) (omega arith) t u (omega arith) (omega arith) (is ∙ simp add_assoc) next

-- ---- all words from a place up to the last that is in use, moved

-- the words w up to `to`, then those from `from` up to `end`, then zeros
abbrev pub moved : List ℕ → ℕ → ℕ → ℕ → List ℕ
moved w to from end = take to w ++ (drop from (take end w) ++ replicate (length w - (to + (end - from))) 0)

module _ (w : List ℕ) (to from end : ℕ) (low : from ≤ end) (high : end ≤ length w) (behind : drop end w ≡ replicate (length w - end) 0) where
  zeros_behind : (m : ℕ) → end ≤ m → drop m w ≡ replicate (length w - m) 0
  zeros_behind m le =
      let k : ℕ = m - end in
      let e : end + k ≡ m = omega arith in
      let f : length w - end - k ≡ length w - m = omega arith in
      let d : drop k (drop end w) ≡ replicate (length w - m) 0 = rw (behind, ← f) (drop-replicate k (length w - end) 0) in
      rw e at (sym (drop-drop k end w) ∙ d)

  -- a move up goes over zeros
  pub up_moved : from ≤ to → to + (end - from) ≤ length w → paste w to (drop from w) (end - from) ≡ moved w to from end
  up_moved le room =
      append_assoc (take to w) (take (end - from) (drop from w)) (drop (to + (end - from)) w)
      ∙ rw (part_front w from (end - from) end (omega arith), zeros_behind (to + (end - from)) (omega arith))

  -- a move down leaves words behind, which are cleared
  module _ (le : to ≤ from) (x : List ℕ) (is : x ≡ paste w to (drop from w) (end - from)) where
    enough : end - from ≤ length (drop from w)
    enough = rw length-drop (omega arith)

    front : take (to + (end - from)) x ≡ take to w ++ drop from (take end w)
    front = rw (is, ← part_front w from (end - from) end (omega arith)) (take-paste w to (drop from w) (end - from) (omega arith) enough)

    back : drop (to + (end - from) + (from - to)) x ≡ replicate (length w - end) 0
    back =
        let e : to + (end - from) + (from - to) ≡ end = omega arith in
        rw (is, paste_drop w to (drop from w) (end - from) (omega arith) enough (from - to), e) behind

    pub down_moved : paste x (to + (end - from)) (replicate (from - to) 0) (from - to) ≡ moved w to from end
    down_moved =
        let e : from - to + (length w - end) ≡ length w - (to + (end - from)) = omega arith in
        let r : List ℕ = replicate (from - to) 0 in
        let all : take (from - to) r ≡ r = take_all (from - to) r (rw length-replicate (le_refl (from - to))) in
        rw (all, front, back, ← e, ← replicate-append-replicate {A = ℕ} (from - to) (length w - end) 0) (simp append_assoc)
