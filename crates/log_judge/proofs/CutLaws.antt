-- The laws of a log that is cut into blocks.
--
--   blocks_none, blocks_next    no bytes have no block; some have one, and those of the bytes behind it
--   first_block                 the first block of some bytes, and those behind it
--   Left j w part i rest v      the blocks of the bytes `rest`, which i with the words v is to see, are left of those of `part` that j with w was to see
--   left_next, left_end        behind one more, none
use Prim.Native.Nat.{ℕ, suc, ◌+◌, ◌-◌, ◌/◌, ◌≤◌, ◌<◌, min}
use mathlib.Core.List.{List, [], ◌∷◌, ◌++◌, append-nil}
use mathlib.Core.Path.{◌≡◌, refl, sym, ap, ◌∙◌}
use native.Mathlib.Omega.{arith}
use lib.ListN.{length, take, drop, length-drop, drop_of_length-le}
use lib.Seq.{drop_at, take_at, take_all}
use Rattle.log_check.specs.Check.{block_bytes}
use Rattle.log_judge.specs.Carried.{means, Fits, Follows}
use Rattle.log_judge.specs.Judged.{cut, blocks_of}
use Rattle.log_judge.specs.declared.Judge.{Judge}
use Rattle.pages.proofs.Numbers.{split}

-- ---- blocks

pub blocks_none : blocks_of [] ≡ []
unfolding cut
blocks_none = refl

pub blocks_next : (bs : List ℕ) → 0 < length bs → blocks_of bs ≡ take block_bytes bs ∷ blocks_of (drop block_bytes bs)
unfolding cut
blocks_next bs h =
    let l = length-drop block_bytes bs in
    let n : (length bs + (block_bytes - 1)) / block_bytes ≡ suc ((length (drop block_bytes bs) + (block_bytes - 1)) / block_bytes) = omega (arith, h, l) in
    rw n refl

-- the first block x of the bytes `rest`, which is short where all of them are
first_block : (rest x after : List ℕ) → rest ≡ x ++ after → length x ≡ min block_bytes (length rest) → 0 < length rest → blocks_of rest ≡ x ∷ blocks_of after
first_block rest x after e l some = split block_bytes (length rest) whole short
  where
    whole : block_bytes ≤ length rest → blocks_of rest ≡ x ∷ blocks_of after
    whole h =
        let n : length x ≡ block_bytes = omega arith in
        let t : take block_bytes rest ≡ x = rw e (take_at x after block_bytes n) in
        let d : drop block_bytes rest ≡ after = rw e (drop_at x after block_bytes n) in
        blocks_next rest some ∙ rw (t, d)

    short : length rest < block_bytes → blocks_of rest ≡ x ∷ blocks_of after
    short h =
        let n : length rest ≤ length x = omega arith in
        let m : length rest ≤ block_bytes = omega arith in
        let same : drop (length x) rest ≡ after = rw e (drop_at x after (length x) refl) in
        let none : after ≡ [] = sym same ∙ drop_of_length-le rest n in
        let t : take block_bytes rest ≡ x = take_all block_bytes rest m ∙ e ∙ rw none (append-nil x) in
        let d : drop block_bytes rest ≡ after = drop_of_length-le rest m ∙ sym none in
        blocks_next rest some ∙ rw (t, d)

-- ---- the blocks that are left

pub record Left (j : Judge) (w part : List ℕ) (i : Judge) (rest v : List ℕ) : Type 0 where
  pub meaning : (bs : List (List ℕ)) → means i v (blocks_of rest ++ bs) ≡ means j w (blocks_of part ++ bs)
  pub fits : Fits i

pub left_next : {j : Judge} {w part : List ℕ} {i : Judge} {rest v : List ℕ} (x after : List ℕ) {next : Judge} {u : List ℕ} → Left j w part i rest v
    → rest ≡ x ++ after → length x ≡ min block_bytes (length rest) → 0 < length rest → Follows i v (x ∷ []) next u → Left j w part next after u
left_next {i = i} {rest} {v} x after l e m some f =
    record {
      meaning = λ bs. f.meaning (blocks_of after ++ bs) ∙ ap (λ ds. means i v (ds ++ bs)) (sym (first_block rest x after e m some)) ∙ l.meaning bs;
      fits = f.fits;
    }

pub left_end : {j : Judge} {w part : List ℕ} {i : Judge} (rest : List ℕ) {v : List ℕ} → Left j w part i rest v → length rest ≡ 0 → Follows j w (blocks_of part) i v
left_end rest l h =
    let none : rest ≡ [] = drop_of_length-le rest {i = 0} (omega arith) in
    record {
      meaning = λ bs. rw (none, blocks_none) at (l.meaning bs);
      fits = l.fits;
    }
