-- A log is judged by two numbers: how many blocks are good before the first one that is not, and how many records of these blocks agree before the first
-- one that does not.
--
--   GoodFrom i bs j         GoodAt of specs/Logs.antt, with the numbers from i on
--   goods i bs              how many of the blocks bs are good, with the numbers from i on
--   goods_first, goods_at   it is the first block that is not good
--   said i n f bs g         the judgement, where g blocks are good
--   here                    how many records of the first block agree
--   said_here, said_on      one block more in front: one of its records does not agree; all of them agree
--   judged_next, judged_is  a log that has a block is judged so
--
-- Not here: laws of played records (PlayedLaws).
use Prim.Native.Nat.{ℕ, suc, ◌+◌, ◌≤◌, ◌<◌}
use mathlib.Core.Bool.{Bool, true, false, cond}
use mathlib.Core.List.{List, [], ◌∷◌, ◌++◌}
use mathlib.Core.Path.{◌≡◌, refl, sym, ◌∙◌}
use native.Mathlib.Nat.{zero-add, add-zero, add_assoc}
use native.Mathlib.Omega.{arith}
use lib.Dec.{ltb, leb-suc-suc}
use lib.ListN.{length, drop, get_or, length-append}
use borrow.Author.Tests.{lt-ltb, le-ltb, ne_eqb}
use Rattle.log_blocks.proofs.RecordLaws.{length_records}
use Rattle.log_blocks.specs.Blocks.{count_in, records_in}
use Rattle.log_judge.specs.Judged.{Verdict, Agrees, Differs, Damaged, goodb, judged_from}
use Rattle.log_play.specs.Playing.{File, played}
use Rattle.log_promises.specs.Logs.{GoodAt, records_of_all, first_records, left_by}
use Rattle.log_promises.proofs.PlayedLaws.{First, first_next, agreed, played_left, left_append, agreed_full, agreed_front}
use Rattle.pages.proofs.Numbers.{split, leb_same}

-- ---- blocks

abbrev GoodFrom : ℕ → List (List ℕ) → ℕ → Type 0
GoodFrom i bs j = (j < length bs) × (goodb (i + j) (get_or bs j []) (drop (suc j) bs) ≡ true)

unfoldable pub goods : ℕ → List (List ℕ) → ℕ
goods i [] = 0
goods i (b ∷ bs) = cond (goodb i b bs) (suc (goods (suc i) bs)) 0

goods_first : (i : ℕ) (bs : List (List ℕ)) → First (GoodFrom i bs) (goods i bs)
unfolding goods
goods_first i [] = record { before = λ r h. absurd (omega arith); stops = λ a. omega (arith, a.0) }
goods_first i (b ∷ bs) =
    let e : (j : ℕ) → i + suc j ≡ suc i + j = λ j. omega arith in
    first_next (goodb i b bs) ((λ g. rw add-zero at g.1), (λ g. (omega arith, rw add-zero g)))
    (λ j. ((λ g. (omega (arith, g.0), rw (e j) at g.1)), (λ g. (omega (arith, g.0), rw (e j) g.1))))
    (goods_first (suc i) bs)

pub goods_at : (bs : List (List ℕ)) → First (GoodAt bs) (goods 0 bs)
goods_at bs =
    let first = goods_first 0 bs in
    record {
      before = λ j h. let g = first.before j h in (g.0, rw zero-add at g.1);
      stops = λ g. first.stops (g.0, rw zero-add g.1);
    }

-- ---- the judgement

-- by the number g of good blocks
abbrev pub said : ℕ → ℕ → File → List (List ℕ) → ℕ → Verdict
said i n f bs g =
    let rs = first_records g bs in
    cond (ltb (agreed f rs) (length rs)) (Differs (n + agreed f rs))
    (cond (ltb g (length bs)) (Damaged (i + g)) (Agrees (n + length rs) (left_by f rs).space.end))

module _ (i n : ℕ) (f : File) (b : List ℕ) (bs : List (List ℕ)) where
  abbrev here : ℕ
  here = agreed f (records_in b)

  said_here : (g : ℕ) → here < length (records_in b) → said i n f (b ∷ bs) (suc g) ≡ Differs (n + here)
  unfolding records_of_all
  said_here g h =
      let ss = first_records g bs in
      let e : agreed f (records_in b ++ ss) ≡ here = omega (arith, agreed_front f (records_in b) ss) in
      rw (e, lt-ltb here (length (records_in b ++ ss)) (simp length-append (omega arith)))

  said_on : (g : ℕ) → length (records_in b) ≤ here → said i n f (b ∷ bs) (suc g) ≡ said (suc i) (n + count_in b) (played f (records_in b)).file bs g
  unfolding records_of_all
  said_on g h =
      let rs = records_in b in
      let ss = first_records g bs in
      let a = agreed (left_by f rs) ss in
      let more : ltb (length rs + a) (length rs + length ss) ≡ ltb a (length ss) =
      leb_same (suc (length rs + a)) (length rs + length ss) (suc a) (length ss) (λ h. omega arith) (λ h. omega arith) in
      let next : i + suc g ≡ suc i + g = omega arith in
      rw (played_left f rs h, agreed_full f rs ss h, left_append f rs ss, length-append rs ss, more, next, leb-suc-suc (suc g) (length bs))
      (rw (← add_assoc n (length rs) a, ← add_assoc n (length rs) (length ss), length_records (count_in b) _))

  judged_next : judged_from (suc i) (n + count_in b) (played f (records_in b)).file bs
      ≡ said (suc i) (n + count_in b) (played f (records_in b)).file bs (goods (suc i) bs)
      → judged_from i n f (b ∷ bs) ≡ said i n f (b ∷ bs) (goods i (b ∷ bs))
  unfolding judged_from goods records_of_all played
  judged_next then = go (goodb i b bs) refl
    where
      go : (t : Bool) → goodb i b bs ≡ t → judged_from i n f (b ∷ bs) ≡ said i n f (b ∷ bs) (goods i (b ∷ bs))
      go false e = rw e (rw (lt-ltb 0 (suc (length bs)) (omega arith), add-zero))
      go true e =
          let many : length (records_in b) ≡ count_in b = length_records (count_in b) _ in
          rw e
          (split (length (records_in b)) here
          (λ h. rw (le-ltb here (count_in b) (omega arith)) (then ∙ sym (said_on (goods (suc i) bs) h)))
          (λ h. rw (lt-ltb here (count_in b) (omega arith)) (sym (said_here (goods (suc i) bs) h))))

pub judged_is : (i n : ℕ) (f : File) (bs : List (List ℕ)) → 0 < i + length bs → judged_from i n f bs ≡ said i n f bs (goods i bs)
unfolding judged_from goods records_of_all played left_by
judged_is i n f [] h = rw (ne_eqb i 0 (λ e. omega arith), add-zero)
judged_is i n f (b ∷ bs) h = judged_next i n f b bs (judged_is (suc i) (n + count_in b) (played f (records_in b)).file bs (omega arith))
