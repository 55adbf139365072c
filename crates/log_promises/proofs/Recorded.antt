-- The log of a run that was recorded is judged to agree: its blocks are good, and have the records of the run, which agree.
--
--   good_last, good_full    a block is good if it is the last one, or a full one
--   Many m rs               the records rs take m blocks
--   front_fills             the first of them fill a block; good-written, it is good
--   goods_written           so all blocks that are written are good, and have the records rs; length-blocks, they are m
--   log_judged              the blocks of records that are kept and agree
--   log_recorded            the statement
use Prim.Native.Nat.{ℕ, zero, suc, ◌+◌, ◌-◌, ◌*◌, ◌/◌, ◌^◌, ◌≤◌, ◌<◌}
use mathlib.Core.Bool.{Bool, true, false, ◌||◌}
use mathlib.Core.List.{List, [], ◌∷◌}
use mathlib.Core.Path.{◌≡◌, refl, sym, ap, ◌∙◌}
use native.Mathlib.Omega.{arith}
use lib.Dec.{eqb}
use lib.ListN.{length, take, drop, length-take, length-drop, take-append-drop}
use lib.Seq.{length-take-le}
use borrow.Author.Tests.{eq-eqb, ne_eqb}
use Rattle.demands.specs.Calls.{opens}
use Rattle.little.specs.Little.{byte_values}
use Rattle.log_blocks.specs.Blocks.{count_at, most_records, count_in, blockb}
use Rattle.log_blocks.specs.declared.records.Record.{Record}
use Rattle.log_judge.specs.Judged.{lastb, goodb}
use Rattle.log_play.specs.Playing.{File, no_file, Played}
use Rattle.log_promises.proofs.Judging.{log_agrees}
use Rattle.log_promises.proofs.JudgingLaws.{goods, goods_at}
use Rattle.log_promises.proofs.PlayedLaws.{agreed, agreed_first, played_left}
use Rattle.log_promises.proofs.RoomLaws.{opening_kept}
use Rattle.log_promises.proofs.RunLaws.{Agreeing, agreeing_played, opening_agrees, length_run}
use Rattle.log_promises.proofs.WritingLaws.{kept_take, kept_drop, count_read, block_read, block_good}
use Rattle.log_promises.specs.Logs.{records_of_all, left_by, AgreesWith, LogRecorded}
use Rattle.log_promises.specs.Recording.{block_of, blocks_from, log_of, Kept, Fills, records_of}
use Rattle.pages.proofs.Numbers.{both}

-- ---- a block

good_last : (i : ℕ) (b : List ℕ) → blockb i b ≡ true → goodb i b [] ≡ true
unfolding goodb lastb
good_last i b h = both _ _ h refl

good_full : (i : ℕ) (b : List ℕ) (bs : List (List ℕ)) → blockb i b ≡ true → count_in b ≡ most_records → goodb i b bs ≡ true
unfolding goodb
good_full i b bs h e = both _ _ h (either (lastb bs) (eq-eqb (count_in b) most_records e))
  where
    either : (s : Bool) {t : Bool} → t ≡ true → (s || t) ≡ true
    either true e = refl
    either false e = e

-- ---- the blocks that are written

record Many (m : ℕ) (rs : List Record) : Type 0 where
  enough : length rs ≤ m * most_records
  needed : m * most_records < length rs + most_records

front_fills : (m i : ℕ) (rs : List Record) → Many (suc m) rs → i < byte_values ^ count_at → Kept (eqb i 0) rs → Fills i (take most_records rs)
front_fills m i rs h l k =
    record {
      number = l;
      least = simp length-take (omega (arith, h.needed));
      most = simp length-take (omega arith);
      kept = kept_take most_records k;
    }

-- every block but the last is full
good_written : (m i : ℕ) (rs : List Record) → Many (suc m) rs → Fills i (take most_records rs)
    → goodb i (block_of i (take most_records rs)) (blocks_from m (suc i) (drop most_records rs)) ≡ true
unfolding blocks_from
good_written zero i rs h f = good_last i _ (block_good i _ f)
good_written (suc m) i rs h f = good_full i _ _ (block_good i _ f) (count_read i _ f ∙ length-take-le most_records rs (omega (arith, h.needed)))

goods_written : (m i : ℕ) (rs : List Record) → Many m rs → i + m ≤ byte_values ^ count_at → Kept (eqb i 0) rs
    → (goods i (blocks_from m i rs) ≡ m) × (records_of_all (blocks_from m i rs) ≡ rs)
unfolding goods blocks_from records_of_all
goods_written zero i [] h few k = (refl, refl)
goods_written zero i (r ∷ rs) h few k = absurd (omega (arith, h.enough))
goods_written (suc m) i rs h few k =
    let f = front_fills m i rs h (omega arith) k in
    let rest = drop most_records rs in
    let d = length-drop most_records rs in
    let many : Many m rest = record { enough = rw d (omega (arith, h.enough)); needed = rw d (omega (arith, h.needed)) } in
    let kept : Kept (eqb (suc i) 0) rest = rw (ne_eqb (suc i) 0 (λ z. omega arith)) (kept_drop (most_records - 1) k) in
    let next = goods_written m (suc i) rest many (omega arith) kept in
    (rw (good_written m i rs h f, next.0), rw (block_read i (take most_records rs) f, next.1) (take-append-drop most_records rs))

length_blocks : (m i : ℕ) (rs : List Record) → length (blocks_from m i rs) ≡ m
unfolding blocks_from
length_blocks zero i rs = refl
length_blocks (suc m) i rs = ap suc (length_blocks m (suc i) (drop most_records rs))

-- ---- records that agree

log_judged : (m : ℕ) {g : File} (rs : List Record) → 1 ≤ m → m ≤ byte_values ^ count_at → Many m rs → Kept true rs → Agreeing no_file rs g
    → AgreesWith (blocks_from m 0 rs) (length rs) g.space.end
log_judged m {g} rs some few many kept a =
    let w = goods_written m 0 rs many (omega arith) kept in
    let n = length_blocks m 0 rs in
    let p = agreeing_played a in
    let all : agreed no_file rs ≡ length rs = ap (λ (q : Played). q.agreed) p in
    let left : g ≡ left_by no_file rs = sym (ap (λ (q : Played). q.file) p) ∙ played_left no_file rs (omega arith) in
    record {
      some = rw n some;
      good = λ i l. (goods_at (blocks_from m 0 rs)).before i (omega (arith, w.0, n));
      agree = λ r l. rw w.1 ((agreed_first no_file rs).before r (omega (arith, rw w.1 at l)));
      count = rw w.1;
      end = rw w.1 (ap (λ (f : File). f.space.end) left);
    }

pub log_recorded : LogRecorded
log_recorded C P M cs sp w long room opening on fits few =
    let rs = records_of C (opens P M ∷ cs) sp w in
    let m = (length rs + (most_records - 1)) / most_records in
    let l : length rs ≡ suc (length cs) = length_run C (opens P M ∷ cs) sp w in
    let many : Many m rs = record { enough = omega arith; needed = omega arith } in
    let kept = opening_kept C room P M cs sp w opening (λ c i. (on c i, fits c i)) in
    let agrees = log_judged m rs (omega arith) (omega arith) many kept (opening_agrees C P M cs sp w long on).1 in
    rw (← l) (log_agrees.of (log_of rs) (length rs) _ agrees)
