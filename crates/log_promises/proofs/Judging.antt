-- What specs/Logs.antt says of the judgement of a log.
--
--   records_append, first_records_lem, first_length, first_agreed  the records of some blocks, and of more
--   In r g, record_in       which of the first g blocks the record r is in
--   Says bs v               what the judgement v says of the blocks bs
--   good, these             how many blocks are good, and their records
--   says_none, says_damaged, says_differs, says_agrees, says_some, judged_says   what a log is judged is so
--   damaged_some, damaged_judged, differs_judged, agrees_judged                  what is so is what it is judged
--   log_damaged, log_differs, log_agrees                                   the statements
--
-- Not here: the judgement by two numbers (JudgingLaws).
use Prim.Native.Nat.{ℕ, zero, suc, ◌+◌, ◌-◌, ◌≤◌, ◌<◌, min}
use mathlib.Core.Bool.{Bool, true, false, cond}
use mathlib.Core.List.{List, [], ◌∷◌, ◌++◌, append_assoc}
use mathlib.Core.Path.{◌≡◌, refl, sym, ap, subst, ◌∙◌}
use native.Mathlib.Nat.{zero-add}
use native.Mathlib.Omega.{arith}
use lib.Dec.{ltb}
use lib.ListN.{length, take, drop, length-append}
use lib.Seq.{take-add, take_all, take-length}
use borrow.Author.Tests.{ltb-true, ltb-false, lt-ltb, le-ltb}
use Rattle.log_blocks.specs.Blocks.{records_in}
use Rattle.log_blocks.specs.declared.records.Record.{Record}
use Rattle.log_judge.specs.declared.Fault.TheVariants as fault
use Rattle.std.proofs.Common.{Ok, Err}
use Rattle.log_judge.specs.Judged.{Verdict, Agrees, Differs, Damaged, judged_from, judged}
use Rattle.log_play.specs.Playing.{no_file}
use Rattle.log_promises.specs.Logs.{records_of_all, first_records, left_by}
use Rattle.log_promises.specs.Logs.{DamagedAt, DiffersAt, AgreesWith, LogDamaged, LogDiffers, LogAgrees}
use Rattle.log_promises.proofs.JudgingLaws.{goods, goods_at, judged_is}
use Rattle.log_promises.proofs.PlayedLaws.{first_le, first_is, agreed, agreed_first, agreed_front}
use Rattle.pages.proofs.Numbers.{split}

-- ---- the three judgements

records_append : (bs cs : List (List ℕ)) → records_of_all (bs ++ cs) ≡ records_of_all bs ++ records_of_all cs
unfolding records_of_all
records_append [] cs = refl
records_append (b ∷ bs) cs = rw (records_append bs cs) (sym (append_assoc (records_in b) (records_of_all bs) (records_of_all cs)))

abbrev Says : List (List ℕ) → Verdict → Type 0
Says bs (Err (fault.Damaged B)) = DamagedAt bs B
Says bs (Err (fault.Differs R)) = DiffersAt bs R
Says bs (Ok a) = AgreesWith bs a.records a.end

says_none : DamagedAt [] 0
unfolding records_of_all
says_none =
    record { before = λ i h. absurd (omega arith); bad = λ g. omega (arith, g.0); there = λ h. h; agree = λ r h. absurd (omega arith) }

module _ (bs : List (List ℕ)) where
  -- the records of the first j of g blocks come first
  first_records_lem : (j g : ℕ) → j ≤ g → first_records g bs ≡ first_records j bs ++ records_of_all (take (g - j) (drop j bs))
  first_records_lem j g h =
      let e : g ≡ j + (g - j) = omega arith in
      ap records_of_all (ap (λ k. take k bs) e ∙ take-add j (g - j) bs) ∙ records_append (take j bs) (take (g - j) (drop j bs))

  first_length : (j g : ℕ) → j ≤ g → length (first_records j bs) ≤ length (first_records g bs)
  first_length j g h = rw (first_records_lem j g h) (simp length-append (omega arith))

  first_agreed : (j g : ℕ) → j ≤ g → agreed no_file (first_records j bs) ≡ min (agreed no_file (first_records g bs)) (length (first_records j bs))
  first_agreed j g h = rw (first_records_lem j g h) (agreed_front no_file (first_records j bs) _)

  -- which block the record r is in
  record In (r g : ℕ) : Type 0 where
    block : ℕ
    below : block < g
    from : length (first_records block bs) ≤ r
    to : r < length (first_records (suc block) bs)

  record_in : (r g : ℕ) → r < length (first_records g bs) → In r g
  unfolding records_of_all
  record_in r zero h = absurd (omega arith)
  record_in r (suc g) h =
      split (length (first_records g bs)) r (λ l. record { block = g; below = omega arith; from = l; to = h })
      (λ l. let x = record_in r g l in record { block = x.block; below = omega (arith, x.below); from = x.from; to = x.to })

  abbrev good : ℕ
  good = goods 0 bs

  abbrev these : List Record
  these = first_records good bs

  says_damaged : length these ≤ agreed no_file these → good < length bs → DamagedAt bs good
  says_damaged full h =
      let first = goods_at bs in
      record { before = first.before; bad = first.stops; there = λ s. h; agree = λ r l. (agreed_first no_file these).before r (omega arith) }

  says_differs : agreed no_file these < length these → DiffersAt bs (agreed no_file these)
  says_differs h =
      let x = record_in (agreed no_file these) good h in
      let rs = first_records (suc x.block) bs in
      let same : agreed no_file rs ≡ agreed no_file these = omega (arith, first_agreed (suc x.block) good x.below, x.to) in
      record {
        block = x.block;
        good = λ i l. (goods_at bs).before i (omega (arith, x.below));
        from = x.from;
        to = x.to;
        before = λ r l. (agreed_first no_file rs).before r (omega arith);
        differs = λ a. (agreed_first no_file rs).stops (rw same a);
      }

  says_agrees : length these ≤ agreed no_file these → length bs ≤ good → 0 < length bs
      → AgreesWith bs (length these) (left_by no_file these).space.end
  says_agrees full h some =
      let e : these ≡ records_of_all bs = ap records_of_all (take_all good bs h) in
      record {
        some = some;
        good = λ i l. (goods_at bs).before i (omega arith);
        agree = λ r l. rw e at ((agreed_first no_file these).before r (omega (arith, ap (λ rs. length rs) e)));
        count = ap (λ rs. length rs) e;
        end = ap (λ rs. (left_by no_file rs).space.end) e;
      }

  says_some : 0 < length bs → Says bs (judged bs)
  says_some some =
      subst (Says bs) (sym (judged_is 0 0 no_file bs (omega arith)))
      (go (ltb (agreed no_file these) (length these)) refl (ltb good (length bs)) refl)
    where
      go : (t : Bool) → ltb (agreed no_file these) (length these) ≡ t → (u : Bool) → ltb good (length bs) ≡ u
          → Says bs (cond t (Differs (0 + agreed no_file these))
          (cond u (Damaged (0 + good)) (Agrees (0 + length these) (left_by no_file these).space.end)))
      go true e u d = rw zero-add (says_differs (ltb-true _ _ e))
      go false e true d = rw zero-add (says_damaged (ltb-false _ _ e) (ltb-true _ _ d))
      go false e false d = rw zero-add (says_agrees (ltb-false _ _ e) (ltb-false _ _ d) some)

  damaged_some : (B : ℕ) → DamagedAt bs B → 0 < length bs → judged bs ≡ Damaged B
  damaged_some B d some =
      let e : good ≡ B = first_is (goods_at bs) B d.before d.bad in
      let rs = first_records B bs in
      let full = first_le (agreed_first no_file rs) (length rs) d.agree in
      judged_is 0 0 no_file bs (omega arith) ∙ rw (e, le-ltb (agreed no_file rs) (length rs) full, lt-ltb B (length bs) (d.there some), zero-add)

  differs_judged : (R : ℕ) → DiffersAt bs R → judged bs ≡ Differs R
  differs_judged R d =
      let rs = first_records (suc d.block) bs in
      let le : suc d.block ≤ good = first_le (goods_at bs) (suc d.block) (λ i h. d.good i (omega arith)) in
      let first : agreed no_file rs ≡ R = first_is (agreed_first no_file rs) R d.before d.differs in
      let same : agreed no_file these ≡ R = omega (arith, first_agreed (suc d.block) good le, d.to) in
      let lt : R < length these = omega (arith, first_length (suc d.block) good le, d.to) in
      judged_is 0 0 no_file bs (omega (arith, (d.good 0 (omega arith)).0)) ∙ rw (same, lt-ltb R (length these) lt, zero-add)

  agrees_judged : (R E : ℕ) → AgreesWith bs R E → judged bs ≡ Agrees R E
  agrees_judged R E d =
      let rs = records_of_all bs in
      let e : good ≡ length bs = first_is (goods_at bs) (length bs) d.good (λ g. omega (arith, g.0)) in
      let full = first_le (agreed_first no_file rs) (length rs) d.agree in
      judged_is 0 0 no_file bs (omega (arith, d.some))
      ∙ rw (e, take-length bs, le-ltb (agreed no_file rs) (length rs) full, le-ltb (length bs) (length bs) (omega arith), zero-add, ← d.count, ← d.end)

judged_says : (bs : List (List ℕ)) → Says bs (judged bs)
unfolding judged_from
judged_says [] = says_none
judged_says (b ∷ bs) = says_some (b ∷ bs) (omega arith)

damaged_judged : (bs : List (List ℕ)) (B : ℕ) → DamagedAt bs B → judged bs ≡ Damaged B
unfolding judged_from goods
damaged_judged [] B d = ap Damaged (first_is (goods_at []) B d.before d.bad)
damaged_judged (b ∷ bs) B d = damaged_some (b ∷ bs) B d (omega arith)

pub log_damaged : LogDamaged
log_damaged = record { is = λ bs B e. subst (Says bs) e (judged_says bs); of = damaged_judged }

pub log_differs : LogDiffers
log_differs = record { is = λ bs R e. subst (Says bs) e (judged_says bs); of = differs_judged }

pub log_agrees : LogAgrees
log_agrees = record { is = λ bs R E e. subst (Says bs) e (judged_says bs); of = agrees_judged }
