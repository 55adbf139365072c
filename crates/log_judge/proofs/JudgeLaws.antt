-- The laws of the judge: what it means after each step is what it meant before.
--
--   short_block, full_block   the judgement of a log whose first block is good, and has fewer than twelve records, or twelve
--   after-damage              behind damage any block leaves it so
--   after_last                a block that follows one with fewer than twelve records
--   after_settled             a block that follows a difference or damage
--   after_bad                 a block that breaks a rule
--   records_room              the counts stay far below 2^64
--   after_short, after_full   a good block
--   ends_none, ends_agreed, ends_settled   the judgement where nothing follows
use Prim.Native.Nat.{ℕ, suc, ◌+◌, ◌^◌, ◌≤◌, ◌<◌}
use mathlib.Core.Bool.{Bool, true, false, cond, not, ◌||◌}
use mathlib.Core.List.{List, [], ◌∷◌}
use mathlib.Core.Path.{◌≡◌, refl, sym, ap, ◌∙◌}
use native.Mathlib.Numerals.{add-one}
use native.Mathlib.Omega.{arith}
use lib.Dec.{eqb, ltb}
use lib.ListN.{drop}
use Rattle.log_blocks.specs.Blocks.{records_at, most_records, count_in, records_in, blockb}
use Rattle.log_blocks.specs.Records.{records_from}
use Rattle.log_judge.specs.Carried.{Standing, stands, means, stands_after, damaged_after, someb, Going, Fits, Follows, Ends}
use Rattle.log_judge.specs.Judged.{Verdict, Agrees, Differs, Damaged, lastb, goodb, judged_from}
use Rattle.log_judge.specs.declared.Judge.{Judge}
use Rattle.log_judge.specs.declared.Fault.TheVariants as fault
use Rattle.std.proofs.Common.{Ok, Err}
use Rattle.log_play.specs.Lent.{FileFits, file_in, played_in}
use Rattle.log_play.specs.Playing.{File, Played, played}
use Rattle.log_play.specs.declared.Run.{Run}
use Rattle.log_blocks.proofs.BlockLaws.{block_number, block_most}
use Rattle.little.specs.Little.{Bytes}
use Rattle.pages.proofs.Numbers.{not_both}
use borrow.Author.Tests.{eq-eqb, ne_eqb}

-- ---- the judgement of one block more

bad_block : (i n : ℕ) (f : File) (b : List ℕ) (bs : List (List ℕ)) → blockb i b ≡ false → judged_from i n f (b ∷ bs) ≡ Damaged i
unfolding judged_from goodb
bad_block i n f b bs e = rw e refl

-- a difference decides, and else the rest
by_agreed : (n a k : ℕ) (v : Verdict) → cond (ltb a k) (Differs (n + a)) v ≡ stands (stands_after n a k) v
by_agreed n a k v = go (ltb a k)
  where
    go : (t : Bool) → cond t (Differs (n + a)) v ≡ stands (cond t (Err (fault.Differs (n + a))) (Ok tt)) v
    go true = refl
    go false = refl

-- of a good block, with its records played: the rest decides, where it may follow
good_block : (i n : ℕ) (f : File) (b : List ℕ) (bs : List (List ℕ)) {p : Played} → blockb i b ≡ true → p ≡ played f (records_in b)
    → judged_from i n f (b ∷ bs)
    ≡ cond (lastb bs || eqb (count_in b) most_records)
    (stands (stands_after n p.agreed (count_in b)) (judged_from (suc i) (n + count_in b) p.file bs)) (Damaged i)
unfolding judged_from goodb
good_block i n f b bs {p} e q =
    rw (e, ← q) (ap (λ v. cond (lastb bs || eqb (count_in b) most_records) v (Damaged i)) (by_agreed n p.agreed (count_in b) _))

-- where nothing follows, a block was seen
last_block : (i n : ℕ) (f : File) → judged_from (suc i) n f [] ≡ Agrees n f.space.end
unfolding judged_from
last_block i n f = rw (ne_eqb (suc i) 0 (λ e. omega arith)) refl

pub short_block : (i n : ℕ) (f : File) (b : List ℕ) (bs : List (List ℕ)) {p : Played} → blockb i b ≡ true → p ≡ played f (records_in b)
    → count_in b < most_records
    → cond (lastb bs) (stands (stands_after n p.agreed (count_in b)) (Agrees (n + count_in b) p.file.space.end)) (Damaged i)
    ≡ judged_from i n f (b ∷ bs)
unfolding lastb
short_block i n f b [] {p} e q h =
    sym (good_block i n f b [] e q ∙ ap (stands (stands_after n p.agreed (count_in b))) (last_block i (n + count_in b) p.file))
short_block i n f b (d ∷ bs) {p} e q h =
    let few = ne_eqb (count_in b) most_records (λ k. omega arith) in
    sym (good_block i n f b (d ∷ bs) e q ∙ rw few refl)

pub full_block : (i n : ℕ) (f : File) (b : List ℕ) (bs : List (List ℕ)) {p : Played} → blockb i b ≡ true → p ≡ played f (records_in b)
    → count_in b ≡ most_records
    → stands (stands_after n p.agreed (count_in b)) (judged_from (i + 1) (n + count_in b) p.file bs) ≡ judged_from i n f (b ∷ bs)
full_block i n f b bs {p} e q h =
    let full = eq-eqb (count_in b) most_records h in
    let any : (t : Bool) → (t || true) ≡ true = λ t. or_true t in
    sym (good_block i n f b bs e q ∙ rw (full, any (lastb bs), add-one) refl)
  where
    or_true : (t : Bool) → (t || true) ≡ true
    or_true true = refl
    or_true false = refl

-- ---- the judge behind one block more

damage_kept : (j : Judge) (v : List ℕ) (bs : List (List ℕ)) → means (damaged_after j) v bs ≡ Damaged j.blocks
damage_kept j v bs = go j.last (lastb bs)
  where
    go : (s t : Bool) → cond s (cond t (Damaged j.blocks) (Damaged j.blocks)) (Damaged j.blocks) ≡ Damaged j.blocks
    go true true = refl
    go true false = refl
    go false t = refl

-- what fits, behind damage
pub fits_damaged : (j : Judge) → Fits j → Fits (damaged_after j)
fits_damaged j h = record { file = h.file; blocks = h.blocks; records = h.records }

pub after_last : (j : Judge) (w v : List ℕ) (b : List ℕ) → Fits j → j.last ≡ true → Follows j w (b ∷ []) (damaged_after j) v
unfolding lastb
after_last j w v b h e = record { meaning = λ bs. damage_kept j v bs ∙ rw e refl; fits = fits_damaged j h }

-- all agree so far, and a block may follow: the rest decides
going_means : (j : Judge) (w : List ℕ) (bs : List (List ℕ)) → Going j → means j w bs ≡ judged_from j.blocks j.records (file_in j.file w) bs
going_means j w bs g = rw (g.open_end, g.agrees) refl

pub after_bad : (j : Judge) (w v : List ℕ) (b : List ℕ) → Fits j → Going j → blockb j.blocks b ≡ false → Follows j w (b ∷ []) (damaged_after j) v
after_bad j w v b h g e =
    record {
      meaning = λ bs.
          damage_kept j v bs ∙ sym (going_means j w (b ∷ bs) g ∙ bad_block j.blocks j.records (file_in j.file w) b bs e);
      fits = fits_damaged j h;
    }

-- a difference or damage that stands
pub after_settled : (j : Judge) (w v : List ℕ) (b : List ℕ) (s : Standing) {r : Verdict} → Fits j → j.last ≡ false → j.standing ≡ s
    → ((x : Verdict) → stands s x ≡ r) → Follows j w (b ∷ []) j v
after_settled j w v b s h e f g = record { meaning = λ bs. rw (e, f) (g _ ∙ sym (g _)); fits = h }

-- the counts stay far below 2^64
pub records_room : (j : Judge) → Fits j → Going j → j.records + most_records < 2 ^ 63
records_room j h g = omega (arith, h.records g.open_end, h.blocks)

-- a good block b of k records, played by the run r over the words w, which are v then
module _ (j : Judge) (w v b : List ℕ) (h : Fits j) (g : Going j) (good : blockb j.blocks b ≡ true) {k : ℕ} (counts : k ≡ count_in b) (r : Run)
    (plays : played_in r v ≡ played (file_in j.file w) (records_from k (drop records_at b))) (fits : FileFits r.file)
    {s : Standing} (is : s ≡ stands_after j.records r.agreed k) where
  abbrev f : File
  f = file_in j.file w

  pub after_short : k < most_records
      → Follows j w (b ∷ []) (record { standing = s; blocks = j.blocks; records = j.records + k; last = true; file = r.file }) v
  after_short few =
      record {
        meaning = λ bs.
            rw (is, counts) (short_block j.blocks j.records f b bs good (rw counts at plays) (rw counts at few)) ∙ sym (going_means j w (b ∷ bs) g);
        fits = record { file = fits; blocks = h.blocks; records = λ e. absurd (not_both refl e) };
      }

  pub after_full : Bytes b → most_records ≤ k
      → Follows j w (b ∷ []) (record { standing = s; blocks = j.blocks + 1; records = j.records + k; last = false; file = r.file }) v
  after_full bytes many =
      let most = block_most j.blocks b good in
      let full : count_in b ≡ most_records = omega (arith, many, counts, most) in
      record {
        meaning = λ bs.
            rw (is, counts) (full_block j.blocks j.records f b bs good (rw counts at plays) full) ∙ sym (going_means j w (b ∷ bs) g);
        fits =
            record {
              file = fits;
              blocks = omega (arith, block_number j.blocks b bytes good);
              records = λ e. omega (arith, h.records g.open_end, counts, full);
            };
      }

-- ---- the judgement where nothing follows

pub ends_none : (j : Judge) → j.standing ≡ Ok tt → someb j ≡ false → Ends j (Damaged 0)
unfolding judged_from lastb
ends_none j e f w = rw e (go j.last (eqb j.blocks 0) f)
  where
    go : (s t : Bool) → (s || not t) ≡ false → Damaged 0 ≡ cond s (Agrees j.records j.file.space.end) (cond t (Damaged 0) (Agrees j.records j.file.space.end))
    go true t h = absurd (not_both refl h)
    go false true h = refl
    go false false h = absurd (not_both refl h)

pub ends_agreed : (j : Judge) → j.standing ≡ Ok tt → someb j ≡ true → Ends j (Agrees j.records j.file.space.end)
unfolding judged_from lastb
ends_agreed j e f w = rw e (go j.last (eqb j.blocks 0) f)
  where
    r : Verdict
    r = Agrees j.records j.file.space.end

    go : (s t : Bool) → (s || not t) ≡ true → r ≡ cond s r (cond t (Damaged 0) r)
    go true t h = refl
    go false true h = absurd (not_both h refl)
    go false false h = refl

pub ends_settled : (j : Judge) (s : Standing) {r : Verdict} → j.standing ≡ s → ((x : Verdict) → stands s x ≡ r) → Ends j r
unfolding lastb
ends_settled j s {r} e g w = rw (e, g (Agrees j.records j.file.space.end), g (judged_from j.blocks j.records (file_in j.file w) [])) (go j.last)
  where
    go : (t : Bool) → r ≡ cond t r r
    go true = refl
    go false = refl
