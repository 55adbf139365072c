-- What the judge carries from block to block, and what it means: the judgement, whatever blocks may follow.
--
--   Standing            how a log stands after some blocks: all agree so far, or its fault
--   stands s v          the judgement where a log stands as s: v, where all agree so far
--   ended j             the judgement where nothing follows
--   going j w bs        the judgement where the blocks bs follow, and a block may
--   means j w bs        the judgement where the blocks bs follow, with the words w in the lent table
--   stands_after n a k  how a log stands behind n records that agree, and a more of the next k
--   damaged_after j     the judge behind a block that is bad, or that follows the last one
--   someb j             any block was good
--   Going j             all agree so far, and a block may follow
--   most_blocks         a later block has no number of four bytes
--   Fits j              the words of j's file lie in the lent table, and no more blocks are counted than have a number
--   Starts j            j is the judge of a log of which no block was seen
--   Follows j w seen next v   what j with the words w means of the blocks seen and any others, next with the words v means of the others
--   Ends j r            r is the judgement where nothing follows
--
-- Assumes nothing.
use Rattle.std.specs.Prelude.{Bool, false, cond, not, ◌||◌, List, [], ◌++◌, ◌≡◌, ℕ, ◌+◌, ◌*◌, ◌^◌, ◌≤◌, ltb, eqb, Result, Ok, Err}
use Rattle.little.specs.Little.{byte_values}
use Rattle.log_blocks.specs.Blocks.{count_at, most_records}
use Rattle.log_judge.specs.Judged.{Verdict, Agrees, Damaged, lastb, judged_from, judged}
use Rattle.log_judge.specs.declared.Fault.{Fault}
use Rattle.log_judge.specs.declared.Judge.{Judge}
use Rattle.log_judge.specs.declared.Fault.TheVariants as fault
use Rattle.log_play.specs.Lent.{FileFits, file_in}

abbrev pub Standing : Type 0
Standing = Result (Unit {0}) Fault

abbrev pub stands : Standing → Verdict → Verdict
stands (Ok u) v = v
stands (Err f) v = Err f

abbrev pub ended : Judge → Verdict
ended j = stands j.standing (Agrees j.records j.file.space.end)

abbrev pub going : Judge → List ℕ → List (List ℕ) → Verdict
going j w bs = stands j.standing (judged_from j.blocks j.records (file_in j.file w) bs)

abbrev pub means : Judge → List ℕ → List (List ℕ) → Verdict
means j w bs = cond j.last (cond (lastb bs) (ended j) (Damaged j.blocks)) (going j w bs)

-- how a log stands behind n records that agree, and a more of the next k
abbrev pub stands_after : ℕ → ℕ → ℕ → Standing
stands_after n a k = cond (ltb a k) (Err (fault.Differs (n + a))) (Ok tt)

abbrev pub damaged_after : Judge → Judge
damaged_after j =
    record {
      standing = Err (fault.Damaged j.blocks);
      blocks = j.blocks;
      records = j.records;
      last = j.last;
      file = j.file;
    }

abbrev pub someb : Judge → Bool
someb j = j.last || not (eqb j.blocks 0)

-- ---- what the parts of the judge ask and ensure

abbrev pub most_blocks : ℕ
most_blocks = byte_values ^ count_at

pub record Going (j : Judge) : Type 0 where
  pub agrees : j.standing ≡ Ok tt
  pub open_end : j.last ≡ false

pub record Fits (j : Judge) : Type 0 where
  pub file : FileFits j.file
  pub blocks : j.blocks ≤ most_blocks
  pub records : j.last ≡ false → j.records ≤ j.blocks * most_records

pub record Starts (j : Judge) : Type 0 where
  pub meaning : (w : List ℕ) (bs : List (List ℕ)) → means j w bs ≡ judged bs
  pub fits : Fits j

pub record Follows (j : Judge) (w : List ℕ) (seen : List (List ℕ)) (next : Judge) (v : List ℕ) : Type 0 where
  pub meaning : (bs : List (List ℕ)) → means next v bs ≡ means j w (seen ++ bs)
  pub fits : Fits next

abbrev pub Ends : Judge → Verdict → Type 0
Ends j r = (w : List ℕ) → r ≡ means j w []
