-- The judgement of a log (request E6), over any list of blocks, each of any bytes.
--
--   Verdict             a judgement: of a log that agrees its records and its end of file, and else its fault
--   Agrees n e          n records agree, and e is the end of file behind them
--   Differs r           r is the first record that disagrees
--   Damaged b           b is the first bad block
--   lastb bs            nothing follows
--   goodb i b bs        the block b keeps every rule as the block with the number i, with the blocks bs behind it: where any follows it is full
--   judged_from i n f bs the blocks bs judged, from the block i and the record n on, played on f
--   judged bs           the log of the blocks bs judged
--   cut n bs            the first n blocks that the bytes bs are cut into
--   blocks_of bs        all of them: 512 bytes each, but for the last
--
-- A block that is not good is damage; then the first record of it that does not agree is a difference; and else the next block decides. A log without a
-- block is damage of block 0. Assumes nothing.
use Rattle.std.specs.Prelude.{Bool, true, false, cond, ◌&&◌, ◌||◌, List, [], ◌∷◌, ℕ, zero, suc, ◌+◌, ◌-◌, ◌/◌, eqb, ltb, length, take, drop, Result, Ok, Err}
use Rattle.log_play.specs.Playing.{File, no_file, played}
use Rattle.log_judge.specs.declared.Agreement.{Agreement}
use Rattle.log_judge.specs.declared.Fault.{Fault}
use Rattle.log_judge.specs.declared.Fault.TheVariants as fault
use Rattle.log_blocks.specs.Blocks.{most_records, count_in, records_in, blockb}
use Rattle.log_check.specs.Check.{block_bytes}

-- ---- the judgements

abbrev pub Verdict : Type 0
Verdict = Result Agreement Fault

abbrev pub Agrees : ℕ → ℕ → Verdict
Agrees n e = Ok (record { records = n; end = e })

abbrev pub Differs : ℕ → Verdict
Differs r = Err (fault.Differs r)

abbrev pub Damaged : ℕ → Verdict
Damaged b = Err (fault.Damaged b)

-- ---- the judgement of blocks

unfoldable pub lastb : List (List ℕ) → Bool
lastb [] = true
lastb (b ∷ bs) = false

unfoldable pub goodb : ℕ → List ℕ → List (List ℕ) → Bool
goodb i b bs = blockb i b && (lastb bs || eqb (count_in b) most_records)

unfoldable pub judged_from : ℕ → ℕ → File → List (List ℕ) → Verdict
judged_from i n f [] = cond (eqb i 0) (Damaged 0) (Agrees n f.space.end)
judged_from i n f (b ∷ bs) =
    let p = played f (records_in b) in
    cond (goodb i b bs)
    (cond (ltb p.agreed (count_in b)) (Differs (n + p.agreed)) (judged_from (suc i) (n + count_in b) p.file bs))
    (Damaged i)

abbrev pub judged : List (List ℕ) → Verdict
judged bs = judged_from 0 0 no_file bs

-- ---- the bytes of a log

unfoldable pub cut : ℕ → List ℕ → List (List ℕ)
cut zero bs = []
cut (suc n) bs = take block_bytes bs ∷ cut n (drop block_bytes bs)

abbrev pub blocks_of : List ℕ → List (List ℕ)
blocks_of bs = cut ((length bs + (block_bytes - 1)) / block_bytes) bs
