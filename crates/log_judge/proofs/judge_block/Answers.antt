-- `log_judge::judge_block` meets its contract: the block is bad, or it is good and its records are played.
use native.Mathlib.Omega.{arith}
use Rattle.log_blocks.proofs.BlockLaws.{block_full, block_most}
use Rattle.pages.proofs.Numbers.{passes, fails}
use Rattle.log_judge.proofs.JudgeLaws.{after_bad, records_room, after_short, after_full}
use Rattle.log_judge.proofs.judge_block.Goals as goal

pub returns-then-not-is_block : goal.returns-then-not-is_block
returns-then-not-is_block c =
    let a = c.args in
    rw c.damaged.ensures (after_bad a.judge a.table.now _ a.block.now c.requires.1.1 c.requires.0 (fails c.is_block.ensures c.if-not-is_block.true))

pub count-count-requires : goal.count-count-requires
count-count-requires c =
    let a = c.args in
    block_full a.judge.blocks a.block.now (passes c.is_block.ensures c.if-not-is_block.false)

pub play-run-requires : goal.play-run-requires
play-run-requires c =
    let a = c.args in
    let good = passes c.is_block.ensures c.if-not-is_block.false in
    let most = block_most a.judge.blocks a.block.now good in
    (block_full a.judge.blocks a.block.now good, (omega (arith, c.count-count.ensures, most), (c.requires.1.0, c.requires.1.1.file)))

pub stand-standing-requires : goal.stand-standing-requires
stand-standing-requires c =
    let a = c.args in
    let most = block_most a.judge.blocks a.block.now (passes c.is_block.ensures c.if-not-is_block.false) in
    omega (arith, records_room a.judge c.requires.1.1 c.requires.0, c.count-count.ensures, c.play-run.ensures.fits.1, most)

pub overflow_add-records : goal.overflow_add-records
overflow_add-records c =
    let a = c.args in
    let most = block_most a.judge.blocks a.block.now (passes c.is_block.ensures c.if-not-is_block.false) in
    omega (arith, records_room a.judge c.requires.1.1 c.requires.0, c.count-count.ensures, most)

pub returns-then-count-lt-MOST_RECORDS : goal.returns-then-count-lt-MOST_RECORDS
returns-then-count-lt-MOST_RECORDS c =
    let a = c.args in
    let run = c.play-run in
    after_short a.judge a.table.now _ a.block.now c.requires.1.1 c.requires.0 (passes c.is_block.ensures c.if-not-is_block.false) c.count-count.ensures run.result
    run.ensures.is run.ensures.fits.0 c.stand-standing.ensures c.if-count-lt-MOST_RECORDS.true

pub returns : goal.returns
returns c =
    let a = c.args in
    let run = c.play-run in
    after_full a.judge a.table.now _ a.block.now c.requires.1.1 c.requires.0 (passes c.is_block.ensures c.if-not-is_block.false) c.count-count.ensures run.result
    run.ensures.is run.ensures.fits.0 c.stand-standing.ensures (λ i. (c.type_inv.block i).fits) c.if-count-lt-MOST_RECORDS.false
