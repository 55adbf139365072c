-- `log_blocks::is_block` meets its contract: the first rule that is broken decides, and then the check.
use mathlib.Core.Path.{◌∙◌, sym}
use Rattle.pages.proofs.Numbers.{passes, fails}
use Rattle.log_blocks.proofs.BlockLaws.{short_block, no_records, many_records, head_not, records_not, behind_not}
use Rattle.log_blocks.proofs.BlockLaws.{zerob_all, Kept, block_checked}
use Rattle.log_blocks.proofs.is_block.Goals as goal

pub returns-then-block-ne-BLOCK_BYTES : goal.returns-then-block-ne-BLOCK_BYTES
returns-then-block-ne-BLOCK_BYTES c = short_block c.args.number c.args.block.now c.if-block-ne-BLOCK_BYTES.true

pub returns-then-count-lt1 : goal.returns-then-count-lt1
returns-then-count-lt1 c = no_records c.args.number c.args.block.now c.count-count.ensures c.if-count-lt1.true

pub returns-then-count-gt-MOST_RECORDS : goal.returns-then-count-gt-MOST_RECORDS
returns-then-count-gt-MOST_RECORDS c = many_records c.args.number c.args.block.now c.count-count.ensures c.if-count-gt-MOST_RECORDS.true

pub returns-then-get_part-ne0 : goal.returns-then-get_part-ne0
returns-then-get_part-ne0 c = head_not c.args.number c.args.block.now c.get_part.ensures c.if-get_part-ne0.true

pub returns-then-not-are_records : goal.returns-then-not-are_records
returns-then-not-are_records c =
    let a = c.args in
    let no = fails c.are_records.ensures c.if-not-are_records.true in
    records_not a.number a.block.now (rw c.count-count.ensures at no)

pub returns-then-not-is_zero : goal.returns-then-not-is_zero
returns-then-not-is_zero c =
    let a = c.args in
    let no = fails c.is_zero.ensures c.if-not-is_zero.true in
    behind_not a.number a.block.now (rw (zerob_all, c.count-count.ensures) at no)

pub returns : goal.returns
returns c =
    let a = c.args in
    let count = c.count-count.ensures in
    let records = passes c.are_records.ensures c.if-not-are_records.false in
    let behind = passes c.is_zero.ensures c.if-not-is_zero.false in
    let kept : Kept a.number a.block.now
    = record {
      full = c.if-block-ne-BLOCK_BYTES.false;
      number = cc;
      some = rw (← count) c.if-count-lt1.false;
      most = rw (← count) c.if-count-gt-MOST_RECORDS.false;
      head = sym c.get_part.ensures ∙ c.if-get_part-ne0.false;
      records = rw count at records;
      behind = rw (zerob_all, count) at behind;
    } in
    c.is_checked.ensures ∙ block_checked a.number a.block.now kept
