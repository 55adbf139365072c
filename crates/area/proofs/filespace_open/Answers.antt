-- `area::filespace_open` meets its contract: it is refused where the length is no area's, and else `area_calls::open` on a table of the area's length.
use mathlib.Core.Path.{sym}
use Rattle.area_calls.proofs.CallLaws.{in_other}
use Rattle.area.proofs.LentLaws.{head_within, lent_within, lent_long, lent}
use Rattle.pages.proofs.Numbers.{fails}
use Rattle.refusals.specs.AnswerNumbers.{out_of_range}
use Rattle.area.proofs.filespace_open.Goals as goal

pub returns-then-not-is_area_length : goal.returns-then-not-is_area_length
returns-then-not-is_area_length c = sym (in_other out_of_range c.args.area.now _ (fails c.is_area_length.ensures c.if-not-is_area_length.true))

pub table_words-k-requires : goal.table_words-k-requires
table_words-k-requires c =
    head_within c.args.area.now c.zero_words-words.result c.zero_words-words.ensures c.is_area_length.ensures c.if-not-is_area_length.false

pub slice_bounds-words-end : goal.slice_bounds-words-end
slice_bounds-words-end c =
    lent_within c.args.area.now c.zero_words-words.result c.zero_words-words.ensures c.is_area_length.ensures c.if-not-is_area_length.false c.table_words-k.ensures

pub slice_bounds-open-end : goal.slice_bounds-open-end
slice_bounds-open-end c =
    lent_long c.args.area.now _ c.zero_words-words.ensures c.is_area_length.ensures c.if-not-is_area_length.false c.table_words-k.ensures

pub open-requires : goal.open-requires
open-requires c =
    lent c.args.area.now _ c.zero_words-words.ensures c.is_area_length.ensures c.if-not-is_area_length.false c.table_words-k.ensures
