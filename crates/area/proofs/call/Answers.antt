-- `area::call` meets its contract: it is refused where the length is no area's, and else `area_calls::call` on a table of the area's length.
use Rattle.area_calls.proofs.CallLaws.{told_other}
use Rattle.area.proofs.LentLaws.{head_within, lent_within, lent_long, lent}
use Rattle.pages.proofs.Numbers.{fails}
use Rattle.area.proofs.call.Goals as goal

pub returns-then-not-is_area_length : goal.returns-then-not-is_area_length
returns-then-not-is_area_length c = let a = c.args in told_other a.asked a.area.now (fails c.is_area_length.ensures c.if-not-is_area_length.true)

pub table_words-k-requires : goal.table_words-k-requires
table_words-k-requires c =
    head_within c.args.area.now c.zero_words-words.result c.zero_words-words.ensures c.is_area_length.ensures c.if-not-is_area_length.false

pub slice_bounds-words-end : goal.slice_bounds-words-end
slice_bounds-words-end c =
    lent_within c.args.area.now c.zero_words-words.result c.zero_words-words.ensures c.is_area_length.ensures c.if-not-is_area_length.false c.table_words-k.ensures

pub slice_bounds-call-end : goal.slice_bounds-call-end
slice_bounds-call-end c =
    lent_long c.args.area.now _ c.zero_words-words.ensures c.is_area_length.ensures c.if-not-is_area_length.false c.table_words-k.ensures

pub call-requires : goal.call-requires
call-requires c =
    lent c.args.area.now _ c.zero_words-words.ensures c.is_area_length.ensures c.if-not-is_area_length.false c.table_words-k.ensures
