-- `area::filespace_allocate` meets its contract: it is refused where the result is too short; and else it is the call, whose address goes into the
-- result where it is done.
use mathlib.Core.Path.{sym}
use Rattle.area_calls.proofs.CallLaws.{in_short, result_done, result_refused}
use borrow.Author.Rules.{rules}
use Rattle.area.proofs.filespace_allocate.Goals as goal

pub returns-then-res-lt-WORD_BYTES : goal.returns-then-res-lt-WORD_BYTES
returns-then-res-lt-WORD_BYTES c = let a = c.args in sym (in_short a.code a.size a.area.now a.res.now c.if-res-lt-WORD_BYTES.true)

pub returns-then-told-eq-DONE : goal.returns-then-told-eq-DONE
returns-then-told-eq-DONE c =
    let a = c.args in
    result_done a.code a.size a.area.now a.res.now (search rules) c.call-told.ensures c.if-told-eq-DONE.true c.put_part.ensures

pub returns-else-told-eq-DONE : goal.returns-else-told-eq-DONE
returns-else-told-eq-DONE c =
    let a = c.args in
    result_refused a.code a.size a.area.now a.res.now (search rules) c.call-told.ensures c.if-told-eq-DONE.false
