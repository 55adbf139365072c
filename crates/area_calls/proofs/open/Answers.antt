-- `area_calls::open` meets its contract: what the opening of the lent table answers is written, or told.
use Rattle.area_calls.proofs.CallLaws.{open_done, open_refused}
use Rattle.area_calls.proofs.open.Goals as goal

pub returns-then-number-eq-DONE : goal.returns-then-number-eq-DONE
returns-then-number-eq-DONE c =
    let a = c.args in
    open_done a.page a.limit a.area.now a.table.now _ c.requires c.open-opened.result c.open-opened.ensures _ c.number_of-number.ensures
    c.if-number-eq-DONE.true c.write.ensures

pub returns-else-number-eq-DONE : goal.returns-else-number-eq-DONE
returns-else-number-eq-DONE c =
    let a = c.args in
    open_refused a.page a.limit a.area.now a.table.now _ c.requires c.open-opened.result c.open-opened.ensures _ c.number_of-number.ensures
    c.if-number-eq-DONE.false
