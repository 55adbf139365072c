-- `by_value::open` meets its contract: the opening without a summary, and every number 0 where it is accepted.
use Rattle.by_value.proofs.WithLaws.{opened_with_lem}
use Rattle.by_value.proofs.open.Goals as goal

pub returns : goal.returns
returns c given =
    let a = c.args in
    let r = c.with_none.ensures in
    opened_with_lem a.pages.page a.pages.limit a.table.now given c.«open».ensures r.answered (r.summary given)
