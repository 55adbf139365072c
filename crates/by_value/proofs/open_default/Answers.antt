-- `by_value::open_default` meets its contract: the opening without a summary, and every number 0 where it is accepted.
use Rattle.by_value.proofs.WithLaws.{opened_with_lem}
use Rattle.space.specs.Opening.{default_page, default_limit}
use Rattle.by_value.proofs.open_default.Goals as goal

pub returns : goal.returns
returns c given =
    let a = c.args in
    let r = c.with_none.ensures in
    opened_with_lem default_page default_limit a.table.now given c.open_default.ensures r.answered (r.summary given)
