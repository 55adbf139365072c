-- `pages::round_up`: the next multiple is the first border not below, so it fits, and is `up`.
use Rattle.std.proofs.Common.{sym}
use Rattle.pages.proofs.PageLaws.{up_in}
use Rattle.pages.proofs.round_up.Goals as goal

pub returns : goal.returns
returns c =
    let n = c.next_multiple_of.ensures in
    sym (up_in _ c.requires.0 (record { none_over = n.multiple }) n.lower_bound n.upper_bound)
