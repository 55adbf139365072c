-- `pages::up_from`: at a border nothing is to be added, and elsewhere what is left of the page.
use Rattle.std.proofs.Common.{sym, arith}
use Rattle.pages.proofs.PageLaws.{up_from_of, up_from_left}
use Rattle.pages.specs.Pages.{left}
use Rattle.pages.proofs.up_from.Goals as goal

pub returns-then-over-eq0 : goal.returns-then-over-eq0
returns-then-over-eq0 c = sym (up_from_of _ (omega arith) (record { none_over = c.if-over-eq0.true }))

pub returns-else-over-eq0 : goal.returns-else-over-eq0
unfolding left
returns-else-over-eq0 c = sym (up_from_left _ (omega arith) (λ b. c.if-over-eq0.false b.none_over))
