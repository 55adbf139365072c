-- `walk::advance` meets its contract: each return is the definition, and what may follow as a small entry is not free large.
use Rattle.std.proofs.Common.{sym, ◌∙◌}
use Rattle.pages.proofs.Numbers.{passes}
use Rattle.pieces.proofs.PieceLaws.{kind_true}
use Rattle.walk.proofs.StepLaws.{follows_small}
use Rattle.walk.proofs.advance.Goals as goal

pub small_step-requires : goal.small_step-requires
small_step-requires c =
    let kind = passes c.is_kind.ensures c.if-not-is_kind.false in
    (c.requires, follows_small _ _ (sym c.small_follows.ensures ∙ c.if-small_follows.true) (kind_true _ kind))
