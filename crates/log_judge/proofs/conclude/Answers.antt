-- `log_judge::conclude` meets its contract: how the log stands decides, and whether a block was good.
use Rattle.std.proofs.Common.{refl}
use Rattle.std.proofs.lemmas.Result.{err_from_is_err_and}
use Rattle.pages.proofs.Numbers.{passes, fails}
use Rattle.log_judge.proofs.JudgeLaws.{ends_none, ends_agreed, ends_settled}
use Rattle.log_judge.proofs.conclude.Goals as goal

pub returns-in_err-judge : goal.returns-in_err-judge
returns-in_err-judge c =
    let p = err_from_is_err_and c.from_residual.result c.from_residual.ensures.1 in
    rw (p.1, p.2) (ends_settled c.args.judge _ c.in_err-judge.was (λ x. refl))

pub returns-then-not-has_block : goal.returns-then-not-has_block
returns-then-not-has_block c = ends_none c.args.judge c.in_ok-judge.was (fails c.has_block.ensures c.if-not-has_block.true)

pub returns : goal.returns
returns c = ends_agreed c.args.judge c.in_ok-judge.was (passes c.has_block.ensures c.if-not-has_block.false)
