-- The steps of `log_check::sum_up`: a word more, and none that is left.
use Rattle.std.proofs.Common.{sym, ◌∙◌, rules}
use Rattle.log_check.proofs.CheckLaws.{sums_up, sums_end}
use Rattle.log_check.proofs.sum_up.Goals as goal

pub loop-i-preserved : goal.loop-i-preserved
loop-i-preserved c =
    let l = c.loop-i in
    let word = c.short_at-a in
    let block = c.args.block.now in
    let sums = sums_up block l.i l.a l.b word.result (search rules) word.ensures.is ∙ l.invariant.2 in
    (search rules, search rules, sums)

pub returns : goal.returns
returns c =
    let l = c.loop-i in
    let block = c.args.block.now in
    sym (sums_end block l.i l.a l.b (search rules)) ∙ l.invariant.2
