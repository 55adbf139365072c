-- `call::tell` meets its contract: by the call, what the space said is what is recorded.
use mathlib.Core.Path.{ap}
use Rattle.call.specs.Answered.{addressed, unanswered, answered}
use Rattle.refusals.proofs.AnswerLaws.{address_given}
use Rattle.call.proofs.tell.Goals as goal

pub returns-in-Allocate : goal.returns-in-Allocate
unfolding answered
returns-in-Allocate c =
    rw (c.in-Allocate.is, c.recorded.ensures, c.unwrap_or-address.ensures, address_given c.allocate-done.result.answer) (ap addressed c.allocate-done.ensures)

pub returns-in-Release : goal.returns-in-Release
unfolding answered
returns-in-Release c =
    rw (c.in-Release.is, c.recorded-in-Release.ensures) (ap unanswered c.release.ensures)

pub returns-in-Extend : goal.returns-in-Extend
unfolding answered
returns-in-Extend c =
    rw (c.in-Extend.is, c.recorded-in-Extend.ensures) (ap unanswered c.extend.ensures)

pub returns-in-Shorten : goal.returns-in-Shorten
unfolding answered
returns-in-Shorten c =
    rw (c.in-Shorten.is, c.recorded-in-Shorten.ensures) (ap unanswered c.shorten.ensures)
