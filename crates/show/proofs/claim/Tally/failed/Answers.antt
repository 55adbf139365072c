-- One claim more, and one failure more.
use Rattle.show.specs.Claims.{counted}
use Rattle.show.proofs.claim.Tally.failed.Goals as goal

pub returns : goal.returns
unfolding counted
returns c = λ i. record { claims = c.one_more.ensures i; failures = c.one_more-2.ensures i }
