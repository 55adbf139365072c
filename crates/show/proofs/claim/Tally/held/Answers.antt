-- One claim more.
use Rattle.show.specs.Claims.{counted}
use Rattle.show.proofs.claim.Tally.held.Goals as goal

pub returns : goal.returns
unfolding counted
returns c = λ i. record { claims = c.one_more.ensures i; failures = c.args.self.failures }
