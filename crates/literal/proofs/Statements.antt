-- The proofs of the statements in specs/Statements.antt, each under its name in small letters: a sound table is a chain, and of chains they are
-- proved in Allocate.antt, Release.antt, Extend.antt and Shorten.antt.
use Rattle.pages.proofs.PageLaws.{page_pos}
use Rattle.table.proofs.Theorems.{sound_chain}
use Rattle.literal.specs.Statements.{Allocating, Releasing, Extending, Shortening}
use Rattle.literal.proofs.Allocate.{allocated_chain}
use Rattle.literal.proofs.Extend.{extended_chain}
use Rattle.literal.proofs.Release.{released_chain}
use Rattle.literal.proofs.Shorten.{shortened_chain}

pub allocating : Allocating
allocating P M E n w k s h r = allocated_chain P (page_pos h.ranges.page) (sound_chain h) r

pub releasing : Releasing
releasing P M E n w m x k h i q e = released_chain P (page_pos h.ranges.page) m (sound_chain h) i q e

pub extending : Extending
extending P M E n w name m x k h i q e r = extended_chain P (page_pos h.ranges.page) name (sound_chain h) i q e r

pub shortening : Shortening
shortening P M E n w name k x c h i q e p r = shortened_chain P (page_pos h.ranges.page) name (sound_chain h) i q e p r
