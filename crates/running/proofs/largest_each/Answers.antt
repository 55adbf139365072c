-- `running::largest_each` meets its contract: each manager's largest section is found beside those of the rest.
use Rattle.pieces.specs.declared.Class.TheVariants.{SmallMetadata, SmallRaw, Large}
use Rattle.running.proofs.ReplaceLaws.{largest_beside}
use Rattle.totals.specs.Summary.{largest_of}
use Rattle.running.proofs.largest_each.Goals as goal

pub largest_after-requires : goal.largest_after-requires
largest_after-requires c = largest_beside c.requires SmallMetadata

pub largest_after-requires-2 : goal.largest_after-requires-2
largest_after-requires-2 c = largest_beside c.requires SmallRaw

pub largest_after-requires-3 : goal.largest_after-requires-3
largest_after-requires-3 c = largest_beside c.requires Large

pub returns : goal.returns
unfolding largest_of
returns c = rw (c.largest_after.ensures, c.largest_after-2.ensures, c.largest_after-3.ensures)
