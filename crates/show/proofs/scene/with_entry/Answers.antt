-- By the test of the number.
use borrow.Author.Tests.{lt-ltb, le-ltb}
use Rattle.show.specs.Scenes.{with_entry}
use Rattle.show.proofs.scene.with_entry.Goals as goal

pub returns-then-i-lt-ENTRIES : goal.returns-then-i-lt-ENTRIES
unfolding with_entry
returns-then-i-lt-ENTRIES c =
    rw (lt-ltb _ _ c.if-i-lt-ENTRIES.true, ← c.status_of-status.ensures) c.put.ensures

pub returns-else-i-lt-ENTRIES : goal.returns-else-i-lt-ENTRIES
unfolding with_entry
returns-else-i-lt-ENTRIES c = rw (le-ltb _ _ c.if-i-lt-ENTRIES.false)
