-- `space::Space::entries` meets its contract: a sound table has as many entries as the state counts, and its words lie within the slice.
use mathlib.Core.Path.{ap, ◌∙◌}
use native.Mathlib.Omega.{arith}
use Rattle.pieces.proofs.WordLaws.{front_entries}
use Rattle.pieces.specs.Words.{entries_in}
use Rattle.table.proofs.Theorems.{count_fits}
use Rattle.space.proofs.Space.entries.Goals as goal

pub words_of-requires : goal.words_of-requires
words_of-requires c = (omega arith, count_fits c.requires.ranges)

pub returns-clause-entries : goal.returns-clause-entries
returns-clause-entries c = ap entries_in c.words_of.ensures ∙ front_entries c.args.table.now c.args.self.count (count_fits c.requires.ranges)
