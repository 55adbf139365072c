-- `totals::largest_of` meets its contract: after i turns it is the largest of the sections among the first i entries.
use mathlib.Core.Path.{◌≡◌}
use Rattle.sections.proofs.SectionLaws.{passed}
use Rattle.totals.specs.Summary.{largest}
use Rattle.totals.proofs.largest_of.Given as goal

abbrev pub invariant-loop-i : goal.invariant-loop-i
invariant-loop-i l = l.found ≡ largest (passed l.class l.entries l.i)
