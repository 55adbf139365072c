-- `sections::count_sections` meets its contract: after i turns the sections among the first i entries are counted.
use mathlib.Core.Path.{◌≡◌}
use lib.ListN.{length}
use Rattle.sections.proofs.SectionLaws.{passed}
use Rattle.sections.proofs.count_sections.Given as goal

abbrev pub invariant-loop-i : goal.invariant-loop-i
invariant-loop-i l = l.count ≡ length (passed l.class l.entries l.i)
