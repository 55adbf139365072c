-- `sections::write_sections` meets its contract: after i turns the pairs of the sections among the first i entries stand in front, and
-- behind them all is as it came.
use Rattle.sections.proofs.SectionLaws.{Writing}
use Rattle.sections.proofs.write_sections.Given as goal

abbrev pub invariant-loop-i : goal.invariant-loop-i
invariant-loop-i l = Writing l.class l.entries l.i l.initial.out l.out l.at
