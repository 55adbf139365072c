-- `sections::list` meets its contract: the count of the sections decides whether they are written.
use native.Mathlib.Omega.{arith}
use Rattle.pieces.specs.Words.{count_in}
use Rattle.sections.proofs.SectionLaws.{passed_few, listed_short, listed_all}
use Rattle.sections.proofs.list.Goals as goal

pub overflow_mul-count : goal.overflow_mul-count
overflow_mul-count c =
    let a = c.args in
    omega (arith, c.count_sections-count.ensures, passed_few a.class a.entries.now (count_in a.entries.now))

pub returns-then-out-count : goal.returns-then-out-count
returns-then-out-count c =
    let a = c.args in
    listed_short a.class a.entries.now a.out.now (count_in a.entries.now) _ c.count_sections-count.ensures c.if-out-count.true

pub returns : goal.returns
returns c =
    let a = c.args in
    let wrote = c.write_sections.ensures in
    listed_all a.class a.entries.now a.out.now (count_in a.entries.now) _ c.count_sections-count.ensures c.if-out-count.false _ wrote
