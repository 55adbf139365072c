-- `totals::work_out` meets its contract: after each turn the four lists are those of the entries passed. A number of sections is at most the
-- number of entries, and a manager's bytes are at most those of all entries, so no sum overflows.
use Rattle.totals.proofs.CountLaws.{Counted}
use Rattle.totals.proofs.work_out.Given as goal

abbrev pub invariant-loop-i : goal.invariant-loop-i
invariant-loop-i l = Counted l.entries l.i l.sections l.bytes l.largest l.decades
