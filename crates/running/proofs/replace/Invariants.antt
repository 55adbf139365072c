-- `running::replace` meets its contract: the numbers passed are exchanged, and the others are as they came.
use Rattle.running.proofs.ReplaceLaws.{Exchanging}
use Rattle.running.proofs.replace.Given as goal

abbrev pub invariant-loop-i : goal.invariant-loop-i
invariant-loop-i l = Exchanging l.initial.numbers l.was l.is l.i l.numbers
