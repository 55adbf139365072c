-- `filespace::answer::read_numbers` meets its contract: what is left of the line is no longer than the line.
use Rattle.std.proofs.Common.{◌≤◌, length}
use Rattle.filespace.proofs.answer.read_numbers.Given as goal

abbrev pub invariant-loop-i : goal.invariant-loop-i
invariant-loop-i l = length l.rest ≤ length l.line
