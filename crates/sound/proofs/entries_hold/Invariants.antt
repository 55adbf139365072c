-- `sound::entries_hold` meets its contract: what is tested of all entries is what is left to test from the present one on, behind where the
-- walk has come. So a turn that stops has the answer for all entries, and so has the end.
--
-- Each need names what the code knows there: the loop l, with its invariant; that entry i is among the n; what was read; what the step said.
use Rattle.sound.proofs.WalkLaws.{Standing}
use Rattle.sound.proofs.entries_hold.Given as goal

abbrev pub invariant-loop-i : goal.invariant-loop-i
invariant-loop-i l = Standing l.page l.end l.n l.table l.walk l.i
