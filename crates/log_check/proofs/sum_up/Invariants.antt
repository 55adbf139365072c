-- `log_check::sum_up` meets its contract: from the sums so far on, the words that are left give the sums of all; and so few words keep both sums small.
use Rattle.std.proofs.Common.{◌≡◌, ◌≤◌, ◌*◌}
use Rattle.log_check.specs.Check.{shorts, shorts_in, sums_from, sums_of}
use Rattle.log_check.proofs.CheckLaws.{sum_at, shorts_from}
use Rattle.log_check.proofs.sum_up.Given as goal

abbrev pub invariant-loop-i : goal.invariant-loop-i
invariant-loop-i l =
    (l.a ≤ l.i * 65535) × (l.b ≤ l.i * (shorts * 65535))
    × (sums_from (sum_at l.a l.b) (shorts_from l.i l.block) ≡ sums_of (shorts_in l.block))
