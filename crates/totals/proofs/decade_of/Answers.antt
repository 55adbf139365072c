-- `totals::decade_of` meets its contract: the decade is the power of ten that the size reaches, but not beyond the last.
use Rattle.std.proofs.Common.{ℕ, ◌≡◌, ◌∙◌, ◌≤◌, ◌<◌, ◌*◌, ◌^◌, max, min, arith, rules}
use Rattle.totals.proofs.Described.{decade_by_power}
use Rattle.totals.specs.Summary.{ten, last_decade}
use Rattle.totals.proofs.decade_of.Goals as goal

pub returns-in-0-to-9 : goal.returns-in-0-to-9
returns-in-0-to-9 c = decade_by_power c.args.size 0 (omega arith) (omega (arith, c.in-0-to-9))

pub returns-in-10-to-99 : goal.returns-in-10-to-99
returns-in-10-to-99 c = decade_by_power c.args.size 1 (omega (arith, c.in-10-to-99)) (omega (arith, c.in-10-to-99))

pub returns-in-100-to-999 : goal.returns-in-100-to-999
returns-in-100-to-999 c = decade_by_power c.args.size 2 (omega (arith, c.in-100-to-999)) (omega (arith, c.in-100-to-999))

pub returns-in_default : goal.returns-in_default
returns-in_default c =
    let z = c.args.size in
    let r = c.ilog10.result in
    let some : max z 1 ≡ z = omega (arith, c.in_default) in
    let low : ten ^ r ≤ max z 1 = rw some (search rules) in
    let high : max z 1 < ten * ten ^ r = rw some (search rules) in
    let least : c.min.result ≡ min r last_decade = search rules in
    least ∙ decade_by_power z r low high
