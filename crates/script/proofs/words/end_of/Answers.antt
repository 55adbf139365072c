-- `script::words::end_of` meets its contract: of the bytes before the answer `stops` says none, and it says the byte there, if there is one.
use Rattle.std.proofs.Common.{rules, arith}
use Rattle.script.proofs.LineLaws.{run_is}
use Rattle.script.proofs.words.end_of.Goals as goal

pub returns-in-Some-clause-run : goal.returns-in-Some-clause-run
returns-in-Some-clause-run g c p says =
    run_is p _ _ (search rules) (λ k h. says _ _ (search rules)) (λ h. says _ _ (search rules))

pub returns-clause-run : goal.returns-clause-run
returns-clause-run g c p says =
    run_is p _ _ (search rules) (λ k h. says _ _ (search rules)) (λ h. absurd (omega arith))
