-- `script::words::comment_at` meets its contract: the bytes that are no comment's first run up to it.
use native.Mathlib.Omega.{arith}
use Rattle.std.proofs.Common.{rules, tests}
use Rattle.script.specs.Line.{plainb}
use Rattle.script.proofs.words.comment_at.Goals as goal

pub returns : goal.returns
returns c =
    let run = c.end_of.ensures.run plainb (λ byte b h. search (rules, tests)) in
    record { exact = omega (arith, run); low = omega arith; within = c.end_of.ensures.within }
