-- `script::words::line_end` meets its contract: the bytes that are no line's last run from `from` up to it.
use native.Mathlib.Omega.{arith}
use Rattle.std.proofs.Common.{rules, tests, ◌-◌}
use lib.ListN.{length, drop, length-drop}
use lib.Seq.{take_all}
use Rattle.script.proofs.LineLaws.{run_ends}
use Rattle.script.specs.Line.{insideb}
use Rattle.script.proofs.words.line_end.Goals as goal

pub returns : goal.returns
returns c =
    let a = c.args in
    let part = take_all (length a.text.now - a.from) (drop a.from a.text.now) (omega (arith, length-drop a.from a.text.now)) in
    let run = rw part at (c.end_of.ensures.run insideb (λ byte b h. search (rules, tests))) in
    run_ends insideb a.text.now a.from _ c.requires (rw part at c.end_of.ensures.within) run
