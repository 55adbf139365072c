-- `script::words::next_word` meets its contract: the blanks run up to the word, and its letters up to what stands behind it.
use native.Mathlib.Omega.{arith}
use mathlib.Core.Path.{◌∙◌, ap}
use Rattle.std.proofs.Common.{rules, tests, ◌-◌, ◌+◌}
use lib.ListN.{length, drop, take, length-drop}
use lib.Seq.{take_all, drop-drop}
use Rattle.script.proofs.LineLaws.{run_ends}
use Rattle.script.specs.Line.{blankb, letterb}
use Rattle.script.proofs.words.next_word.Goals as goal

pub returns : goal.returns
returns c =
    let xs = c.args.line.now in
    let from = c.end_of.result in
    let part = take_all (length xs - from) (drop from xs) (omega (arith, length-drop from xs)) in
    let blanks = c.end_of.ensures.run blankb (λ byte b h. search (rules, tests)) in
    let letters = rw part at (c.end_of-2.ensures.run letterb (λ byte b h. search (rules, tests))) in
    record {
      from = from;
      to = from + c.end_of-2.result;
      starts_at = record { exact = omega (arith, blanks); low = omega arith; within = c.end_of.ensures.within };
      ends_at = run_ends letterb xs from _ c.end_of.ensures.within (rw part at c.end_of-2.ensures.within) letters;
      word_is = rw part at c.split_at.ensures.front ∙ ap (λ n. take n (drop from xs)) (omega arith);
      rest_is = rw part at c.split_at.ensures.back ∙ grind (arith, drop-drop);
    }
