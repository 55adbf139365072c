-- `message::rest` meets its contract: the part starts where the definition says, which lies within the slice.
use Prim.Native.Nat.{◌≤◌, ◌-◌}
use mathlib.Core.Path.{◌≡◌, ap, ◌∙◌}
use native.Mathlib.Omega.{arith}
use lib.ListN.{length, drop, length-drop}
use lib.Seq.{take_all}
use Rattle.message.proofs.AnswerLaws.{follows_fits}
use Rattle.message.specs.Message.{reading, following}
use Rattle.message_fields.specs.Fields.{follows_at}
use Rattle.message.proofs.rest.Goals as goal
use Rattle.message.proofs.rest.Goals.{After-follows_at-start}

place : (c : After-follows_at-start) → c.follows_at-start.result ≡ follows_at (reading c.args.bytes.now)
place c = c.follows_at-start.ensures ∙ ap follows_at c.read.ensures

starts : (c : After-follows_at-start) → c.follows_at-start.result ≤ length c.args.bytes.now
starts c = rw (place c) (follows_fits c.args.bytes.now)

pub slice_bounds-result-count : goal.slice_bounds-result-count
slice_bounds-result-count c = omega (arith, starts c)

pub slice_bounds-result-start : goal.slice_bounds-result-start
slice_bounds-result-start c = omega (arith, starts c)

pub returns : goal.returns
unfolding following
returns c =
    let b = c.args.bytes.now in
    let n = c.follows_at-start.result in
    let l : length (drop n b) ≤ length b - n = simp length-drop (omega arith) in
    take_all (length b - n) (drop n b) l ∙ ap (λ k. drop k b) (place (goal.at.returns c).After-follows_at-start)
