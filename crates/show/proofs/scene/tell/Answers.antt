-- `show::scene::tell` meets its contract: what the call left, with its answer as one of all calls.
use mathlib.Core.Path.{ap}
use Rattle.call.specs.Answered.{Answered}
use Rattle.show.specs.Scenes.{left_as, accepted_as, left_by}
use Rattle.show.proofs.scene.tell.Goals as goal

pub returns : goal.returns
unfolding left_by
returns c =
    let call = c.args.call in
    rw (c.of_number.ensures, c.accepted-done.ensures) (ap (λ (a : Answered). left_as (accepted_as call a.answer) a.outcome) c.tell-told.ensures)
