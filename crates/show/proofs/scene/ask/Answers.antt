-- The lent part is within the words of a scene, by what `part` ensures, and the words behind it stay.
use mathlib.Core.Path.{ap, ◌∙◌}
use mathlib.Core.List.{◌++◌}
use lib.ListN.{drop}
use Rattle.show.specs.Scenes.{Left, asked_as, asked_in}
use Rattle.show.proofs.scene.ask.Goals as goal

pub returns : goal.returns
unfolding asked_in
returns c =
    let a = c.args in
    let rest = drop c.part-len.result a.scene.words in
    ap (λ (o : Left). asked_as a.scene.len (o.words ++ rest) o) c.tell-told.ensures
    ∙ ap (asked_in a.scene a.call) c.part-len.ensures.is
