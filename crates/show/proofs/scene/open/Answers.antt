-- The lent part is within the words of a scene, by what `part` ensures.
use mathlib.Core.Path.{ap, ◌∙◌}
use mathlib.Core.List.{List, ◌++◌}
use Prim.Native.Nat.{ℕ}
use lib.ListN.{drop}
use Rattle.show.specs.Scenes.{left_as, asked_as, part_of, opened_in}
use Rattle.space.specs.Outcomes.{Outcome}
use Rattle.show.specs.declared.answer.Answer.TheVariants.{Done}
use Rattle.show.proofs.scene.open.Goals as goal

pub returns : goal.returns
unfolding opened_in
returns c =
    let a = c.args in
    let w = c.blank-words.result in
    let rest = drop c.part-lent.result w in
    rw (c.of_number.ensures, c.number_of.ensures)
    (ap (λ (o : Outcome). asked_as a.len (o.words ++ rest) (left_as Done o)) c.open-done.ensures
    ∙ (ap (opened_in a.page a.limit a.len w) c.part-lent.ensures.is
    ∙ ap (λ (v : List ℕ). opened_in a.page a.limit a.len v (part_of a.len)) c.blank-words.ensures))
