-- Over all words of a scene.
use mathlib.Core.Path.{ap, ◌∙◌}
use Rattle.show.specs.Scenes.{scene_words, left_as, asked_as, opened_over}
use Rattle.space.specs.Opening.{default_page, default_limit}
use Rattle.space.specs.Outcomes.{Outcome}
use Rattle.show.specs.declared.answer.Answer.TheVariants.{Done}
use Rattle.show.proofs.scene.open_default.Goals as goal

pub returns : goal.returns
unfolding opened_over
returns c =
    rw (c.of_number.ensures, c.number_of.ensures)
    (ap (λ (o : Outcome). asked_as scene_words o.words (left_as Done o)) c.open_default-done.ensures
    ∙ ap (opened_over default_page default_limit) c.blank-words.ensures)
