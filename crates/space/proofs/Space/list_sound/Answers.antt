-- `space::Space::list_sound` meets its contract: each return is the law of its refusal, or of what `sections` answered.
use mathlib.Core.Path.{sym, ap, ◌∙◌}
use Rattle.pages.proofs.Numbers.{passes, fails}
use Rattle.sections.specs.Sections.{sections, listed_in}
use Rattle.space.proofs.ListLaws.{listed_unknown, listed_answered}
use Rattle.space.proofs.Space.list_sound.Goals as goal

pub returns-then-not-is_manager : goal.returns-then-not-is_manager
returns-then-not-is_manager c =
    let a = c.args in
    let unknown = fails c.is_manager.ensures c.if-not-is_manager.true in
    rw c.answers.ensures (sym (listed_unknown a.self a.manager a.table.now a.out.now c.requires unknown))

pub returns-in-Some : goal.returns-in-Some
returns-in-Some c =
    let a = c.args in
    let known = passes c.is_manager.ensures c.if-not-is_manager.false in
    let class = c.class_of_manager-class.ensures in
    let said = c.list.ensures ∙ ap (λ es. listed_in a.out.now (sections c.class_of_manager-class.result es)) c.entries.ensures.entries in
    rw c.answers-in-Some.ensures (listed_answered a.self a.manager a.table.now a.out.now c.requires known class c.in-Some.is said)

pub returns-in-None : goal.returns-in-None
returns-in-None c =
    let a = c.args in
    let known = passes c.is_manager.ensures c.if-not-is_manager.false in
    let class = c.class_of_manager-class.ensures in
    let said = c.list.ensures ∙ ap (λ es. listed_in a.out.now (sections c.class_of_manager-class.result es)) c.entries.ensures.entries in
    rw c.answers-in-None.ensures (listed_answered a.self a.manager a.table.now a.out.now c.requires known class c.in-None.is said)
