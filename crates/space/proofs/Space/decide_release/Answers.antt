-- `space::Space::decide_release` meets its contract: the front names the piece or its refusal.
use mathlib.Core.Path.{refl, sym, ap, ◌∙◌}
use Rattle.find.proofs.WalkLaws.{find_fits}
use Rattle.find.specs.Find.{find_in}
use Rattle.space.proofs.GiveLaws.{found_in, naming_not, released_naming, released_found, refuses_same, release_same}
use Rattle.space.proofs.Space.decide_release.Goals as goal

pub find-named-requires : goal.find-named-requires
find-named-requires c = find_fits c.requires c.entries.ensures.words

pub returns-in_default : goal.returns-in_default
returns-in_default c =
    let a = c.args in
    let front = released_naming a.self a.address a.size a.table.now in
    let not_named = sym c.unwrap_err.ensures ∙ (c.find-named.ensures ∙ ap (find_in c.args.address c.args.size 0) c.entries.ensures.entries) in
    refuses_same front (naming_not a.self a.table.now _ a.address a.size _ c.requires refl not_named)

pub release_found-requires : goal.release_found-requires
release_found-requires c =
    let a = c.args in
    found_in a.self a.table.now c.requires a.address a.size _ _ (sym c.in-Ok.is ∙ (c.find-named.ensures ∙ ap (find_in c.args.address c.args.size 0) c.entries.ensures.entries))

pub returns : goal.returns
returns c =
    let a = c.args in
    let named = sym c.in-Ok.is ∙ (c.find-named.ensures ∙ ap (find_in c.args.address c.args.size 0) c.entries.ensures.entries) in
    let found = released_found a.self a.address a.size a.table.now c.requires _ _ named in
    release_same _ _ c.release_found.result found c.release_found.ensures
