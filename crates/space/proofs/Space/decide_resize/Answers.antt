-- `space::Space::decide_resize` meets its contract: 4, where a size or change is 0, and then the front names the piece or its refusal.
use mathlib.Core.Path.{sym, ap, ◌∙◌}
use Rattle.find.proofs.WalkLaws.{find_fits}
use Rattle.find.specs.Find.{find_in}
use Rattle.space.proofs.GiveLaws.{found_in, naming_zero, naming_not, resized_naming, resized_found, refuses_same, resize_same}
use Rattle.space.proofs.Space.decide_resize.Goals as goal

pub returns-then-is_zero : goal.returns-then-is_zero
returns-then-is_zero c =
    let a = c.args in
    let front = resized_naming a.self a.address a.size a.way a.by a.table.now c.is_zero.ensures in
    refuses_same front (naming_zero a.self a.table.now _ a.address a.size _ c.requires c.if-is_zero.true)

pub find-named-requires : goal.find-named-requires
find-named-requires c = find_fits c.requires c.entries.ensures.words

pub returns-in_default : goal.returns-in_default
returns-in_default c =
    let a = c.args in
    let front = resized_naming a.self a.address a.size a.way a.by a.table.now c.is_zero.ensures in
    let not_named = sym c.unwrap_err.ensures ∙ (c.find-named.ensures ∙ ap (find_in c.args.address c.args.size 0) c.entries.ensures.entries) in
    refuses_same front (naming_not a.self a.table.now _ a.address a.size _ c.requires c.if-is_zero.false not_named)

pub resize_found-requires : goal.resize_found-requires
resize_found-requires c =
    let a = c.args in
    found_in a.self a.table.now c.requires a.address a.size _ _ (sym c.in-Ok.is ∙ (c.find-named.ensures ∙ ap (find_in c.args.address c.args.size 0) c.entries.ensures.entries))

pub returns : goal.returns
returns c =
    let a = c.args in
    let named = sym c.in-Ok.is ∙ (c.find-named.ensures ∙ ap (find_in c.args.address c.args.size 0) c.entries.ensures.entries) in
    let found = resized_found a.self a.address a.size a.table.now c.requires _ _ named a.way a.by c.is_zero.ensures c.if-is_zero.false in
    resize_same _ _ c.resize_found.result found c.resize_found.ensures
