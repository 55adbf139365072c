-- `running::replaced` meets its contract: each list becomes that of the entries that stand in the table now.
use mathlib.Core.Path.{◌≡◌, ◌∙◌}
use mir.Facts.{to_z-of_z}
use mir.Syntax.{w64}
use mir.Val.{of_z, to_z}
use Rattle.running.proofs.ReplaceLaws.{sections_become, bytes_become, decades_become}
use Rattle.running.proofs.replaced.Goals as goal

pub replace-requires : goal.replace-requires
replace-requires c = (sections_become c.requires).can

pub replace-requires-2 : goal.replace-requires-2
replace-requires-2 c =
    (bytes_become c.requires).can

pub replace-requires-3 : goal.replace-requires-3
replace-requires-3 c =
    (decades_become c.requires).can

pub returns : goal.returns
returns c =
    let sections = c.replace.ensures ∙ (sections_become c.requires).is in
    let bytes = c.replace-2.ensures ∙ (bytes_become c.requires).is in
    let decades = c.replace-3.ensures ∙ (decades_become c.requires).is in
    let largest = c.largest_each-largest.ensures in
    let moved : to_z w64 (of_z w64 c.args.moved) ≡ c.args.moved = to_z-of_z c.ranges.moved in
    rw (← sections, ← bytes, ← largest, ← decades, moved)
