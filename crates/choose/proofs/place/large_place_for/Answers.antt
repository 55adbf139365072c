-- `choose::place::large_place_for` meets its contract: the entry that was found fits, so its first border lies within it and is a number of
-- 64 bits.
use Rattle.std.proofs.Common.{arith}
use Rattle.choose.proofs.PlaceForLaws.{border_fits, large_section}
use Rattle.choose.proofs.place.large_place_for.Goals as goal

pub overflow_add-result : goal.overflow_add-result
overflow_add-result c =
    let a = c.args in
    let found = c.best_place.ensures in
    let fits = border_fits a.p c.requires.0.page a.s a.entries.now _ _ found c.requires.1 _ _ c.in-Some.is in
    omega (arith, c.up_from.ensures, fits)

pub returns-in-Some : goal.returns-in-Some
returns-in-Some c =
    let a = c.args in
    let found = c.best_place.ensures in
    large_section a.p c.requires.0.page a.s a.entries.now _ _ found _ _ _ c.in-Some.is c.up_from.ensures
