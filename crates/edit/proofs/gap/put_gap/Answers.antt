-- `edit::gap::put_gap` meets its contract: the three parts are put one after the other, each where the former ends.
use native.Mathlib.Omega.{arith}
use Rattle.edit.specs.New.{gap_entries}
use Rattle.edit.proofs.NewLaws.{gap_length, put_behind, put_append}
use Rattle.edit.proofs.gap.put_gap.Goals as goal

pub put_free-middle-requires : goal.put_free-middle-requires
put_free-middle-requires c = omega (arith, gap_length c.args.gap)

pub put_free-last-requires : goal.put_free-last-requires
put_free-last-requires c =
    let a = c.args in
    let first = c.put_free-middle in
    omega (arith, gap_length a.gap, put_behind _ _ _ _ _ _ _ first.ensures, first.auto.table)

pub put_free-requires : goal.put_free-requires
put_free-requires c =
    let a = c.args in
    let first = c.put_free-middle in
    let second = c.put_free-last in
    let middle = put_behind _ _ _ _ _ _ _ first.ensures in
    let last = put_behind _ _ _ _ _ _ _ second.ensures in
    omega (arith, gap_length a.gap, middle, first.auto.table, last, second.auto.table)

pub returns : goal.returns
unfolding gap_entries
returns c =
    let first = c.put_free-middle in
    let second = c.put_free-last in
    let third = c.put_free in
    let all = gap_length c.args.gap in
    let fits = c.requires in
    let middle = put_behind _ _ _ _ _ _ _ first.ensures in
    let last = put_behind _ _ _ _ _ _ _ second.ensures in
    put_append (omega (arith, all, fits, middle)) first.ensures
    (put_append (omega (arith, all, fits, middle, last, first.auto.table)) second.ensures third.ensures)
