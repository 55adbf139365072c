-- `edit::splice::splice` meets its contract: the entries behind make room, then the new ones are laid into it.
use Rattle.edit.proofs.EditLaws.{splice_right}
use Rattle.edit.proofs.splice.splice.Goals as goal

pub returns : goal.returns
returns c =
    let a = c.args in
    let shifted = c.shift.ensures in
    splice_right a.table.now a.n a.i a.j a.new a.count _ _ c.requires shifted c.put_new.ensures
