-- `area_bytes::write` meets its contract: the state, and then all that stands behind it, is written.
use Rattle.area_bytes.proofs.AreaLaws.{area_laid}
use borrow.Author.Rules.{rules}
use Rattle.area_bytes.proofs.write.Goals as goal

pub returns : goal.returns
returns c =
    let a = c.args in
    area_laid a.space a.area.now _ a.table.now c.put_state.ensures (search rules) c.put_words.ensures
