-- `area_bytes::put_state` meets its contract: each number of the state goes to its place, and what stands elsewhere stays.
use Rattle.area_bytes.proofs.AreaLaws.{head_laid}
use Rattle.area_bytes.proofs.put_state.Goals as goal

pub returns : goal.returns
returns c =
    let a = c.args in
    head_laid a.space a.area.now
    c.put_word.ensures
    c.put_word-2.ensures
    c.put_word-3.ensures
    c.put_word-4.ensures
