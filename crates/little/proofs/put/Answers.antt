-- A turn writes the lowest byte of what is left; behind the last turn nothing is left.
use Rattle.std.proofs.Common.{◌∙◌, length, sym, rules}
use Rattle.little.proofs.LittleLaws.{bytes_of_up, bytes_of_end}
use Rattle.little.proofs.put.Goals as goal

pub loop-byte-preserved : goal.loop-byte-preserved
loop-byte-preserved c =
    let l = c.loop-byte in
    bytes_of_up l.out l.byte-index (length c.args.out.now) l.rest (search rules) (search rules) ∙ l.invariant

pub returns : goal.returns
returns c =
    let l = c.loop-byte in
    sym (bytes_of_end l.out l.byte-index (length c.args.out.now) l.rest (search rules) (search rules)) ∙ l.invariant
