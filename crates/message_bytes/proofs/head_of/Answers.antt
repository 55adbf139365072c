-- `message_bytes::head_of` meets its contract: each field is the number of its part, and no address is there.
use mathlib.Core.Path.{refl, sym}
use native.Mathlib.Omega.{arith}
use borrow.Author.Rules.{rules}
use Rattle.little.proofs.LittleLaws.{value_lt, value_byte}
use Rattle.message_bytes.proofs.PartLaws.{fields_read}
use Rattle.message_bytes.specs.Tail.{absent}
use Rattle.message_fields.specs.Layout.{strategy_at, persist_at, page_end_at, eoa_at, most_addresses}
use Rattle.message_bytes.proofs.head_of.Goals as goal

pub overflow_cast-result : goal.overflow_cast-result
overflow_cast-result c =
    let bytes = c.args.bytes.now in
    omega (arith, c.get_part-3.ensures, value_lt page_end_at eoa_at bytes (λ i. (c.type_inv.bytes i).fits))

pub returns : goal.returns
returns c =
    let bytes = c.args.bytes.now in
    fields_read bytes (absent most_addresses)
    (sym (value_byte strategy_at bytes (search rules)))
    (sym (value_byte persist_at bytes (search rules)))
    c.get_part.ensures
    c.get_part-2.ensures
    c.get_part-3.ensures
    c.get_part-4.ensures
    refl
    refl
