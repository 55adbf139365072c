-- `message_bytes::put_fields` meets its contract: the head is laid first, and with persistence the small and the large addresses behind it.
use mathlib.Core.Path.{◌≡◌}
use native.Mathlib.Omega.{arith}
use lib.ListN.{length}
use borrow.Author.Rules.{rules}
use Rattle.message_bytes.proofs.PartLaws.{head_message, full_message}
use Rattle.message_fields.proofs.FieldLaws.{length_by_count, length_with}
use Rattle.message_fields.specs.Layout.{types}
use Rattle.message_bytes.proofs.put_fields.Goals as goal

pub slice_bounds-put_head-end : goal.slice_bounds-put_head-end
slice_bounds-put_head-end c = omega (arith, length_by_count c.args.fields)

pub returns-then-fields-eq0 : goal.returns-then-fields-eq0
returns-then-fields-eq0 c = head_message c.args.fields c.args.out.now c.if-fields-eq0.true c.put_head.ensures

pub slice_bounds-put_addresses-end : goal.slice_bounds-put_addresses-end
slice_bounds-put_addresses-end c = let there = length_with c.args.fields c.if-fields-eq0.false in search rules

pub slice_bounds-put_addresses-end-2 : goal.slice_bounds-put_addresses-end-2
slice_bounds-put_addresses-end-2 c = let there = length_with c.args.fields c.if-fields-eq0.false in search rules

-- an array has an address for each type
pub returns : goal.returns
returns c =
    let f = c.args.fields in
    let small : length f.small ≡ types = search rules in
    let large : length f.large ≡ types = search rules in
    full_message f c.args.out.now small large c.if-fields-eq0.false c.put_head.ensures c.put_addresses.ensures c.put_addresses-2.ensures
