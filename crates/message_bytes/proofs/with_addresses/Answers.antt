-- `message_bytes::with_addresses` meets its contract: without persistence the head has all fields, and with it both parts are there and read.
use native.Mathlib.Omega.{arith}
use Rattle.message_fields.proofs.FieldLaws.{length_with}
use Rattle.message_bytes.proofs.PartLaws.{read_without, read_with}
use Rattle.message_bytes.proofs.with_addresses.Goals as goal

pub returns-then-head-eq0 : goal.returns-then-head-eq0
returns-then-head-eq0 c =
    read_without c.args.head c.args.bytes.now c.requires.0 c.if-head-eq0.true

pub slice_bounds-addresses-end : goal.slice_bounds-addresses-end
slice_bounds-addresses-end c = omega (arith, length_with c.args.head c.if-head-eq0.false)

pub slice_bounds-addresses-end-2 : goal.slice_bounds-addresses-end-2
slice_bounds-addresses-end-2 c = omega (arith, length_with c.args.head c.if-head-eq0.false)

pub returns : goal.returns
returns c =
    read_with c.args.head c.args.bytes.now c.requires.0 c.if-head-eq0.false c.addresses-small.ensures c.addresses-large.ensures
