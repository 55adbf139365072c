-- `area_bytes::is_area_length` meets its contract: each return is the test after the comparisons that led to it.
use Prim.Native.Nat.{◌-◌, ◌%◌}
use borrow.Author.Tests.{eq-eqb, ne_eqb, le-leb, lt-leb}
use Rattle.area_bytes.specs.Area.{table_at, area_lengthb}
use Rattle.little.specs.Little.{word_bytes}
use Rattle.area_bytes.proofs.is_area_length.Goals as goal

pub returns-then-length-lt-TABLE_AT : goal.returns-then-length-lt-TABLE_AT
unfolding area_lengthb
returns-then-length-lt-TABLE_AT c = rw (lt-leb table_at c.args.length c.if-length-lt-TABLE_AT.true)

pub returns-then-length-ne0 : goal.returns-then-length-ne0
unfolding area_lengthb
returns-then-length-ne0 c =
    let len = c.args.length in
    rw (le-leb table_at len c.if-length-lt-TABLE_AT.false, ne_eqb ((len - table_at) % word_bytes) 0 c.if-length-ne0.true)

pub returns : goal.returns
unfolding area_lengthb
returns c =
    let len = c.args.length in
    rw (le-leb table_at len c.if-length-lt-TABLE_AT.false, eq-eqb ((len - table_at) % word_bytes) 0 c.if-length-ne0.false) c.is_table_length.ensures
