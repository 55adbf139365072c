-- The steps of `log_blocks::are_records`: a record that breaks the rules, one that keeps them, and none that is left.
use Rattle.std.proofs.Common.{◌≡◌, ◌+◌, ◌&&◌, false, nat_eq, sym, ap, ◌∙◌, arith}
use Rattle.log_blocks.specs.Records.{recordsb}
use Rattle.log_blocks.proofs.RecordLaws.{records_next, records_end, records_none, broken, kept}
use Rattle.pages.proofs.Numbers.{and-false}
use borrow.Author.Tests.{ne_eqb}
use Rattle.log_blocks.proofs.are_records.Goals as goal
use Rattle.log_blocks.proofs.are_records.Goals.{then-first, else-first}

pub returns-then-not-is_record : goal.returns-then-not-is_record
returns-then-not-is_record c =
    let a = c.args in
    let first = a.first && nat_eq c.loop-i.i 0 in
    let is : c.if-first.is_record ≡ first = elim c.if-first.branch [ then-first w ↦ cc | else-first w ↦ cc ] in
    let e = ap (recordsb first) (records_next a.count c.loop-i.i a.block.now (omega arith)) in
    let no = sym c.is_record.ensures ∙ c.if-not-is_record.true in
    broken first _ _ (rw (is, c.record_at.ensures) at no) ∙ sym e ∙ c.loop-i.invariant

pub loop-i-preserved : goal.loop-i-preserved
loop-i-preserved c =
    let a = c.args in
    let first = a.first && nat_eq c.loop-i.i 0 in
    let is : c.if-first.is_record ≡ first = elim c.if-first.branch [ then-first w ↦ cc | else-first w ↦ cc ] in
    let e = ap (recordsb first) (records_next a.count c.loop-i.i a.block.now (omega arith)) in
    let yes = sym c.is_record.ensures ∙ c.if-not-is_record.false in
    let later : (a.first && nat_eq (c.loop-i.i + 1) 0) ≡ false = and-false a.first (ne_eqb (c.loop-i.i + 1) 0 (λ e. omega arith)) in
    rw later (kept first _ _ (rw (is, c.record_at.ensures) at yes) ∙ sym e ∙ c.loop-i.invariant)

pub returns : goal.returns
returns c =
    let a = c.args in
    let first = a.first && nat_eq c.loop-i.i 0 in
    records_none first ∙ sym (ap (recordsb first) (records_end a.count c.loop-i.i a.block.now (omega arith))) ∙ c.loop-i.invariant
