-- `log_blocks::records::record_in` meets its contract, field by field.
use mathlib.Core.Path.{◌∙◌, sym, refl}
use Rattle.little.proofs.LittleLaws.{value_byte}
use Rattle.log_blocks.specs.Records.{operation_at, code_at, refusal_at}
use borrow.Author.Rules.{rules}
use Rattle.log_blocks.proofs.records.record_in.Goals as goal

pub returns : goal.returns
returns c =
    let b = c.args.bytes.now in
    let operation = c.from.ensures ∙ sym (value_byte operation_at b (search rules)) in
    let code = c.from-2.ensures ∙ sym (value_byte code_at b (search rules)) in
    let refusal = c.from-3.ensures ∙ sym (value_byte refusal_at b (search rules)) in
    rw (operation, code, refusal, c.get_part.ensures, c.get_word.ensures, c.get_word-2.ensures)
    (rw (c.get_word-3.ensures, c.get_word-4.ensures) refl)
