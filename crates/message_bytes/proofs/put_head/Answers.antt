-- `message_bytes::put_head` meets its contract: each field is laid behind the one before it, up to the end of the head.
use Prim.Native.Nat.{◌<◌}
use native.Mathlib.Omega.{arith}
use lib.ListN.{set, length-set}
use borrow.Author.Rules.{rules}
use Rattle.little.proofs.LittleLaws.{laid_byte}
use Rattle.little.specs.Little.{byte_values}
use Rattle.message_bytes.proofs.PartLaws.{head_laid}
use Rattle.message_fields.specs.Layout.{version_at, strategy_at, persist_at}
use Rattle.message_fields.specs.Fields.{version}
use Rattle.message_bytes.proofs.put_head.Goals as goal

pub returns : goal.returns
returns c =
    let f = c.args.fields in
    let h = c.args.head.now in
    let h₁ = set h version_at version in
    let h₂ = set h₁ strategy_at f.strategy in
    let s : f.strategy < byte_values = search rules in
    let p : f.persist < byte_values = search rules in
    head_laid f h h₁ h₂ _ _ _ _ _ c.requires
    (laid_byte version_at version h (search rules) (search rules))
    (laid_byte strategy_at f.strategy h₁ s (simp length-set (omega arith)))
    (laid_byte persist_at f.persist h₂ p (simp length-set (omega arith)))
    c.put_part.ensures
    c.put_part-2.ensures
    (rw c.from.ensures at c.put_part-3.ensures)
    c.put_part-4.ensures
