-- `message::read` meets its contract: each return is the answer after the tests that led to it.
use Prim.Native.Nat.{◌≤◌, ◌<◌}
use mathlib.Core.Bool.{Bool}
use mathlib.Core.Path.{◌≡◌, sym, ap, ◌∙◌}
use lib.ListN.{length, get_or}
use borrow.Author.Rules.{rules}
use Rattle.little.proofs.LittleLaws.{value_byte}
use Rattle.little.specs.Little.{value_at}
use Rattle.message.proofs.AnswerLaws.{read_short, read_version, read_field, read_cut, read_done}
use Rattle.message_bytes.specs.Parts.{head_fields}
use Rattle.message_fields.specs.Layout.{version_at, strategy_at}
use Rattle.message_fields.specs.Fields.{version, length_of}
use Rattle.message_fields.specs.Legal.{legalb}
use Rattle.message.proofs.read.Goals as goal
use Rattle.message.proofs.read.Goals.{After-is_legal}

pub returns-then-bytes-lt-LEAST_LENGTH : goal.returns-then-bytes-lt-LEAST_LENGTH
returns-then-bytes-lt-LEAST_LENGTH c = sym (read_short c.args.bytes.now c.if-bytes-lt-LEAST_LENGTH.true)

pub returns-then-bytes-ne-VERSION : goal.returns-then-bytes-ne-VERSION
returns-then-bytes-ne-VERSION c =
    let b = c.args.bytes.now in
    let n : get_or b version_at 0 ≡ version → ⊥ = c.if-bytes-ne-VERSION.true in
    let v : value_at version_at strategy_at b ≡ get_or b version_at 0 = value_byte version_at b (search rules) in
    sym (read_version b c.if-bytes-lt-LEAST_LENGTH.false (λ e. n (sym v ∙ e)))

-- what the tests up to the rules tell of the bytes
module _ (c : After-is_legal) where
  version_told : value_at version_at strategy_at c.args.bytes.now ≡ version
  version_told =
      let b = c.args.bytes.now in
      let w : get_or b version_at 0 ≡ version = c.if-bytes-ne-VERSION.false in
      value_byte version_at b (search rules) ∙ w

  legal_told : (t : Bool) → c.is_legal.result ≡ t → legalb (head_fields c.args.bytes.now) ≡ t
  legal_told t e = sym (ap legalb c.head_of-head.ensures) ∙ sym c.is_legal.ensures ∙ e

pub returns-then-not-is_legal : goal.returns-then-not-is_legal
returns-then-not-is_legal c =
    let asked = (goal.at.returns-then-not-is_legal c).After-is_legal in
    sym (read_field c.args.bytes.now c.if-bytes-lt-LEAST_LENGTH.false (version_told asked) (legal_told asked _ c.if-not-is_legal.true))

pub returns-then-bytes-needed : goal.returns-then-bytes-needed
returns-then-bytes-needed c =
    let b = c.args.bytes.now in
    let asked = (goal.at.returns-then-bytes-needed c).After-is_legal in
    let needed = c.length_of-needed.ensures ∙ ap length_of c.head_of-head.ensures in
    let short : length b < c.length_of-needed.result = c.if-bytes-needed.true in
    sym (read_cut b c.if-bytes-lt-LEAST_LENGTH.false (version_told asked) (legal_told asked _ c.if-not-is_legal.false) (rw needed at short))

pub returns : goal.returns
returns c =
    let b = c.args.bytes.now in
    let asked = (goal.at.returns c).After-is_legal in
    let needed = c.length_of-needed.ensures ∙ ap length_of c.head_of-head.ensures in
    let fits : c.length_of-needed.result ≤ length b = c.if-bytes-needed.false in
    let done =
    read_done b c.if-bytes-lt-LEAST_LENGTH.false (version_told asked) (legal_told asked _ c.if-not-is_legal.false) (rw needed at fits) in
    sym (rw (← c.with_addresses.ensures) at done)
