-- `message::write` meets its contract: each return is the answer after the tests that led to it, and only the last step writes.
use mathlib.Core.Path.{sym, ◌∙◌}
use native.Mathlib.Omega.{arith}
use lib.ListN.{get_or}
use borrow.Author.Rules.{rules}
use Rattle.message.proofs.AnswerLaws.{wrote_field, wrote_short, wrote_done}
use Rattle.message_fields.specs.Fields.{Held}
use mir.Syntax.{w64}
use mir.Val.{Fits}
use Rattle.message.proofs.write.Goals as goal
use Rattle.message.proofs.write.Goals.{Start}

-- the machine's fields have the widths of the message
held : (c : Start) → Held c.args.fields
held c =
    record {
      strategy = search rules;
      persist = search rules;
      threshold = search rules;
      page = search rules;
      page_end = search rules;
      eoa = search rules;
      six_small = search rules;
      small = λ i. let e : Fits w64 (get_or c.args.fields.small i 0) = search rules in e.fits;
      six_large = search rules;
      large = λ i. let e : Fits w64 (get_or c.args.fields.large i 0) = search rules in e.fits;
    }

pub returns-then-not-is_legal : goal.returns-then-not-is_legal
returns-then-not-is_legal c =
    let legal = sym c.is_legal.ensures ∙ c.if-not-is_legal.true in
    wrote_field c.args.fields c.args.out.now (held (goal.at.returns-then-not-is_legal c).Start) legal

pub returns-then-out-needed : goal.returns-then-out-needed
returns-then-out-needed c =
    let legal = sym c.is_legal.ensures ∙ c.if-not-is_legal.false in
    wrote_short c.args.fields c.args.out.now (held (goal.at.returns-then-out-needed c).Start) legal (omega arith)

pub returns : goal.returns
returns c =
    let legal = sym c.is_legal.ensures ∙ c.if-not-is_legal.false in
    wrote_done c.args.fields c.args.out.now (held (goal.at.returns c).Start) legal (omega arith) c.put_fields.ensures
