-- The calls of document 01 on a message: what read, rest and write give for any bytes, in its numbers.
--
--   reading b             what read hands back for the bytes b: its number and the fields, which are those of `no_fields` on a refusal. The
--                         rules are asked of the head, and then the length of it, before any address is looked at
--   following b           the part behind the message: all of b on a refusal
--   WriteOutcome          what a write leaves: its refusal number (0 if accepted), and every lent byte
--   write_said a c        what a write said with the answer a, and left in the bytes c
--   refused_write n b     refused with n: the bytes b as they came
--   written f b           what a write of the fields f into the bytes b leaves
--   Wrote f b o           a write of f into b left o; f is held, so that the round trip (`message_promises`) asks nothing more
--
-- What is proved of these is in message_promises/specs/Promises.antt. Not here: the fields, the answers with their numbers and where the part
-- behind a message starts (message_fields/specs), the fields in bytes (message_bytes/specs).
use Rattle.std.specs.Prelude.{◌≡◌, Result, cond, not, List, ◌++◌, ℕ, ltb, eqb, length, drop}
use Rattle.little.specs.Little.{value_at}
use Rattle.message_fields.specs.declared.Fields.{Fields}
use Rattle.message_fields.specs.declared.Refusal.{Refusal}
use Rattle.message_fields.specs.Fields.{version, Held, least_length, length_of, number_of, ReadOutcome, refused_read, follows_at}
use Rattle.message_fields.specs.Layout.{version_at, strategy_at}
use Rattle.message_fields.specs.Legal.{legalb}
use Rattle.message_bytes.specs.Parts.{head_fields, fields_of, message_of}
use Rattle.refusals.specs.AnswerNumbers.{slice_too_short, other_version, broken_field}

unfoldable pub reading : List ℕ → ReadOutcome
reading b =
    cond (ltb (length b) least_length) (refused_read slice_too_short)
    (cond (not (eqb (value_at version_at strategy_at b) version)) (refused_read other_version)
    (cond (not (legalb (head_fields b))) (refused_read broken_field)
    (cond (ltb (length b) (length_of (head_fields b))) (refused_read slice_too_short)
    (record { refusal = 0; fields = fields_of b }))))

unfoldable pub following : List ℕ → List ℕ
following b = drop (follows_at (reading b)) b

pub record WriteOutcome : Type 0 where
  pub refusal : ℕ
  pub bytes : List ℕ

abbrev pub write_said : Result Unit Refusal → List ℕ → WriteOutcome
write_said a c = record { refusal = number_of a; bytes = c }

abbrev pub refused_write : ℕ → List ℕ → WriteOutcome
refused_write n b = record { refusal = n; bytes = b }

unfoldable pub written : Fields → List ℕ → WriteOutcome
written f b =
    cond (not (legalb f)) (refused_write broken_field b)
    (cond (ltb (length b) (length_of f)) (refused_write slice_too_short b)
    (record { refusal = 0; bytes = message_of f ++ drop (length_of f) b }))

pub record Wrote (f : Fields) (b : List ℕ) (o : WriteOutcome) : Type 0 where
  pub held : Held f
  pub outcome : o ≡ written f b
