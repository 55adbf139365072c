-- What a message holds, and what a call on one answers.
--
--   version               the version of every message
--   Held f                the fields f have the widths of the message, as every value of the struct has
--   least_length          no message is shorter: it has its head
--   address_count p       how many addresses stand behind the head with the persist byte p
--   length_of f            how long the message of f is: its head, and the addresses behind it
--   no_fields             the fields of a refused message: all 0
--
--   number_of a            document 01's number for an answer, of a read or of a write; refusal_number why for a refusal
--   ReadOutcome           what reading hands back: its refusal number (0 if accepted), and the fields
--   read_said r           what a read said, in document 01's numbers: where it is refused the fields are those of `no_fields`
--   refused_read n        refused with n: no fields
--   follows_at o          where the part behind a message that was read as o starts: at the front on a refusal
--
-- Laws are in proofs/FieldLaws.antt.
use Rattle.std.specs.Prelude.{Result, Ok, Err, cond, ◌≡◌, ℕ, ◌+◌, ◌-◌, ◌*◌, ◌^◌, ◌<◌, eqb, length, replicate}
use Rattle.little.specs.Little.{byte_values, Below}
use Rattle.message_fields.specs.declared.Fields.{Fields}
use Rattle.message_fields.specs.declared.Refusal.{Refusal}
use Rattle.message_fields.specs.declared.Refusal.TheVariants.{Short, Version, Field}
use Rattle.message_fields.specs.Layout.{strategy_at, persist_at, threshold_at, page_at, page_end_at, eoa_at, head_length}
use Rattle.message_fields.specs.Layout.{types, address_width, most_addresses}
use Rattle.refusals.specs.AnswerNumbers.{slice_too_short, other_version, broken_field}

-- ---- the fields

abbrev pub version : ℕ
version = 1

pub record Held (f : Fields) : Type 0 where
  pub strategy : f.strategy < byte_values ^ (persist_at - strategy_at)
  pub persist : f.persist < byte_values ^ (threshold_at - persist_at)
  pub threshold : f.threshold < byte_values ^ (page_at - threshold_at)
  pub page : f.page < byte_values ^ (page_end_at - page_at)
  pub page_end : f.page_end < byte_values ^ (eoa_at - page_end_at)
  pub eoa : f.eoa < byte_values ^ (head_length - eoa_at)
  pub six_small : length f.small ≡ types
  pub small : Below address_width f.small
  pub six_large : length f.large ≡ types
  pub large : Below address_width f.large

abbrev pub least_length : ℕ
least_length = head_length

unfoldable pub address_count : ℕ → ℕ
address_count p = cond (eqb p 0) 0 most_addresses

unfoldable pub length_of : Fields → ℕ
length_of f = head_length + address_count f.persist * address_width

unfoldable pub no_fields : Fields
no_fields =
    record {
      strategy = 0;
      persist = 0;
      threshold = 0;
      page = 0;
      page_end = 0;
      eoa = 0;
      small = replicate types 0;
      large = replicate types 0;
    }

-- ---- the answers

abbrev pub refusal_number : Refusal → ℕ
refusal_number Short = slice_too_short
refusal_number Version = other_version
refusal_number Field = broken_field

abbrev pub number_of : {T : Type 0} → Result T Refusal → ℕ
number_of (Ok x) = 0
number_of (Err why) = refusal_number why

pub record ReadOutcome : Type 0 where
  pub refusal : ℕ
  pub fields : Fields

abbrev pub refused_read : ℕ → ReadOutcome
refused_read n = record { refusal = n; fields = no_fields }

abbrev pub read_said : Result Fields Refusal → ReadOutcome
read_said (Ok f) = record { refusal = 0; fields = f }
read_said (Err why) = refused_read (refusal_number why)

unfoldable pub follows_at : ReadOutcome → ℕ
follows_at o = cond (eqb o.refusal 0) (length_of o.fields) 0
