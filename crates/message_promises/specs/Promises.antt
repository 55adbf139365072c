-- What document 01 says of read, rest and write, as request E1 changed it, row by row and by its numbers, and not by how it is computed; and the
-- theorems that hold of the definitions in message/specs/Message.antt. The proofs are in proofs/Promised.antt.
--
--   Undefined vs          the addresses vs are all undefined
--   HeadLegal s p P       strategy s, persist p and page size P keep their rules
--   Legal f               the fields f keep the rules
--
--   Addresses p at vs b   vs are addresses, one for each type: with the persist byte p not 0 those that the bytes b have from the place `at` on,
--                         and with persist 0 undefined ones, whatever the bytes are
--   Says f b              the bytes b start with a message of the fields f
--   NoMessage b           they start with no message: no legal fields are said
--   HeadKept b            the fields up to the EOA, as b has them, keep their rules
--
--   ReadRow b n g         read answers the number n and hands back the fields g
--   RestRow b c           rest hands back c
--   WriteRow f b n c      write answers n and makes c of the lent bytes b
--
--   Lengths               a message has 29 bytes without persistence, and 125 with it
--   ReadExact .. WriteExact   the definitions meet the rows, and nothing else does
--   Message b, Acceptance  b starts with a message: it says legal fields; exactly such bytes are accepted
--   RoundTrip             what is written reads back to equal fields, and what is read writes back to equal bytes
--   OneMeaning            any two results that the rows allow are equal; bytes say one thing, and fields are said in one way
use Rattle.std.specs.Prelude.{◌≡◌, Result, ◌↔◌, List, ◌++◌, ℕ, ◌+◌, ◌*◌, ◌≤◌, ◌<◌, length, take, drop, get_or}
use Rattle.pages.specs.Pages.{PageSize}
use Rattle.little.specs.Little.{value_at, Bytes}
use Rattle.message_fields.specs.declared.Fields.{Fields}
use Rattle.message_fields.specs.declared.Refusal.{Refusal}
use Rattle.message_fields.specs.Fields.{number_of, version, length_of, Held, no_fields, ReadOutcome, read_said}
use Rattle.message_fields.specs.Layout.{version_at, strategy_at, persist_at, threshold_at, page_at, page_end_at, eoa_at, head_length, small_at, large_at}
use Rattle.message_fields.specs.Layout.{full_length, types, address_width}
use Rattle.message_fields.specs.Legal.{last_strategy, last_persist, undefined}
use Rattle.message.specs.Message.{reading, following, WriteOutcome, written, Wrote}
use Rattle.refusals.specs.AnswerNumbers.{slice_too_short, other_version, broken_field}

-- ---- the fields

abbrev pub Undefined : List ℕ → Type 0
Undefined vs = (i : ℕ) → i < length vs → get_or vs i 0 ≡ undefined

pub record HeadLegal (s p P : ℕ) : Type 0 where
  pub strategy : s ≤ last_strategy
  pub persist : p ≤ last_persist
  pub page : PageSize P

pub record Legal (f : Fields) : Type 0 where
  pub head : HeadLegal f.strategy f.persist f.page
  pub addresses : f.persist ≡ 0 → Undefined f.small × Undefined f.large

-- ---- the message

pub record Addresses (p at : ℕ) (vs b : List ℕ) : Type 0 where
  pub six : length vs ≡ types
  pub absent : p ≡ 0 → Undefined vs
  pub there : 0 < p → (i : ℕ) → i < types → get_or vs i 0 ≡ value_at (at + i * address_width) (at + (i * address_width + address_width)) b

pub record Says (f : Fields) (b : List ℕ) : Type 0 where
  pub room : length_of f ≤ length b
  pub edition : value_at version_at strategy_at b ≡ version
  pub strategy : f.strategy ≡ value_at strategy_at persist_at b
  pub persist : f.persist ≡ value_at persist_at threshold_at b
  pub threshold : f.threshold ≡ value_at threshold_at page_at b
  pub page : f.page ≡ value_at page_at page_end_at b
  pub page_end : f.page_end ≡ value_at page_end_at eoa_at b
  pub eoa : f.eoa ≡ value_at eoa_at head_length b
  pub small : Addresses f.persist small_at f.small b
  pub large : Addresses f.persist large_at f.large b

abbrev pub NoMessage : List ℕ → Type 0
NoMessage b = (f : Fields) → Says f b → Legal f → ⊥

abbrev pub HeadKept : List ℕ → Type 0
HeadKept b = HeadLegal (value_at strategy_at persist_at b) (value_at persist_at threshold_at b) (value_at page_at page_end_at b)

-- ---- the rows

pub data ReadRow (b : List ℕ) (n : ℕ) (g : Fields) : Type 0 where
  too_short : n ≡ slice_too_short → g ≡ no_fields → length b < head_length → ReadRow b n g
  another_version : n ≡ other_version → g ≡ no_fields → head_length ≤ length b → (value_at version_at strategy_at b ≡ version → ⊥) → ReadRow b n g
  field_broken : n ≡ broken_field → g ≡ no_fields → head_length ≤ length b → value_at version_at strategy_at b ≡ version → (HeadKept b → ⊥) → ReadRow b n g
  no_addresses : n ≡ slice_too_short → g ≡ no_fields → head_length ≤ length b → value_at version_at strategy_at b ≡ version → HeadKept b
      → 0 < value_at persist_at threshold_at b → length b < full_length → ReadRow b n g
  done : n ≡ 0 → Says g b → Legal g → ReadRow b n g

pub data RestRow (b c : List ℕ) : Type 0 where
  whole : c ≡ b → NoMessage b → RestRow b c
  behind : (f : Fields) → Says f b → Legal f → c ≡ drop (length_of f) b → RestRow b c

pub data WriteRow (f : Fields) (b : List ℕ) (n : ℕ) (c : List ℕ) : Type 0 where
  field_broken : n ≡ broken_field → c ≡ b → (Legal f → ⊥) → WriteRow f b n c
  too_short : n ≡ slice_too_short → c ≡ b → Legal f → length b < length_of f → WriteRow f b n c
  done : n ≡ 0 → Legal f → length_of f ≤ length b → Says f c → drop (length_of f) c ≡ drop (length_of f) b → WriteRow f b n c

-- ---- the theorems

pub record Lengths : Type 0 where
  pub without : (f : Fields) → f.persist ≡ 0 → length_of f ≡ head_length
  pub with : (f : Fields) → 0 < f.persist → length_of f ≡ full_length

abbrev pub ReadExact : Type 0
ReadExact = (b : List ℕ) (o : ReadOutcome) → (o ≡ reading b) ↔ ReadRow b o.refusal o.fields

abbrev pub RestExact : Type 0
RestExact = (b c : List ℕ) → (c ≡ following b) ↔ RestRow b c

-- the lent memory holds bytes, before and after
abbrev pub WriteExact : Type 0
WriteExact =
    (f : Fields) (b : List ℕ) (o : WriteOutcome) → Held f → Bytes b → Bytes o.bytes → Wrote f b o ↔ WriteRow f b o.refusal o.bytes

pub record Message (b : List ℕ) : Type 0 where
  pub fields : Fields
  pub says : Says fields b
  pub legal : Legal fields

abbrev pub Acceptance : Type 0
Acceptance = (b : List ℕ) → ((reading b).refusal ≡ 0) ↔ Message b

pub record RoundTrip : Type 0 where
  pub write_read : (f : Fields) (b : List ℕ) → Held f → Legal f → length_of f ≤ length b
      → reading (written f b).bytes ≡ record { refusal = 0; fields = f }
  pub write_rest : (f : Fields) (b : List ℕ) → Held f → Legal f → length_of f ≤ length b → following (written f b).bytes ≡ drop (length_of f) b
  pub read_write : (b c : List ℕ) → Bytes b → (reading b).refusal ≡ 0 → length_of (reading b).fields ≤ length c
      → written (reading b).fields c
      ≡ record { refusal = 0; bytes = take (length_of (reading b).fields) b ++ drop (length_of (reading b).fields) c }
  pub read_held : (b : List ℕ) → Bytes b → Held (reading b).fields

pub record OneMeaning : Type 0 where
  pub outcome : (b : List ℕ) (o p : ReadOutcome) → ReadRow b o.refusal o.fields → ReadRow b p.refusal p.fields → o ≡ p
  pub read : (b : List ℕ) (r s : Result Fields Refusal) → ReadRow b (read_said r).refusal (read_said r).fields
      → ReadRow b (read_said s).refusal (read_said s).fields → r ≡ s
  pub rest : (b c d : List ℕ) → RestRow b c → RestRow b d → c ≡ d
  pub write : (f : Fields) (b : List ℕ) (a z : Result Unit Refusal) (c d : List ℕ) → Held f → Bytes b → Bytes c → Bytes d
      → WriteRow f b (number_of a) c → WriteRow f b (number_of z) d → (a ≡ z) × (c ≡ d)
  pub fields : (f g : Fields) (b : List ℕ) → Says f b → Says g b → f ≡ g
  pub bytes : (f : Fields) (b c : List ℕ) → Bytes b → Bytes c → Says f b → Says f c → take (length_of f) b ≡ take (length_of f) c
