-- The laws of what read, rest and write say and leave.
--
-- In this order: what is read, by the tests of the code, and that one of its outcomes holds; where the part behind it starts; what is
-- written; what a write did. `reading` and `written` have one law for each of their outcomes, and no proof above this file opens them.
--
-- Not here: the rules of the fields as facts (message_promises/proofs/RuleLaws.antt).
use Prim.Native.Nat.{ℕ, ◌≤◌, ◌<◌, zero-le}
use mathlib.Core.Bool.{Bool, true, false}
use mathlib.Core.List.{List, ◌++◌}
use mathlib.Core.Path.{◌≡◌, refl, sym, ap, ◌∙◌}
use native.Mathlib.Decide.{ℕ_discrete}
use lib.Dec.{lit<}
use lib.ListN.{length, drop}
use borrow.Author.Tests.{eq-eqb, ne_eqb, lt-ltb, le-ltb}
use Rattle.std.proofs.Common.{Ok, Err}
use Rattle.little.specs.Little.{value_at}
use Rattle.message.specs.Message.{reading, refused_write, written, Wrote, write_said}
use Rattle.message_bytes.proofs.PartLaws.{length_by_head}
use Rattle.message_bytes.specs.Parts.{head_fields, fields_of, message_of}
use Rattle.message_fields.proofs.FieldLaws.{follows_whole, follows_behind}
use Rattle.message_fields.specs.Fields.{version, Held, least_length, length_of, refused_read, follows_at}
use Rattle.message_fields.specs.Layout.{version_at, strategy_at}
use Rattle.message_fields.specs.Legal.{legalb}
use Rattle.message_fields.specs.declared.Fields.{Fields}
use Rattle.message_fields.specs.declared.Refusal.TheVariants.{Short, Field}
use Rattle.pages.proofs.Numbers.{split}
use Rattle.refusals.specs.AnswerNumbers.{slice_too_short, other_version, broken_field}

-- ---- what is read

module _ (b : List ℕ) where
  pub read_short : length b < least_length → reading b ≡ refused_read slice_too_short
  unfolding reading
  read_short h = rw (lt-ltb (length b) least_length h)

  pub read_version : least_length ≤ length b → (value_at version_at strategy_at b ≡ version → ⊥) → reading b ≡ refused_read other_version
  unfolding reading
  read_version h k = rw (le-ltb (length b) least_length h, ne_eqb (value_at version_at strategy_at b) version k)

  module _ (h : least_length ≤ length b) (k : value_at version_at strategy_at b ≡ version) where
    pub read_field : legalb (head_fields b) ≡ false → reading b ≡ refused_read broken_field
    unfolding reading
    read_field n = rw (le-ltb (length b) least_length h, eq-eqb (value_at version_at strategy_at b) version k, n)

    pub read_cut : legalb (head_fields b) ≡ true → length b < length_of (head_fields b) → reading b ≡ refused_read slice_too_short
    unfolding reading
    read_cut n m =
        rw (le-ltb (length b) least_length h, eq-eqb (value_at version_at strategy_at b) version k, n, lt-ltb (length b) (length_of (head_fields b)) m)

    pub read_done : legalb (head_fields b) ≡ true → length_of (head_fields b) ≤ length b → reading b ≡ record { refusal = 0; fields = fields_of b }
    unfolding reading
    read_done n m =
        rw (le-ltb (length b) least_length h, eq-eqb (value_at version_at strategy_at b) version k, n, le-ltb (length b) (length_of (head_fields b)) m)

  -- the outcomes of the tests, of which one holds
  pub read_cases : {X : Type 0} → (length b < least_length → X)
      → (least_length ≤ length b → (value_at version_at strategy_at b ≡ version → ⊥) → X)
      → (least_length ≤ length b → value_at version_at strategy_at b ≡ version → legalb (head_fields b) ≡ false → X)
      → (least_length ≤ length b → value_at version_at strategy_at b ≡ version → legalb (head_fields b) ≡ true
      → length b < length_of (head_fields b)
      → X)
      → (least_length ≤ length b → value_at version_at strategy_at b ≡ version → legalb (head_fields b) ≡ true
      → length_of (head_fields b) ≤ length b
      → X)
      → X
  read_cases {X} short old broken cut done =
      split least_length (length b)
      (λ h. elim (ℕ_discrete (value_at version_at strategy_at b) version) [ yes v ↦ tested h v (legalb (head_fields b)) refl | no n ↦ old h n ])
      short
    where
      tested : least_length ≤ length b → value_at version_at strategy_at b ≡ version → (t : Bool) → legalb (head_fields b) ≡ t → X
      tested h v true e = split (length_of (head_fields b)) (length b) (done h v e) (cut h v e)
      tested h v false e = broken h v e

  -- ---- where the part behind it starts

  pub follows_refused : {n : ℕ} → 0 < n → reading b ≡ refused_read n → follows_at (reading b) ≡ 0
  follows_refused h e = rw e (follows_whole _ h)

  pub follows_done : {f : Fields} → reading b ≡ record { refusal = 0; fields = f } → follows_at (reading b) ≡ length_of f
  follows_done e = rw e (follows_behind _ refl)

  pub follows_fits : follows_at (reading b) ≤ length b
  follows_fits =
      read_cases
      (λ h. rw (follows_refused (lit< tt) (read_short h)) zero-le)
      (λ h n. rw (follows_refused (lit< tt) (read_version h n)) zero-le)
      (λ h v e. rw (follows_refused (lit< tt) (read_field h v e)) zero-le)
      (λ h v e m. rw (follows_refused (lit< tt) (read_cut h v e m)) zero-le)
      (λ h v e m. rw (follows_done (read_done h v e m), ← length_by_head b) m)

-- ---- what is written

module _ (f : Fields) (b : List ℕ) where
  pub write_field : legalb f ≡ false → written f b ≡ refused_write broken_field b
  unfolding written
  write_field h = rw h

  pub write_short : legalb f ≡ true → length b < length_of f → written f b ≡ refused_write slice_too_short b
  unfolding written
  write_short h k = rw (h, lt-ltb (length b) (length_of f) k)

  pub write_done : legalb f ≡ true → length_of f ≤ length b → written f b ≡ record { refusal = 0; bytes = message_of f ++ drop (length_of f) b }
  unfolding written
  write_done h k = rw (h, le-ltb (length b) (length_of f) k)

  -- ---- what a write did

  pub wrote_field : Held f → legalb f ≡ false → Wrote f b (write_said (Err Field) b)
  wrote_field h l = record { held = h; outcome = sym (write_field l) }

  pub wrote_short : Held f → legalb f ≡ true → length b < length_of f → Wrote f b (write_said (Err Short) b)
  wrote_short h l n = record { held = h; outcome = sym (write_short l n) }

  pub wrote_done : {c : List ℕ} → Held f → legalb f ≡ true → length_of f ≤ length b → c ≡ message_of f ++ drop (length_of f) b
      → Wrote f b (write_said (Ok tt) c)
  wrote_done h l n e = record { held = h; outcome = ap (write_said (Ok tt)) e ∙ sym (write_done l n) }
