-- The laws of a message's length and of a read message.
--
-- In this order: how many addresses stand behind the head, and how long the message is, without and with persistence; `refused_number`, no
-- refusal has the number of success; where the part behind the message starts. No proof above this file opens `address_count`.
use Prim.Native.Nat.{ℕ, ◌+◌, ◌*◌, ◌≤◌, ◌<◌}
use mathlib.Core.Path.{◌≡◌, refl}
use native.Mathlib.Decide.{ℕ_discrete}
use native.Mathlib.Omega.{arith}
use lib.Dec.{lit<}
use borrow.Author.Tests.{eq-eqb, ne_eqb}
use Rattle.message_fields.specs.Fields.{ReadOutcome, refusal_number, address_count, length_of, follows_at}
use Rattle.message_fields.specs.Layout.{head_length, full_length, address_width, most_addresses}
use Rattle.message_fields.specs.declared.Fields.{Fields}
use Rattle.message_fields.specs.declared.Refusal.TheVariants.{Short, Version, Field}
use Rattle.message_fields.specs.declared.Refusal.{Refusal}

-- ---- the length

module _ (p : ℕ) where
  pub count_without : p ≡ 0 → address_count p ≡ 0
  unfolding address_count
  count_without e = rw (eq-eqb p 0 e)

  pub count_with : (p ≡ 0 → ⊥) → address_count p ≡ most_addresses
  unfolding address_count
  count_with n = rw (ne_eqb p 0 n)

  pub count_most : address_count p ≤ most_addresses
  count_most =
      elim (ℕ_discrete p 0) [ yes e ↦ omega (arith, count_without e) | no n ↦ omega (arith, count_with n) ]

module _ (f : Fields) where
  pub length_by_count : length_of f ≡ head_length + address_count f.persist * address_width
  unfolding length_of
  length_by_count = refl

  pub length_without : f.persist ≡ 0 → length_of f ≡ head_length
  length_without e = omega (arith, length_by_count, count_without f.persist e)

  pub length_with : (f.persist ≡ 0 → ⊥) → length_of f ≡ full_length
  length_with n = omega (arith, length_by_count, count_with f.persist n)

-- ---- a read message

pub refused_number : (why : Refusal) → 0 < refusal_number why
refused_number Short = lit< tt
refused_number Version = lit< tt
refused_number Field = lit< tt

module _ (o : ReadOutcome) where
  pub follows_whole : 0 < o.refusal → follows_at o ≡ 0
  unfolding follows_at
  follows_whole h = rw (ne_eqb o.refusal 0 (λ e. omega arith))

  pub follows_behind : o.refusal ≡ 0 → follows_at o ≡ length_of o.fields
  unfolding follows_at
  follows_behind e = rw (eq-eqb o.refusal 0 e)
