-- The laws of the rules: what each test of the code tells of `undefinedb`, `addressesb` and `legalb`.
--
-- In this order: addresses that are all undefined; what the persist byte allows; the rules of the fields. Each definition has one law for
-- each of its outcomes.
--
-- Not here: the rules as facts (message_promises/proofs/RuleLaws.antt), laws of single tests (borrow.Author.Tests).
use Prim.Native.Nat.{ℕ, ◌≤◌}
use mathlib.Core.Bool.{true, false}
use mathlib.Core.List.{List}
use mathlib.Core.Path.{◌≡◌}
use borrow.Author.Tests.{eq-eqb, ne_eqb, le-leb}
use Rattle.pages.specs.Pages.{page_sizeb}
use Rattle.message_fields.specs.Legal.{last_strategy, last_persist, undefinedb, addressesb, legalb}
use Rattle.message_fields.specs.declared.Fields.{Fields}

-- ---- what the persist byte allows

module _ (p : ℕ) (s l : List ℕ) where
  pub addresses_kept : (p ≡ 0 → ⊥) → addressesb p s l ≡ true
  unfolding addressesb
  addresses_kept h = rw (ne_eqb p 0 h)

  pub addresses_small : p ≡ 0 → undefinedb s ≡ false → addressesb p s l ≡ false
  unfolding addressesb
  addresses_small h e = rw (eq-eqb p 0 h, e)

  pub addresses_large : p ≡ 0 → undefinedb s ≡ true → addressesb p s l ≡ undefinedb l
  unfolding addressesb
  addresses_large h e = rw (eq-eqb p 0 h, e)

-- ---- the rules of the fields

module _ (f : Fields) where
  pub legal_addresses : f.strategy ≤ last_strategy → f.persist ≤ last_persist → page_sizeb f.page ≡ true
      → legalb f ≡ addressesb f.persist f.small f.large
  unfolding legalb
  legal_addresses h k e = rw (le-leb f.strategy last_strategy h, le-leb f.persist last_persist k, e)
