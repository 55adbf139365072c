-- The rules as facts: `legalb` is true exactly of the fields that are `Legal`.
--
-- In this order: addresses that are all undefined; what the persist byte allows; the rules of the fields; the rules of a head; the addresses
-- that are not there.
--
-- Not here: the outcomes of the tests (message_fields/proofs/LegalLaws.antt).
use Prim.Native.Nat.{ℕ, zero, suc, ◌-◌, ◌≤◌}
use mathlib.Core.Bool.{Bool, true, false}
use mathlib.Core.List.{List, [], ◌∷◌, ◌++◌}
use mathlib.Core.Path.{◌≡◌, refl, sym, ap, ◌∙◌}
use native.Mathlib.Decide.{ℕ_discrete}
use native.Mathlib.Omega.{arith}
use lib.Dec.{leb, eqb}
use lib.ListN.{length, drop, length-replicate, get_or-replicate, drop_of_length-le}
use lib.Seq.{ext_get_or}
use borrow.Author.Tests.{eq-eqb, eqb-true, leb-true}
use Rattle.message_promises.specs.Promises.{Undefined, Legal, HeadKept}
use Rattle.message_bytes.proofs.PartLaws.{length_both}
use Rattle.message_bytes.specs.Parts.{head_with, head_fields}
use Rattle.message_bytes.specs.Tail.{absent}
use Rattle.message_fields.proofs.FieldLaws.{count_without, count_with}
use Rattle.message_fields.proofs.LegalLaws.{addresses_kept, addresses_small, addresses_large, legal_addresses}
use Rattle.message_fields.specs.Fields.{Held, address_count}
use Rattle.message_fields.specs.Layout.{types, most_addresses}
use Rattle.message_fields.specs.Legal.{last_strategy, last_persist, undefined, undefinedb, addressesb, legalb}
use Rattle.message_fields.specs.declared.Fields.{Fields}
use Rattle.pages.proofs.Numbers.{and_left, and_right, both, not_both}
use Rattle.pages.proofs.PageLaws.{page_size_true, true_page_size}
use Rattle.pages.specs.Pages.{page_sizeb}

pub undefined_true : (vs : List ℕ) → undefinedb vs ≡ true → Undefined vs
undefined_true [] e i h = absurd (omega arith)
undefined_true (v ∷ vs) e zero h = eqb-true v undefined (and_left (eqb v undefined) (undefinedb vs) e)
undefined_true (v ∷ vs) e (suc i) h = undefined_true vs (and_right (eqb v undefined) (undefinedb vs) e) i (omega arith)

pub true_undefined : (vs : List ℕ) → Undefined vs → undefinedb vs ≡ true
true_undefined [] u = refl
true_undefined (v ∷ vs) u =
    both (eqb v undefined) (undefinedb vs) (eq-eqb v undefined (u 0 (omega arith))) (true_undefined vs (λ i h. u (suc i) (omega arith)))

addresses_true : (p : ℕ) (s l : List ℕ) → addressesb p s l ≡ true → p ≡ 0 → Undefined s × Undefined l
addresses_true p s l e z = go (undefinedb s) refl
  where
    go : (t : Bool) → undefinedb s ≡ t → Undefined s × Undefined l
    go true u = (undefined_true s u, undefined_true l (sym (addresses_large p s l z u) ∙ e))
    go false u = absurd (not_both e (addresses_small p s l z u))

true_addresses : (p : ℕ) (s l : List ℕ) → (p ≡ 0 → Undefined s × Undefined l) → addressesb p s l ≡ true
true_addresses p s l u =
    elim (ℕ_discrete p 0) [
      | yes z ↦ addresses_large p s l z (true_undefined s (u z).0) ∙ true_undefined l (u z).1
      | no n ↦ addresses_kept p s l n
    ]

pub legal_true : (f : Fields) → legalb f ≡ true → Legal f
unfolding legalb
legal_true f e =
    let e₁ = and_right (leb f.strategy last_strategy) _ e in
    let e₂ = and_right (leb f.persist last_persist) _ e₁ in
    record {
      head =
          record {
            strategy = leb-true f.strategy last_strategy (and_left (leb f.strategy last_strategy) _ e);
            persist = leb-true f.persist last_persist (and_left (leb f.persist last_persist) _ e₁);
            page = page_size_true f.page (and_left (page_sizeb f.page) _ e₂);
          };
      addresses = addresses_true f.persist f.small f.large (and_right (page_sizeb f.page) _ e₂);
    }

pub true_legal : (f : Fields) → Legal f → legalb f ≡ true
true_legal f h =
    legal_addresses f h.head.strategy h.head.persist (true_page_size f.page h.head.page)
    ∙ true_addresses f.persist f.small f.large h.addresses

pub false_legal : (f : Fields) → (Legal f → ⊥) → legalb f ≡ false
false_legal f n = go (legalb f) refl
  where
    go : (t : Bool) → legalb f ≡ t → legalb f ≡ false
    go true e = absurd (n (legal_true f e))
    go false e = e

-- ---- the rules of a head

module _ (b : List ℕ) where
  pub legal_head : legalb (head_fields b) ≡ true → HeadKept b
  unfolding head_with
  legal_head e = (legal_true (head_fields b) e).head

  pub head_legal : HeadKept b → legalb (head_fields b) ≡ true
  unfolding head_with
  head_legal h =
      let none : Undefined (absent types) = λ i l. get_or-replicate types i undefined 0 l in
      true_legal (head_fields b) (record { head = h; addresses = λ z. (none, none) })

  pub head_broken : (HeadKept b → ⊥) → legalb (head_fields b) ≡ false
  unfolding head_with
  head_broken n = false_legal (head_fields b) (λ l. n l.head)

-- ---- the addresses that are not there

undefined_list : (vs : List ℕ) → Undefined vs → vs ≡ absent (length vs)
undefined_list vs u =
    ext_get_or 0 vs (absent (length vs)) (sym (length-replicate (length vs) undefined))
    (λ i h. u i h ∙ sym (get_or-replicate (length vs) i undefined 0 h))

-- behind the addresses that stand in the message of f there are undefined ones
abbrev pub OthersAbsent : Fields → Type 0
OthersAbsent f = drop (address_count f.persist) (f.small ++ f.large) ≡ absent (most_addresses - address_count f.persist)

pub legal_absent : (f : Fields) → Held f → Legal f → OthersAbsent f
legal_absent f h l =
    elim (ℕ_discrete f.persist 0) [
      | yes z ↦
          let s : f.small ≡ absent types = undefined_list f.small (l.addresses z).0 ∙ ap absent h.six_small in
          let g : f.large ≡ absent types = undefined_list f.large (l.addresses z).1 ∙ ap absent h.six_large in
          rw (count_without f.persist z, s, g)
      | no n ↦
          let m : length (f.small ++ f.large) ≤ most_addresses = omega (arith, length_both f h.six_small h.six_large) in
          rw (count_with f.persist n) (drop_of_length-le (f.small ++ f.large) m)
    ]
