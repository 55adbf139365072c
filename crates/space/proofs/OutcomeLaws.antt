-- Laws of refusals, of soundness as the calls test it, and of a settled change.
--
--   refusing_yes, refusing_no     a refusal that comes, and one that does not
--   passed                        a call that is accepted, or refused with r, was not refused by a test in front of that
--   sound_true, is_sound_true     what is sound passes the test, and the other way round; tested as the code asks it
--   settled_full, settled_room    the two outcomes of `settled`
--   settled_carried, settled_not  the same of what `settle` decided: a plan to be carried out, or the refusal
--
-- Assumes nothing.
use Prim.Native.Nat.{ℕ, ◌≤◌, ◌<◌}
use mathlib.Core.Bool.{Bool, true, false}
use mathlib.Core.List.{List}
use mathlib.Core.Path.{◌≡◌, refl, sym, ap, ◌∙◌}
use native.Mathlib.Omega.{arith}
use lib.ListN.{length}
use borrow.Author.Tests.{lt-ltb, le-ltb}
use Rattle.change.specs.declared.plan.Plan.{Plan}
use Rattle.pages.proofs.Numbers.{passes}
use Rattle.pieces.specs.Words.{table}
use Rattle.pieces.specs.declared.Piece.{Piece}
use Rattle.refusals.specs.AnswerNumbers.{table_full}
use Rattle.settle.proofs.SettleLaws.{carry_fits, carried_table}
use Rattle.settle.specs.Settle.{Settles}
use Rattle.space.specs.Halves.{carry_said, Carries, Refuses}
use Rattle.space.specs.Outcomes.{SoundSpace, soundb, Outcome, refused, refusing, plain, with_end, state_of, settled}
use Rattle.space.specs.declared.Space.{Space}
use Rattle.table.proofs.Theorems.{local_form}
use Rattle.table.specs.Fill.{fill}
use Rattle.table.specs.Sound.{capacity}

-- ---- refusals

module _ {A : Type 0} (form : Outcome → A) (sp : Space) (w : List ℕ) where
  pub refusing_yes : (t : Bool) (k : ℕ) (o : A) → t ≡ true → refusing form sp w t k o ≡ form (refused k sp w)
  unfolding refusing
  refusing_yes t k o e = rw e

  pub refusing_no : (t : Bool) (k : ℕ) (o : A) → t ≡ false → refusing form sp w t k o ≡ o
  unfolding refusing
  refusing_no t k o e = rw e

  pub passed : (number : A → ℕ) → ((v : Outcome) → number (form v) ≡ v.refusal) → {r : ℕ} (t : Bool) (k : ℕ) (o : A) → (k ≡ r → ⊥)
      → number (refusing form sp w t k o) ≡ r → (t ≡ false) × (refusing form sp w t k o ≡ o)
  unfolding refusing
  passed number is true k o n e = absurd (n (sym (is (refused k sp w)) ∙ e))
  passed number is false k o n e = (refl, refl)

-- ---- soundness

pub is_sound_true : (sp : Space) (w : List ℕ) → soundb sp w ≡ true → SoundSpace sp w
is_sound_true sp w h = (local_form sp.page sp.limit sp.end sp.count w).1 h

pub sound_true : (sp : Space) (w : List ℕ) → SoundSpace sp w → soundb sp w ≡ true
sound_true sp w s = (local_form sp.page sp.limit sp.end sp.count w).0 s

-- as `is_sound` answered
pub tested : (sp : Space) (w : List ℕ) {r : Bool} → r ≡ soundb sp w → r ≡ true → SoundSpace sp w
tested sp w e h = is_sound_true sp w (passes e h)

-- ---- a settled change

module _ (sp : Space) (w : List ℕ) (ps : List Piece) where
  pub settled_full : capacity (length w) < length (fill sp.page ps) → settled sp w ps ≡ refused table_full sp w
  unfolding settled
  settled_full h = refusing_yes plain sp w _ table_full _ (lt-ltb (capacity (length w)) (length (fill sp.page ps)) h)

  pub settled_room : length (fill sp.page ps) ≤ capacity (length w)
      → settled sp w ps ≡ record { refusal = 0; state = state_of sp ps; words = table (length w) (fill sp.page ps) }
  unfolding settled
  settled_room h = refusing_no plain sp w _ table_full _ (le-ltb (capacity (length w)) (length (fill sp.page ps)) h)

  pub settled_carried : {plan : Plan} → SoundSpace sp w → Settles sp.page sp.count w ps plan → Carries sp w (settled sp w ps) plan
  settled_carried {plan} s p =
      let room : length (fill sp.page ps) ≤ capacity (length w) = omega (arith, p.planned.count, p.room) in
      record {
        leads =
            ap (λ (v : List ℕ). carry_said (with_end sp plan.end plan.count) v) (carried_table s p)
            ∙ ((λ i. carry_said (with_end sp (p.planned.ends i) (p.planned.count i)) (table (length w) (fill sp.page ps))) ∙ sym (settled_room room));
        fits = carry_fits s p;
      }

  pub settled_not : capacity (length w) < length (fill sp.page ps) → Refuses sp w (settled sp w ps) table_full
  settled_not l = record { leads = sym (settled_full l); some = λ e. omega (arith, e) }
