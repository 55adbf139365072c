-- The calls with a summary, tied to those without one.
--
--   agrees_or                a summary agrees or does not
--   called_yes, called_no    a call on a space where it does, and where it does not
--   tied                     the statement
use Prim.Native.Nat.{ℕ}
use mathlib.Core.Bool.{Bool, true, false}
use mathlib.Core.List.{List}
use mathlib.Core.Path.{◌≡◌, refl, ap, ◌∙◌}
use Rattle.by_value.proofs.WithLaws.{unless_accepted, agreeing_yes, agreeing_not}
use Rattle.by_value.specs.Told.{Told, told}
use Rattle.by_value.specs.With.{agreeb, Agrees, summed, after, opened_with, allocated_with, released_with, resized_with}
use Rattle.demands.specs.Calls.{Call, opens, called, OnSpace, allocating, releasing, extending, shortening}
use Rattle.demands_with.specs.Summaries.{called_with, Tied}
use Rattle.pages.proofs.Numbers.{not_both}
use Rattle.refusals.specs.AnswerNumbers.{not_sound}
use Rattle.totals.proofs.AgreeLaws.{agrees_summary, summary_agrees}
use Rattle.space.specs.Opening.{opened}
use Rattle.space.specs.Outcomes.{entries_of, Outcome, refused, plain}
use Rattle.space.specs.Placing.{Placed, unplaced, allocated}
use Rattle.space.specs.declared.Space.{Space}
use Rattle.totals.specs.Summary.{no_totals}
use Rattle.totals.specs.declared.Summary.{Summary}

-- ---- whether a summary agrees

module _ (sp : Space) (w : List ℕ) (s : Summary) where
  agrees_true : Agrees sp w s → agreeb sp w s ≡ true
  agrees_true a = summary_agrees s (entries_of sp w) a

  agrees_false : (Agrees sp w s → ⊥) → agreeb sp w s ≡ false
  agrees_false n = go (agreeb sp w s) refl
    where
      go : (t : Bool) → agreeb sp w s ≡ t → agreeb sp w s ≡ false
      go false e = e
      go true e = absurd (n (agrees_summary s (entries_of sp w) e))

pub agrees_or : {X : Type 0} (sp : Space) (w : List ℕ) (s : Summary) → (Agrees sp w s → X) → ((Agrees sp w s → ⊥) → X) → X
agrees_or {X} sp w s f g = go (agreeb sp w s) refl
  where
    go : (t : Bool) → agreeb sp w s ≡ t → X
    go true e = f (agrees_summary s (entries_of sp w) e)
    go false e = g (λ a. not_both (agrees_true sp w s a) e)

-- ---- an allocation

module _ (sp : Space) (t z : ℕ) (w : List ℕ) (s : Summary) where
  allocated_yes : Agrees sp w s → allocated_with sp t z w s ≡ told (allocated sp t z w) (after sp s (allocated sp t z w).outcome)
  unfolding allocated_with
  allocated_yes a = agreeing_yes unplaced (λ (x : Placed). x.outcome) sp w s (allocated sp t z w) (agrees_true sp w s a)

  allocated_no : (Agrees sp w s → ⊥) → allocated_with sp t z w s ≡ told (unplaced (refused not_sound sp w)) s
  unfolding allocated_with
  allocated_no n = agreeing_not unplaced (λ (x : Placed). x.outcome) sp w s (allocated sp t z w) (agrees_false sp w s n)

-- without its address
abbrev placeless : Told Placed → Told Outcome
placeless r = told r.said.outcome r.summary

-- ---- each call

module _ (sp : Space) (w : List ℕ) (s : Summary) where
  pub called_yes : {c : Call} → OnSpace c → Agrees sp w s → called_with c sp w s ≡ told (called c sp w) (after sp s (called c sp w))
  unfolding called_with called released_with resized_with
  called_yes (allocating {t = t} {s = z}) a = ap placeless (allocated_yes sp t z w s a)
  called_yes releasing a = agreeing_yes plain plain sp w s _ (agrees_true sp w s a)
  called_yes extending a = agreeing_yes plain plain sp w s _ (agrees_true sp w s a)
  called_yes shortening a = agreeing_yes plain plain sp w s _ (agrees_true sp w s a)

  pub called_no : {c : Call} → OnSpace c → (Agrees sp w s → ⊥) → called_with c sp w s ≡ told (refused not_sound sp w) s
  unfolding called_with called released_with resized_with
  called_no (allocating {t = t} {s = z}) n = ap placeless (allocated_no sp t z w s n)
  called_no releasing n = agreeing_not plain plain sp w s _ (agrees_false sp w s n)
  called_no extending n = agreeing_not plain plain sp w s _ (agrees_false sp w s n)
  called_no shortening n = agreeing_not plain plain sp w s _ (agrees_false sp w s n)

opening_said : (P M : ℕ) (sp : Space) (w : List ℕ) (s : Summary) → (called_with (opens P M) sp w s).said ≡ called (opens P M) sp w
unfolding called_with called opened_with
opening_said P M sp w s = refl

opening_all_0 : (P M : ℕ) (sp : Space) (w : List ℕ) (s : Summary) → (opened P M w).refusal ≡ 0 → (called_with (opens P M) sp w s).summary ≡ no_totals
unfolding called_with opened_with
opening_all_0 P M sp w s e = unless_accepted no_totals s e

pub tied : Tied
tied =
    record {
      same = λ c sp w s on a. ap (λ (r : Told Outcome). r.said) (called_yes sp w s on a);
      same_address = λ sp t z w s a. ap (λ (r : Told Placed). r.said) (allocated_yes sp t z w s a);
      new_summary = λ c sp w s on a e.
          ap (λ (r : Told Outcome). r.summary) (called_yes sp w s on a) ∙ unless_accepted (summed sp (called c sp w)) s e;
      refused_2 = λ c sp w s on n. called_no sp w s on n;
      no_address_lem = allocated_no;
      opening = opening_said;
      all_0 = opening_all_0;
    }
