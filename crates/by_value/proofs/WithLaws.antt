-- Laws of the calls with a summary, by those without one.
--
--   unless_accepted, unless_refused_lem  the new summary, or the old one
--   agreeing_yes, agreeing_not          a call where the summary agrees, and where it does not
--   not_agreed, not_placed              a call whose test failed is refused 2; an unsound table is so too without a summary
--   refused_with, refused_placing       a call that decided to refuse leaves the summary
--   released_fits, resized_fits, allocated_fits     what carrying out asks, from what was decided
--   changed_with, placed_with           a call that carried out a plan leaves the summary of the new table
--   opened_with_lem                     an opening
--   freshened_not, freshened_done        the summary worked out afresh
use Prim.Native.Nat.{ℕ}
use mathlib.Core.Bool.{Bool, true, false, ◌&&◌}
use mathlib.Core.List.{List}
use mathlib.Core.Path.{◌≡◌, refl, sym, ap, ◌∙◌, subst⁻¹}
use native.Mathlib.Omega.{arith}
use lib.IntN.{pos}
use borrow.Author.Tests.{eq-eqb, ne_eqb}
use Rattle.accepted.proofs.AcceptedLaws.{changed_sound, released_changed, resized_changed, allocated_put}
use Rattle.by_value.specs.Change.{ChangeFits, changed_by}
use Rattle.by_value.specs.Told.{Told, told}
use Rattle.by_value.specs.With.{agreeb, summed, unless_refused, after, agreeing, opened_with, freshened}
use Rattle.change.specs.declared.plan.Plan.{Plan}
use Rattle.pages.proofs.Numbers.{and_left, and_right, both, not_both, passes, fails}
use Rattle.refusals.specs.AnswerNumbers.{not_sound, open_number}
use Rattle.space.proofs.OutcomeLaws.{is_sound_true}
use Rattle.space.specs.Giving.{released, resized}
use Rattle.space.specs.Halves.{Carries, Refuses}
use Rattle.space.specs.Opening.{opened}
use Rattle.space.specs.Outcomes.{SoundSpace, soundb, entries_of, Outcome, refused, plain}
use Rattle.space.specs.Placing.{Placed, unplaced, allocated}
use Rattle.space.specs.Said.{open_said}
use Rattle.space.specs.declared.Space.{Space}
use Rattle.space.specs.declared.answers.Answered.{Answered}
use Rattle.refusals.specs.declared.OpenRefusal.{OpenRefusal}
use Rattle.space.specs.declared.give.Way.{Way}
use Rattle.totals.specs.Summary.{summary_of, no_totals}
use Rattle.totals.specs.declared.Summary.{Summary}

-- ---- a new summary, or the old one

pub unless_accepted : {k : ℕ} (new old : Summary) → k ≡ 0 → unless_refused k new old ≡ new
unfolding unless_refused
unless_accepted {k} new old e = rw (eq-eqb k 0 e)

pub unless_refused_lem : {k : ℕ} (new old : Summary) → (k ≡ 0 → ⊥) → unless_refused k new old ≡ old
unfolding unless_refused
unless_refused_lem {k} new old n = rw (ne_eqb k 0 n)

-- ---- a call where the summary agrees, and where it does not

module _ {X : Type 0} (form : Outcome → X) (out : X → Outcome) (sp : Space) (w : List ℕ) (s : Summary) (x : X) where
  pub agreeing_not : agreeb sp w s ≡ false → agreeing form out sp w s x ≡ told (form (refused not_sound sp w)) s
  unfolding agreeing
  agreeing_not e = rw e

  pub agreeing_yes : agreeb sp w s ≡ true → agreeing form out sp w s x ≡ told x (after sp s (out x))
  unfolding agreeing
  agreeing_yes e = rw e

  -- where it agrees, the call is the one without a summary
  agreed_refused : agreeb sp w s ≡ true → {k : ℕ} → Refuses sp w (out x) k → told x s ≡ agreeing form out sp w s x
  agreed_refused e d =
      let number = ap (λ (o : Outcome). o.refusal) d.leads in
      sym (agreeing_yes e ∙ ap (told x) (unless_refused_lem (summed sp (out x)) s (λ z. d.some (number ∙ z))))

  agreed_change : agreeb sp w s ≡ true → {plan : Plan} → Carries sp w (out x) plan → told x (summed sp (out x)) ≡ agreeing form out sp w s x
  agreed_change e d =
      let number = sym (ap (λ (o : Outcome). o.refusal) d.leads) in
      sym (agreeing_yes e ∙ ap (told x) (unless_accepted (summed sp (out x)) s number))

  -- where the test failed, it is refused 2
  disagreed : ((out (form (refused not_sound sp w))).refusal ≡ not_sound) → (soundb sp w ≡ false → x ≡ form (refused not_sound sp w))
      → (soundb sp w && agreeb sp w s) ≡ false → told (form (refused not_sound sp w)) s ≡ agreeing form out sp w s x
  disagreed number unsound failed = go (agreeb sp w s) refl
    where
      sound_false : agreeb sp w s ≡ true → (t : Bool) → soundb sp w ≡ t → soundb sp w ≡ false
      sound_false a false e = e
      sound_false a true e = absurd (not_both (both (soundb sp w) (agreeb sp w s) e a) failed)

      go : (t : Bool) → agreeb sp w s ≡ t → told (form (refused not_sound sp w)) s ≡ agreeing form out sp w s x
      go false e = sym (agreeing_not e)
      go true e =
          let x_is = unsound (sound_false e (soundb sp w) refl) in
          let k : (out x).refusal ≡ not_sound = ap (λ (y : X). (out y).refusal) x_is ∙ number in
          let none = unless_refused_lem {k = (out x).refusal} (summed sp (out x)) s (λ z. omega (arith, k, z)) in
          sym (agreeing_yes e ∙ (ap (told x) none ∙ ap (λ (y : X). told y s) x_is))

-- ---- the calls, as the code has them: r is what the test answered

module _ (sp : Space) (w : List ℕ) (s : Summary) {r : Bool} (is : r ≡ (soundb sp w && agreeb sp w s)) where
  module _ (h : r ≡ false) where
    pub not_agreed : (o : Outcome) → (soundb sp w ≡ false → o ≡ refused not_sound sp w) → told (refused not_sound sp w) s ≡ agreeing plain plain sp w s o
    not_agreed o unsound = disagreed plain plain sp w s o refl unsound (fails is h)

    pub not_placed : (x : Placed) → (soundb sp w ≡ false → x ≡ unplaced (refused not_sound sp w))
        → told (unplaced (refused not_sound sp w)) s ≡ agreeing unplaced (λ y. y.outcome) sp w s x
    not_placed x unsound = disagreed unplaced (λ y. y.outcome) sp w s x refl unsound (fails is h)

  module _ (h : r ≡ true) where
    agreed : agreeb sp w s ≡ true
    agreed = and_right (soundb sp w) (agreeb sp w s) (passes is h)

    pub sound_agreed : SoundSpace sp w
    sound_agreed = is_sound_true sp w (and_left (soundb sp w) (agreeb sp w s) (passes is h))

    pub refused_with : (o : Outcome) {k : ℕ} → Refuses sp w o k → told (refused k sp w) s ≡ agreeing plain plain sp w s o
    refused_with o d = ap (λ (v : Outcome). told v s) d.leads ∙ agreed_refused plain plain sp w s o agreed d

    pub refused_placing : (x : Placed) {a k : ℕ} → (a ≡ x.address) × Refuses sp w x.outcome k
        → told (record { address = a; outcome = refused k sp w }) s ≡ agreeing unplaced (λ y. y.outcome) sp w s x
    refused_placing x d =
        (λ i. told {X = Placed} (record { address = d.0 i; outcome = d.1.leads i }) s)
        ∙ agreed_refused unplaced (λ y. y.outcome) sp w s x agreed d.1

    -- t is what carrying out the plan left
    pub changed_with : (o : Outcome) {plan : Plan} {t : Told Outcome} → t ≡ changed_by sp w plan → Carries sp w o plan → t ≡ agreeing plain plain sp w s o
    changed_with o left d = left ∙ (ap (λ (v : Outcome). told v (summed sp v)) d.leads ∙ agreed_change plain plain sp w s o agreed d)

    pub placed_with : (x : Placed) {b : ℕ} {plan : Plan} {t : Told Outcome} → t ≡ changed_by sp w plan → (b ≡ x.address) × Carries sp w x.outcome plan
        → told (record { address = b; outcome = t.said }) t.summary ≡ agreeing unplaced (λ y. y.outcome) sp w s x
    placed_with x left d =
        let e = left ∙ ap (λ (v : Outcome). told v (summed sp v)) d.1.leads in
        (λ i. told {X = Placed} (record { address = d.0 i; outcome = (e i).said }) (e i).summary)
        ∙ agreed_change unplaced (λ y. y.outcome) sp w s x agreed d.1

    -- and before that, it could be carried out
    fits : {o : Outcome} {plan : Plan} → Carries sp w o plan → SoundSpace o.state o.words → ChangeFits sp w s plan
    fits d next =
        record {
          sound = sound_agreed;
          fits = d.fits;
          next = subst⁻¹ (λ (v : Outcome). SoundSpace v.state v.words) d.leads next;
          agrees = agreed;
        }

    done : {o : Outcome} {plan : Plan} → Carries sp w o plan → o.refusal ≡ 0
    done d = sym (ap (λ (v : Outcome). v.refusal) d.leads)

    pub released_fits : (b z : ℕ) {plan : Plan} → Carries sp w (released sp b z w) plan → ChangeFits sp w s plan
    released_fits b z d = fits d (changed_sound sound_agreed (released_changed sp w sound_agreed b z (done d)))

    pub resized_fits : (b z : ℕ) (way : Way) (m : ℕ) {plan : Plan} → Carries sp w (resized sp b z way m w) plan → ChangeFits sp w s plan
    resized_fits b z way m d = fits d (changed_sound sound_agreed (resized_changed sp w sound_agreed b z way m (done d)))

    pub allocated_fits : (t n : ℕ) {plan : Plan} → Carries sp w (allocated sp t n w).outcome plan → ChangeFits sp w s plan
    allocated_fits t n d = fits d (changed_sound sound_agreed (allocated_put sp w sound_agreed t n (done d)).changed)

-- ---- an opening

-- y is what the opening without a summary answered, and x the answer that was handed on
pub opened_with_lem : (P M : ℕ) (w : List ℕ) (s : Summary) {x y : Answered Unit OpenRefusal} {v : List ℕ} {t : Summary} → open_said y v ≡ opened P M w → x ≡ y
    → t ≡ unless_refused (open_number y.answer) no_totals s → told (open_said x v) t ≡ opened_with P M w s
unfolding opened_with
opened_with_lem P M w s {y = y} {v = v} {t = t} e is f =
    ap (λ (u : Answered Unit OpenRefusal). told (open_said u v) t) is
    ∙ (ap (told (open_said y v)) f ∙ ap (λ (o : Outcome). told o (unless_refused o.refusal no_totals s)) e)

-- ---- afresh

module _ (sp : Space) (w : List ℕ) (s : Summary) where
  pub freshened_not : soundb sp w ≡ false → told (refused not_sound sp w) s ≡ freshened sp w s
  unfolding freshened
  freshened_not e = rw e

  pub freshened_done : soundb sp w ≡ true
      → told (record { refusal = 0; state = sp; words = w }) (summary_of (pos 0) (entries_of sp w)) ≡ freshened sp w s
  unfolding freshened
  freshened_done e = rw e
