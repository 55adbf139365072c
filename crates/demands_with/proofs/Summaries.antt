-- What is signed of the calls with a summary, by the tie to those without one (Tied.antt).
--
--   as-called            of a summary that agrees: what is said of the call without a summary is said of the one with it
--   refusals_with, exactly_with, keeps_with      the statements on one call
--   run_tied             a run with a summary that agrees is the run without one, and the summary agrees in the end
--   runs_with, any_order_with, two_orders_with   the statements on runs
--   one_result_with      the statement on results
use Prim.Native.Nat.{ℕ}
use mathlib.Core.Bool.{Bool, true, false, cond}
use mathlib.Core.List.{List, [], ◌∷◌, Memᴰ}
use mathlib.Core.Path.{◌≡◌, refl, sym, ap, ◌∙◌, subst, subst⁻¹}
use native.Mathlib.Omega.{arith}
use lib.Dec.{eqb}
use lib.ListN.{length}
use lib.IntN.{pos}
use borrow.Author.Tests.{eqb-true, eqb-false}
use Rattle.by_value.proofs.WithLaws.{unless_accepted, unless_refused_lem, freshened_not, freshened_done}
use Rattle.by_value.specs.Told.{Told, told, fresh_number, fresh_said}
use Rattle.by_value.specs.With.{Agrees, summed, after, opened_with, allocated_with, released_with, extended_with, shortened_with, freshened}
use Rattle.by_value.specs.declared.FreshRefusal.{FreshRefusal}
use Rattle.by_value.specs.declared.FreshRefusal.TheVariants as fresh
use Rattle.demands.proofs.AnyOrder.{any_order, two_orders}
use Rattle.demands.proofs.Exactly.{exactly, same}
use Rattle.demands.proofs.Keeps.{keeps, handed_back_lem, runs}
use Rattle.demands.proofs.OneResult.{unique, open_unique, allocate_unique, release_unique, resize_unique}
use Rattle.demands.proofs.Refusals.{refusals}
use Rattle.demands_with.proofs.Tied.{agrees_or, called_yes, called_no, tied}
use Rattle.demands.specs.Calls.{Call, opens, allocates, releases, extends, shortens, called, refusals_of, handed_back, OnSpace}
use Rattle.demands.specs.Calls.{allocating, releasing, extending, shortening, Ran, ran, releases_of}
use Rattle.demands.specs.Demands.{Answered, accepted, refused, KeptSound, Unique}
use Rattle.demands.specs.Rows.{Given, given, passed_on, Row}
use Rattle.demands_with.specs.Summaries.{called_with, RefusalsWith, Disagrees, RowWith, ExactlyWith, KeptAgreeing, KeepsWith, ran_with}
use Rattle.demands_with.specs.Summaries.{RunsWith, totals_of, AnyOrderWith, TwoOrdersWith, UniqueWith, OneResultWith}
use Rattle.pages.proofs.Numbers.{not_both}
use Rattle.pieces.specs.Words.{entries}
use Rattle.refusals.specs.AnswerNumbers.{not_sound}
use Rattle.rules.specs.Editing.{Name}
use Rattle.space.proofs.OpenLaws.{opened_refused, opened_done}
use Rattle.space.proofs.OutcomeLaws.{is_sound_true, sound_true}
use Rattle.space.specs.Opening.{nowhere, opened, default_page, default_limit}
use Rattle.space.specs.Outcomes.{SoundSpace, soundb, entries_of, Outcome, refused as refusal}
use Rattle.space.specs.Said.{open_said, allocate_said, release_said, extend_said, shorten_said}
use Rattle.space.specs.declared.Space.{Space}
use Rattle.std.specs.Prelude.{Result, Ok, Err}
use Rattle.table.specs.Local.{rangesb}
use Rattle.totals.proofs.TallyLaws.{no_entries}
use Rattle.totals.specs.Summary.{summary_of, no_totals}
use Rattle.totals.specs.declared.Summary.{Summary}

-- ---- the calls that take a state, and the others

data Kind : Call → Type 0 where
  on_space : {c : Call} → OnSpace c → Kind c
  an_opening : (P M : ℕ) → Kind (opens P M)

kind : (c : Call) → Kind c
kind (opens P M) = an_opening P M
kind (allocates t s) = on_space allocating
kind (releases a z) = on_space releasing
kind (extends a z m) = on_space extending
kind (shortens a z k) = on_space shortening

-- 2 is among the numbers of each
two_among : {c : Call} → OnSpace c → Memᴰ not_sound (refusals_of c)
two_among allocating = Memᴰ.head refl
two_among releasing = Memᴰ.head refl
two_among extending = Memᴰ.head refl
two_among shortening = Memᴰ.head refl

disagrees : {c : Call} (sp : Space) (w : List ℕ) (s : Summary) → OnSpace c → (Agrees sp w s → ⊥) → Disagrees c sp w s
disagrees sp w s allocating n = n
disagrees sp w s releasing n = n
disagrees sp w s extending n = n
disagrees sp w s shortening n = n

agreeing : {c : Call} (sp : Space) (w : List ℕ) (s : Summary) → OnSpace c → Agrees sp w s → Disagrees c sp w s → ⊥
agreeing sp w s allocating a n = n a
agreeing sp w s releasing a n = n a
agreeing sp w s extending a n = n a
agreeing sp w s shortening a n = n a

-- ---- one call

module _ (sp : Space) (w : List ℕ) (s : Summary) {c : Call} (on : OnSpace c) where
  said_yes : Agrees sp w s → (called_with c sp w s).said ≡ called c sp w
  said_yes a = tied.same c sp w s on a

  said_no : (Agrees sp w s → ⊥) → (called_with c sp w s).said ≡ refusal not_sound sp w
  said_no n = ap (λ (r : Told Outcome). r.said) (called_no sp w s on n)

  answered_on : Answered (refusals_of c) (handed_back c sp) w (called_with c sp w s).said
  answered_on =
      agrees_or sp w s
      (λ a. subst⁻¹ (Answered (refusals_of c) (handed_back c sp) w) (said_yes a) (refusals.calls c sp w))
      (λ n. subst⁻¹ (Answered (refusals_of c) (handed_back c sp) w) (said_no n) (refused (two_among on) (sym (handed_back_lem sp on)) refl))

  summary_on : ((called_with c sp w s).said.refusal ≡ 0 → ⊥) → (called_with c sp w s).summary ≡ s
  summary_on r =
      agrees_or sp w s
      (λ a. ap (λ (o : Told Outcome). o.summary) (called_yes sp w s on a)
      ∙ unless_refused_lem (summed sp (called c sp w)) s (λ e. r (ap (λ (o : Outcome). o.refusal) (said_yes a) ∙ e)))
      (λ n. ap (λ (o : Told Outcome). o.summary) (called_no sp w s on n))

  row_on : RowWith c sp w s (called_with c sp w s).said.refusal
  row_on =
      agrees_or sp w s
      (λ a. passed_on (agreeing sp w s on a) (subst⁻¹ (λ (o : Outcome). Row c sp w o.refusal) (said_yes a) (exactly.calls c sp w)))
      (λ n. given (disagrees sp w s on n) (ap (λ (o : Outcome). o.refusal) (said_no n)))

  -- the summary agrees with what is left
  left_agrees : Agrees sp w s → Agrees (called c sp w).state (called c sp w).words (after sp s (called c sp w))
  left_agrees a = go (eqb (called c sp w).refusal 0) refl
    where
      as_it_came : ((called c sp w).refusal ≡ 0 → ⊥) → Answered (refusals_of c) (handed_back c sp) w (called c sp w)
          → Agrees (called c sp w).state (called c sp w).words (after sp s (called c sp w))
      as_it_came n (accepted e) = absurd (n e)
      as_it_came n (refused i e f) = rw (unless_refused_lem (summed sp (called c sp w)) s n, e, handed_back_lem sp on, f) a

      go : (t : Bool) → eqb (called c sp w).refusal 0 ≡ t → Agrees (called c sp w).state (called c sp w).words (after sp s (called c sp w))
      go true e = rw (unless_accepted (summed sp (called c sp w)) s (eqb-true (called c sp w).refusal 0 e))
      go false e = as_it_came (eqb-false (called c sp w).refusal 0 e) (refusals.calls c sp w)

  kept_on : SoundSpace sp w → Agrees sp w s
      → KeptAgreeing sp w (called_with c sp w s).said.state (called_with c sp w s).said.words (called_with c sp w s).summary
  kept_on h a = rw (called_yes sp w s on a) (record { kept = keeps.calls c sp w on h; agrees = left_agrees a })

-- ---- an opening

called_open : (P M : ℕ) (sp : Space) (w : List ℕ) → (opened P M w).refusal ≡ 0 → (called (opens P M) sp w).refusal ≡ 0
unfolding called
called_open P M sp w e = e

module _ (P M : ℕ) (sp : Space) (w : List ℕ) (s : Summary) where
  opening_summary : ((opened P M w).refusal ≡ 0 → ⊥) → (called_with (opens P M) sp w s).summary ≡ s
  unfolding called_with opened_with
  opening_summary n = unless_refused_lem no_totals s n

  -- the file is empty then, and so is its summary
  opening_kept_with : (opened P M w).refusal ≡ 0
      → KeptAgreeing (record { page = P; limit = M; end = 0; count = 0 }) w (called_with (opens P M) sp w s).said.state
      (called_with (opens P M) sp w s).said.words (called_with (opens P M) sp w s).summary
  unfolding called_with opened_with entries
  opening_kept_with e = record { kept = keeps.opening P M w e; agrees = rw (unless_accepted no_totals s e) (empty (rangesb P M 0 0 (length w)) refl) }
    where
      empty : (t : Bool) → rangesb P M 0 0 (length w) ≡ t → Agrees (opened P M w).state (opened P M w).words no_totals
      empty true f = rw (opened_done P M w f) no_entries
      empty false f = absurd (omega (arith, sym (ap (λ (o : Outcome). o.refusal) (opened_refused P M w f)) ∙ e))

-- ---- the statements on one call

refusals_calls : (c : Call) (sp : Space) (w : List ℕ) (s : Summary) → Answered (refusals_of c) (handed_back c sp) w (called_with c sp w s).said
refusals_calls c sp w s = go (kind c)
  where
    go : {d : Call} → Kind d → Answered (refusals_of d) (handed_back d sp) w (called_with d sp w s).said
    go (on_space on) = answered_on sp w s on
    go (an_opening P M) = subst⁻¹ (Answered _ _ w) (tied.opening P M sp w s) (refusals.calls (opens P M) sp w)

refusals_summary : (c : Call) (sp : Space) (w : List ℕ) (s : Summary) → ((called_with c sp w s).said.refusal ≡ 0 → ⊥) → (called_with c sp w s).summary ≡ s
refusals_summary c sp w s = go (kind c)
  where
    go : {d : Call} → Kind d → ((called_with d sp w s).said.refusal ≡ 0 → ⊥) → (called_with d sp w s).summary ≡ s
    go (on_space on) = summary_on sp w s on
    go (an_opening P M) = λ n. opening_summary P M sp w s (λ e. n (ap (λ (o : Outcome). o.refusal) (tied.opening P M sp w s) ∙ called_open P M sp w e))

-- the summary worked out afresh
module _ (sp : Space) (w : List ℕ) (s : Summary) where
  fresh_not : soundb sp w ≡ false → freshened sp w s ≡ told (refusal not_sound sp w) s
  fresh_not e = sym (freshened_not sp w s e)

  fresh_done : soundb sp w ≡ true → freshened sp w s ≡ told (record { refusal = 0; state = sp; words = w }) (summary_of (pos 0) (entries_of sp w))
  fresh_done e = sym (freshened_done sp w s e)

  fresh_or : {X : Type 0} → (freshened sp w s ≡ told (refusal not_sound sp w) s → soundb sp w ≡ false → X)
      → (freshened sp w s ≡ told (record { refusal = 0; state = sp; words = w }) (summary_of (pos 0) (entries_of sp w)) → soundb sp w ≡ true → X) → X
  fresh_or {X} f g = go (soundb sp w) refl
    where
      go : (t : Bool) → soundb sp w ≡ t → X
      go false e = f (fresh_not e) e
      go true e = g (fresh_done e) e

  fresh_answered : Answered (not_sound ∷ []) sp w (freshened sp w s).said
  fresh_answered =
      fresh_or (λ q e. rw q (refused (Memᴰ.head refl) refl refl)) (λ q e. rw q (accepted refl))

  fresh_summary : ((freshened sp w s).said.refusal ≡ 0 → ⊥) → (freshened sp w s).summary ≡ s
  fresh_summary n =
      fresh_or (λ q e. ap (λ (r : Told Outcome). r.summary) q) (λ q e. absurd (n (ap (λ (r : Told Outcome). r.said.refusal) q)))

  fresh_row : Given (freshened sp w s).said.refusal not_sound (SoundSpace sp w → ⊥) ((freshened sp w s).said.refusal ≡ 0)
  fresh_row =
      fresh_or (λ q e. given (λ h. not_both (sound_true sp w h) e) (ap (λ (r : Told Outcome). r.said.refusal) q))
      (λ q e. passed_on (λ n. n (is_sound_true sp w e)) (ap (λ (r : Told Outcome). r.said.refusal) q))

  fresh_kept : SoundSpace sp w
      → ((freshened sp w s).said ≡ record { refusal = 0; state = sp; words = w }) × Agrees sp w (freshened sp w s).summary
      × ((freshened sp w s).summary.moved ≡ pos 0)
  fresh_kept h =
      let q = fresh_done (sound_true sp w h) in
      (ap (λ (r : Told Outcome). r.said) q, rw q refl, ap (λ (r : Told Outcome). r.summary.moved) q)

pub refusals_with : RefusalsWith
refusals_with = record { calls = refusals_calls; summary = refusals_summary; fresh = fresh_answered; fresh_summary = fresh_summary }

exactly_calls : (c : Call) (sp : Space) (w : List ℕ) (s : Summary) → RowWith c sp w s (called_with c sp w s).said.refusal
exactly_calls c sp w s = go (kind c)
  where
    go : {d : Call} → Kind d → RowWith d sp w s (called_with d sp w s).said.refusal
    go (on_space on) = row_on sp w s on
    go (an_opening P M) =
        passed_on (λ n. n)
        (subst⁻¹ (λ (o : Outcome). Row (opens P M) sp w o.refusal) (tied.opening P M sp w s) (exactly.calls (opens P M) sp w))

pub exactly_with : ExactlyWith
exactly_with = record { calls = exactly_calls; fresh = fresh_row; one = λ c sp w s r r'. same (exactly.one c sp w r r') }

pub keeps_with : KeepsWith
keeps_with = record { opening = opening_kept_with; calls = λ c sp w s on h a. kept_on sp w s on h a; fresh = fresh_kept }

-- ---- runs

-- the run is that of the calls without a summary, and the summary agrees with what it leaves
record RunTied (cs : List Call) (sp : Space) (w : List ℕ) (s : Summary) : Type 0 where
  same_run : (ran_with cs sp w s).ran ≡ ran cs sp w
  agrees : Agrees (ran cs sp w).state (ran cs sp w).words (ran_with cs sp w s).summary

then : ℕ → Ran → Ran
then k r = record { refusals = k ∷ r.refusals; state = r.state; words = r.words }

run_tied : (cs : List Call) (sp : Space) (w : List ℕ) (s : Summary) → ((c : Call) → Memᴰ c cs → OnSpace c) → Agrees sp w s → RunTied cs sp w s
unfolding ran ran_with then
run_tied [] sp w s on a = record { same_run = refl; agrees = a }
run_tied (c ∷ cs) sp w s on a =
    let o = on c (Memᴰ.head refl) in
    let next = left_agrees sp w s o a in
    let r = run_tied cs (called c sp w).state (called c sp w).words (after sp s (called c sp w)) (λ d i. on d (Memᴰ.tail i)) next in
    let q = called_yes sp w s o a in
    let rest : Ran = ran cs (called c sp w).state (called c sp w).words in
    record {
      same_run =
          ap (λ (t : Told Outcome). then t.said.refusal (ran_with cs t.said.state t.said.words t.summary).ran) q
          ∙ ap (then (called c sp w).refusal) r.same_run;
      agrees =
          subst⁻¹ (λ (t : Told Outcome). Agrees rest.state rest.words (ran_with cs t.said.state t.said.words t.summary).summary) q
          r.agrees;
    }

-- what an opening leaves
opening_agrees : (P M : ℕ) (w : List ℕ) (s : Summary) → (opened P M w).refusal ≡ 0
    → Agrees (opened P M w).state (opened P M w).words (opened_with P M w s).summary
unfolding called_with opened_with
opening_agrees P M w s e = (opening_kept_with P M nowhere w s e).agrees

pub runs_with : RunsWith
unfolding opened_with
runs_with P M w s cs e on =
    let none : Summary = (opened_with P M w s).summary in
    let t = run_tied cs (opened P M w).state (opened P M w).words none on (opening_agrees P M w s e) in
    let last : Summary = (ran_with cs (opened P M w).state (opened P M w).words none).summary in
    record {
      kept = subst⁻¹ (λ (v : Ran). KeptSound (opened P M w).state w v.state v.words) t.same_run (runs P M w cs e on);
      agrees = subst⁻¹ (λ (v : Ran). Agrees v.state v.words last) t.same_run t.agrees;
    }

-- ---- any order

releasing_all : (ns : List Name) (c : Call) → Memᴰ c (releases_of ns) → OnSpace c
unfolding releases_of
releasing_all (n ∷ ns) c (Memᴰ.head e) = rw e releasing
releasing_all (n ∷ ns) c (Memᴰ.tail i) = releasing_all ns c i
releasing_all [] c x' = elim x' [ ]

pub any_order_with : AnyOrderWith
any_order_with =
    record {
      left = λ sp w s ns ms h a p. (run_tied (releases_of ms) sp w s (releasing_all ms) a).same_run ∙ any_order sp w ns ms h p;
      totals = λ sp w s ns ms h a p.
          subst (λ (v : Ran). Agrees v.state v.words (ran_with (releases_of ms) sp w s).summary) (any_order sp w ns ms h p)
          (run_tied (releases_of ms) sp w s (releasing_all ms) a).agrees;
    }

-- two summaries of one table are equal but for the signed number
same_totals : (sp : Space) (w : List ℕ) (s t : Summary) → Agrees sp w s → Agrees sp w t → totals_of s ≡ totals_of t
same_totals sp w s t a b = ap totals_of a ∙ sym (ap totals_of b)

pub two_orders_with : TwoOrdersWith
two_orders_with =
    record {
      left = λ sp w s ns ms h a p.
          (run_tied (releases_of ns) sp w s (releasing_all ns) a).same_run
          ∙ (two_orders sp w ns ms h p ∙ sym (run_tied (releases_of ms) sp w s (releasing_all ms) a).same_run);
      totals = λ sp w s ns ms h a p.
          let x = (run_tied (releases_of ns) sp w s (releasing_all ns) a).agrees in
          let y = (run_tied (releases_of ms) sp w s (releasing_all ms) a).agrees in
          let x' = subst (λ (v : Ran). Agrees v.state v.words (ran_with (releases_of ns) sp w s).summary) (two_orders sp w ns ms h p) x in
          let last = ran (releases_of ms) sp w in
          same_totals last.state last.words _ _ x' y;
    }

-- ---- uniqueness

unique_with : {R O : Type 0} (said : R → List ℕ → O) → ((o : O) → Unique said o) → (o : Told O) → UniqueWith said o
unique_with said u o r r' v v' s s' e e' =
    let one = u o.said r r' v v' (ap (λ t. t.said) e) (ap (λ t. t.said) e') in
    (one.0, one.1, ap (λ t. t.summary) (e ∙ sym e'))

fresh_of : ℕ → Result Unit FreshRefusal
fresh_of k = cond (eqb k 0) (Ok tt) (Err fresh.NotSound)

fresh_back : (a : Result Unit FreshRefusal) → fresh_of (fresh_number a) ≡ a
unfolding fresh_of
fresh_back (Ok u) = refl
fresh_back (Err fresh.NotSound) = refl

fresh_unique : (o : Outcome) → Unique fresh_said o
fresh_unique =
    unique fresh_said (λ o. record { space = o.state; answer = fresh_of o.refusal }) (λ o. o.words)
    (λ r v i. record { space = r.space; answer = fresh_back r.answer i }) (λ r v. refl)

pub one_result_with : OneResultWith
one_result_with =
    record {
      opening = λ P M w s. unique_with open_said open_unique (opened_with P M w s);
      default_opening = λ w s. unique_with open_said open_unique (opened_with default_page default_limit w s);
      allocating = λ sp t z w s. unique_with allocate_said allocate_unique (allocated_with sp t z w s);
      releasing = λ sp a z w s. unique_with release_said release_unique (released_with sp a z w s);
      extending = λ sp a z m w s. unique_with extend_said resize_unique (extended_with sp a z m w s);
      shortening = λ sp a z k w s. unique_with shorten_said resize_unique (shortened_with sp a z k w s);
      fresh = λ sp w s. unique_with fresh_said fresh_unique (freshened sp w s);
    }
