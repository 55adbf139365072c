-- The proofs of specs/Areas.antt.
--
-- In this order: the two ways of what a call leaves; the statements on single calls; runs; releases in any order.
use Prim.Native.Nat.{ℕ, ◌≤◌}
use mathlib.Core.Bool.{Bool, true, false}
use mathlib.Core.List.{List, [], ◌∷◌, Memᴰ, Permᴰ}
use mathlib.Core.Path.{◌≡◌, refl, sym, ap, ◌∙◌, subst}
use native.Mathlib.Decide.{ℕ_discrete}
use native.Mathlib.Omega.{arith}
use lib.ListN.{length, take, drop, replicate}
use lib.Seq.{take_at, drop_at}
use Rattle.area_bytes.proofs.AreaLaws.{area_lengths, area_fits, length_area, area_read, area_written}
use Rattle.area_bytes.specs.Area.{AreaLength, area_lengthb, table_at, table_words, state_in, words_in, area_of}
use Rattle.area_calls.proofs.CallLaws.{in_other, in_done, in_refused, with_done, with_refused, in_short, in_enough}
use Rattle.area_calls.specs.Calls.{Left, LeftBoth, left_by, in_area, allocated_in}
use Rattle.area_promises.specs.Areas.{wrong_length, called_in, ran_in, AreaBytes, AreaCalls, AreaRefused, AreaDone, RunsAlike, AreaRuns}
use Rattle.area_promises.specs.Areas.{AreaAnyOrder, OneArea}
use Rattle.area_promises.proofs.WordLaws.{sound_words, bytes_area}
use Rattle.demands.proofs.AnyOrder.{any_order, two_orders}
use Rattle.demands.proofs.Keeps.{keeps, handed_back_lem}
use Rattle.demands.proofs.Refusals.{refusals}
use Rattle.demands.specs.Calls.{Call, opens, allocates, releases, extends, shortens, called, OnSpace, allocating, releasing, extending, shortening}
use Rattle.demands.specs.Calls.{refusals_of, handed_back, Ran, ran, releases_of}
use Rattle.demands.specs.Demands.{Answered, accepted, refused, Releasable}
use Rattle.little.proofs.LittleLaws.{length_numbers, length_bytes_of}
use Rattle.little.specs.Little.{word_bytes, bytes_of, laid, Bytes}
use Rattle.pages.proofs.Numbers.{split}
use Rattle.refusals.specs.AnswerNumbers.{not_sound}
use Rattle.rules.specs.Editing.{Name}
use Rattle.space.proofs.GiveLaws.{released_unsound, resized_unsound}
use Rattle.space.proofs.OutcomeLaws.{is_sound_true}
use Rattle.space.proofs.PlaceLaws.{allocated_unsound}
use Rattle.space.specs.Outcomes.{SoundSpace, soundb, Outcome, refused as refused_with}
use Rattle.space.specs.Placing.{Placed, allocated}
use Rattle.space.specs.declared.Space.{Space}
use Rattle.space.specs.declared.give.Way.TheVariants.{Longer, Shorter}

-- ---- the two ways of what a call leaves

module _ (k : ℕ) (b : List ℕ) (o : Outcome) where
  data Ways : Type 0 where
    as_came : (in_area k b o).area ≡ b → Ways
    done : area_lengthb (length b) ≡ true → o.refusal ≡ 0 → (in_area k b o).area ≡ left_by o → Ways

  ways : Ways
  ways = go (area_lengthb (length b)) refl
    where
      go : (t : Bool) → area_lengthb (length b) ≡ t → Ways
      go false e = as_came (ap (λ (l : Left). l.area) (in_other k b o e))
      go true e =
          elim (ℕ_discrete o.refusal 0) [
            | yes z ↦ done e z (ap (λ (l : Left). l.area) (in_done k b o e z))
            | no n ↦ as_came (ap (λ (l : Left). l.area) (in_refused k b o e n))
          ]

-- ---- what an accepted call leaves

module _ (sp : Space) (w : List ℕ) where
  unsound : {c : Call} → OnSpace c → soundb sp w ≡ false → called c sp w ≡ refused_with not_sound sp w
  unfolding called
  unsound (allocating {t = t} {s = s}) e = ap (λ (p : Placed). p.outcome) (allocated_unsound sp t s w e)
  unsound (releasing {a = a} {z = z}) e = released_unsound sp a z w e
  unsound (extending {a = a} {z = z} {m = m}) e = resized_unsound sp a z Longer m w e
  unsound (shortening {a = a} {z = z} {k = k}) e = resized_unsound sp a z Shorter k w e

  was_sound : {c : Call} → OnSpace c → (called c sp w).refusal ≡ 0 → SoundSpace sp w
  was_sound {c} on e = go (soundb sp w) refl
    where
      go : (t : Bool) → soundb sp w ≡ t → SoundSpace sp w
      go true f = is_sound_true sp w f
      go false f = absurd (omega (arith, sym (ap (λ (o : Outcome). o.refusal) (unsound on f)) ∙ e))

  record Kept (o : Outcome) : Type 0 where
    pub sound : SoundSpace o.state o.words
    pub slice : length o.words ≡ length w

  on_kept : {c : Call} → OnSpace c → (called c sp w).refusal ≡ 0 → Kept (called c sp w)
  on_kept {c} on e = let k = keeps.calls c sp w on (was_sound on e) in record { sound = k.sound; slice = k.slice }

  kept : (c : Call) → (called c sp w).refusal ≡ 0 → Kept (called c sp w)
  unfolding called
  kept (opens P M) e = let k = keeps.opening P M w e in record { sound = k.sound; slice = k.slice }
  kept (allocates t s) e = on_kept allocating e
  kept (releases a z) e = on_kept releasing e
  kept (extends a z m) e = on_kept extending e
  kept (shortens a z k) e = on_kept shortening e

-- ---- single calls

wrong_some : (c : Call) → wrong_length c ≡ 0 → ⊥
wrong_some (opens P M) e = omega (arith, e)
wrong_some (allocates t s) e = omega (arith, e)
wrong_some (releases a z) e = omega (arith, e)
wrong_some (extends a z m) e = omega (arith, e)
wrong_some (shortens a z k) e = omega (arith, e)

module _ (c : Call) (b : List ℕ) where
  abbrev left_by_it : Outcome
  left_by_it = called c (state_in b) (words_in b)

  number_is : area_lengthb (length b) ≡ true → (called_in c b).refusal ≡ left_by_it.refusal
  number_is e =
      elim (ℕ_discrete left_by_it.refusal 0) [
        | yes z ↦ ap (λ (l : Left). l.refusal) (in_done (wrong_length c) b left_by_it e z)
        | no n ↦ ap (λ (l : Left). l.refusal) (in_refused (wrong_length c) b left_by_it e n)
      ]

  -- an accepted call is one on an area
  accepted_form : (called_in c b).refusal ≡ 0 → area_lengthb (length b) ≡ true
  accepted_form e = go (area_lengthb (length b)) refl
    where
      go : (t : Bool) → area_lengthb (length b) ≡ t → area_lengthb (length b) ≡ true
      go true f = f
      go false f = absurd (wrong_some c (sym (ap (λ (l : Left). l.refusal) (in_other (wrong_length c) b left_by_it f)) ∙ e))

  accepted_area : area_lengthb (length b) ≡ true → left_by_it.refusal ≡ 0 → (called_in c b).area ≡ left_by left_by_it
  accepted_area f e = ap (λ (l : Left). l.area) (in_done (wrong_length c) b left_by_it f e)

  left_same : ((called_in c b).refusal ≡ 0 → ⊥) → (called_in c b).area ≡ b
  left_same n = go (ways (wrong_length c) b left_by_it)
    where
      go : Ways (wrong_length c) b left_by_it → (called_in c b).area ≡ b
      go (as_came e) = e
      go (done f e g) = absurd (n (number_is f ∙ e))

  -- what is read out of the area then
  read_back : area_lengthb (length b) ≡ true → left_by_it.refusal ≡ 0
      → (state_in (called_in c b).area ≡ left_by_it.state) × (words_in (called_in c b).area ≡ left_by_it.words)
  read_back f e =
      let w = area_written left_by_it.state left_by_it.words (sound_words left_by_it.state left_by_it.words (kept (state_in b) (words_in b) c e).sound) in
      let g = accepted_area f e in
      (ap state_in g ∙ w.0, ap words_in g ∙ w.1)

  long : length (called_in c b).area ≡ length b
  long = go (ways (wrong_length c) b left_by_it)
    where
      go : Ways (wrong_length c) b left_by_it → length (called_in c b).area ≡ length b
      go (as_came e) = ap length e
      go (done f e g) =
          let many = (kept (state_in b) (words_in b) c e).slice ∙ length_numbers word_bytes (table_words (length b)) (drop table_at b) in
          ap length g ∙ (length_area left_by_it.state left_by_it.words ∙ omega (arith, many, (area_fits (length b) f).1))

pub area_bytes_lem : AreaBytes
area_bytes_lem = record { lengths = area_lengths; read = area_read; written = area_written }

pub area_calls_lem : AreaCalls
unfolding called
area_calls_lem =
    record {
      opening = λ P M b. refl;
      releasing = λ a z b. refl;
      extending = λ a z m b. refl;
      shortening = λ a z k b. refl;
      allocating = λ t s b r h. ap (λ (l : LeftBoth). l.left) (in_enough t s b r h);
    }

no_area : (len : ℕ) → (AreaLength len → ⊥) → area_lengthb len ≡ false
no_area len n = go (area_lengthb len) refl
  where
    go : (t : Bool) → area_lengthb len ≡ t → area_lengthb len ≡ false
    go true e = absurd (n ((area_lengths len).1 e))
    go false e = e

module _ (t s : ℕ) (b r : List ℕ) where
  abbrev left_there : Left
  left_there = in_area not_sound b (allocated (state_in b) t s (words_in b)).outcome

  refused_result : ((allocated_in t s b r).left.refusal ≡ 0 → ⊥) → (allocated_in t s b r).result ≡ r
  refused_result n =
      split word_bytes (length r)
      (λ h. let e = in_enough t s b r h in
      ap (λ (l : LeftBoth). l.result) (e ∙ with_refused _ r left_there (λ z. n (ap (λ (l : LeftBoth). l.left.refusal) e ∙ z))))
      (λ h. ap (λ (l : LeftBoth). l.result) (in_short t s b r h))

  -- an accepted one had room
  room : (allocated_in t s b r).left.refusal ≡ 0 → word_bytes ≤ length r
  room e =
      split word_bytes (length r) (λ h. h)
      (λ h. absurd (omega (arith, sym (ap (λ (l : LeftBoth). l.left.refusal) (in_short t s b r h)) ∙ e)))

  laid_result : (allocated_in t s b r).left.refusal ≡ 0
      → (allocated_in t s b r).result ≡ laid 0 word_bytes (bytes_of word_bytes (allocated (state_in b) t s (words_in b)).address) r
  laid_result e =
      let f = in_enough t s b r (room e) in
      ap (λ (l : LeftBoth). l.result) (f ∙ with_done _ r left_there (sym (ap (λ (l : LeftBoth). l.left.refusal) f) ∙ e))

  later_result : drop word_bytes (allocated_in t s b r).result ≡ drop word_bytes r
  later_result =
      elim (ℕ_discrete (allocated_in t s b r).left.refusal 0) [
        | yes e ↦ ap (λ (l : List ℕ). drop word_bytes l) (laid_result e) ∙ drop_at (bytes_of word_bytes _) (drop word_bytes r) word_bytes (length_bytes_of word_bytes _)
        | no n ↦ ap (λ (l : List ℕ). drop word_bytes l) (refused_result n)
      ]

pub area_refused : AreaRefused
area_refused =
    record {
      calls = left_same;
      other_length = λ c b n. in_other (wrong_length c) b (called c (state_in b) (words_in b)) (no_area (length b) n);
      short_result = in_short;
      result = refused_result;
    }

pub area_done : AreaDone
area_done =
    record {
      number = λ c b h. number_is c b ((area_lengths (length b)).0 h);
      state = λ c b e. let f = accepted_form c b e in (read_back c b f (sym (number_is c b f) ∙ e)).0;
      words = λ c b e. let f = accepted_form c b e in (read_back c b f (sym (number_is c b f) ∙ e)).1;
      same_length = long;
      address = λ t s b r e.
          ap (λ (l : List ℕ). take word_bytes l) (laid_result t s b r e) ∙ take_at (bytes_of word_bytes _) (drop word_bytes r) word_bytes (length_bytes_of word_bytes _);
      later = later_result;
    }

-- ---- runs

-- a call that takes a state leaves in the area what it leaves
step : (c : Call) (b : List ℕ) → OnSpace c → area_lengthb (length b) ≡ true
    → (state_in (called_in c b).area ≡ (called c (state_in b) (words_in b)).state) × (words_in (called_in c b).area ≡ (called c (state_in b) (words_in b)).words)
step c b on f = elim (ℕ_discrete (called c (state_in b) (words_in b)).refusal 0) [ yes e ↦ read_back c b f e | no n ↦ go n (refusals.calls c (state_in b) (words_in b)) ]
  where
    go : ((called c (state_in b) (words_in b)).refusal ≡ 0 → ⊥) → Answered (refusals_of c) (handed_back c (state_in b)) (words_in b) (called c (state_in b) (words_in b))
        → (state_in (called_in c b).area ≡ (called c (state_in b) (words_in b)).state) × (words_in (called_in c b).area ≡ (called c (state_in b) (words_in b)).words)
    go n (accepted e) = absurd (n e)
    go n (refused i e g) =
        let same = left_same c b (λ z. n (sym (number_is c b f) ∙ z)) in
        (ap state_in same ∙ sym (e ∙ handed_back_lem (state_in b) on), ap words_in same ∙ sym g)

pub area_runs : AreaRuns
unfolding ran_in ran
area_runs cs b on h = alike cs b on ((area_lengths (length b)).0 h)
  where
    alike : (cs : List Call) (b : List ℕ) → ((c : Call) → Memᴰ c cs → OnSpace c) → area_lengthb (length b) ≡ true → RunsAlike cs b
    alike [] b on f = record { refusals = refl; state = refl; words = refl }
    alike (c ∷ cs) b on f =
        let s = step c b (on c (Memᴰ.head refl)) f in
        let next = (called_in c b).area in
        let g : area_lengthb (length next) ≡ true = rw (long c b) f in
        let r = alike cs next (λ d i. on d (Memᴰ.tail i)) g in
        let then : ran cs (state_in next) (words_in next) ≡ ran cs (called c (state_in b) (words_in b)).state (called c (state_in b) (words_in b)).words =
        λ i. ran cs (s.0 i) (s.1 i) in
        record {
          refusals = λ i. number_is c b f i ∷ (r.refusals ∙ ap (λ (x : Ran). x.refusals) then) i;
          state = r.state ∙ ap (λ (x : Ran). x.state) then;
          words = r.words ∙ ap (λ (x : Ran). x.words) then;
        }

-- ---- releases in any order

releases_on : (ns : List Name) (c : Call) → Memᴰ c (releases_of ns) → OnSpace c
unfolding releases_of
releases_on [] c x = elim x [ ]
releases_on (n ∷ ns) c (Memᴰ.head e) = subst OnSpace (sym e) releasing
releases_on (n ∷ ns) c (Memᴰ.tail i) = releases_on ns c i

-- a run leaves bytes, as many as there were
ran_long : (cs : List Call) (b : List ℕ) → length (ran_in cs b).area ≡ length b
unfolding ran_in
ran_long [] b = refl
ran_long (c ∷ cs) b = ran_long cs (called_in c b).area ∙ long c b

call_bytes : (c : Call) (b : List ℕ) → Bytes b → Bytes (called_in c b).area
call_bytes c b h = go (ways (wrong_length c) b (called c (state_in b) (words_in b)))
  where
    go : Ways (wrong_length c) b (called c (state_in b) (words_in b)) → Bytes (called_in c b).area
    go (as_came e) = subst Bytes (sym e) h
    go (done f e g) = subst Bytes (sym g) (bytes_area _ _)

ran_bytes : (cs : List Call) (b : List ℕ) → Bytes b → Bytes (ran_in cs b).area
unfolding ran_in
ran_bytes [] b h = h
ran_bytes (c ∷ cs) b h = ran_bytes cs (called_in c b).area (call_bytes c b h)

module _ (b : List ℕ) (ns ms : List Name) (f : AreaLength (length b)) (r : Releasable (state_in b) (words_in b) ns) (p : Permᴰ ns ms) where
  all_accepted : (ran_in (releases_of ms) b).refusals ≡ replicate (length ms) 0
  all_accepted =
      (area_runs (releases_of ms) b (releases_on ms) f).refusals ∙ ap (λ (x : Ran). x.refusals) (any_order (state_in b) (words_in b) ns ms r p)

  bytes_same : Bytes b → (ran_in (releases_of ns) b).area ≡ (ran_in (releases_of ms) b).area
  bytes_same h =
      let x = (ran_in (releases_of ns) b).area in
      let y = (ran_in (releases_of ms) b).area in
      let one = area_runs (releases_of ns) b (releases_on ns) f in
      let two = area_runs (releases_of ms) b (releases_on ms) f in
      let same = two_orders (state_in b) (words_in b) ns ms r p in
      let state : state_in x ≡ state_in y = one.state ∙ (ap (λ (z : Ran). z.state) same ∙ sym two.state) in
      let words : words_in x ≡ words_in y = one.words ∙ (ap (λ (z : Ran). z.words) same ∙ sym two.words) in
      let form = (area_lengths (length b)).0 f in
      let form_x : area_lengthb (length x) ≡ true = rw (ran_long (releases_of ns) b) form in
      let form_y : area_lengthb (length y) ≡ true = rw (ran_long (releases_of ms) b) form in
      sym (area_read x (ran_bytes (releases_of ns) b h) form_x) ∙ ((λ i. area_of (state i) (words i)) ∙ area_read y (ran_bytes (releases_of ms) b h) form_y)

pub area_any_order : AreaAnyOrder
area_any_order = record { accepted = all_accepted; same_bytes = λ b ns ms h f r p. bytes_same b ns ms f r p h }

-- ---- one result

pub one_area : OneArea
one_area =
    record {
      calls = λ o k k' b b' e f. let g = e ∙ sym f in (ap (λ (l : Left). l.refusal) g, ap (λ (l : Left). l.area) g);
      allocating = λ o k k' b b' r r' e f. let g = e ∙ sym f in
          (ap (λ (l : LeftBoth). l.left.refusal) g, (ap (λ (l : LeftBoth). l.left.area) g, ap (λ (l : LeftBoth). l.result) g));
    }
