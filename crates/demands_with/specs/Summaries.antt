-- What the customer signs on of the calls with a summary. One statement, `Tied`, ties each to the call without one; by it the others speak of
-- what was said of those: refusals and their rows, sound tables, runs, and any order.
--
--   Tied             where the summary agrees with the table, a call with it is the call without it, and leaves the summary of the new table; where
--                    it does not, the call is refused 2 and nothing is changed. An opening looks at none, and sets every number to 0
--   RefusalsWith     demand 1: accepted, or refused with a number of its row, and the state, every word and every number as they came
--   ExactlyWith      each refusal is given exactly when its row says: 2 where the summary disagrees, and else the row of the call without one
--   KeepsWith        demand 2: state and table stay sound together, and the summary agrees with the table
--   RunsWith         so from an accepted opening on, through every run of calls
--   AnyOrderWith     demand 3: from a summary that agrees, releases in any order are all accepted, and end with the one state, table and totals
--   TwoOrdersWith    the same said of two orders side by side: the signed number alone may differ
--   OneResultWith    each call's promise allows one result: answer, state, lent words and every number
--
-- The words that they use; those of the calls without a summary are in Calls.antt, Rows.antt and Demands.antt of demands/specs:
--
--   called_with c sp w s     what the call c leaves of state and table, and the summary
--   Disagrees c sp w s       the summary disagrees with the table, and c looks at it
--   RowWith c sp w s r       the row of the call c with the summary s: its answer has the number r
--   KeptAgreeing sp w r      r is sound as `KeptSound` says, and its summary agrees with its table
--   RanWith, ran_with cs sp w s   a run of calls, each with the state, the words and the summary that the one before it left
--   totals_of s              the summary s with 0 for the signed number
--   UniqueWith said o        one result, one list of words and one summary say o
--
-- `Agrees`, that but for the signed number a summary is that of the table, is in by_value/specs/With.antt; what the summary of a table is, in
-- totals/specs/Summary.antt, and once more by what each number is, in totals/specs/Described.antt.
use Rattle.std.specs.Prelude.{ℕ, ◌≡◌, pos, length}
use mathlib.Core.List.{List, [], ◌∷◌, Memᴰ, Permᴰ}
use Rattle.by_value.specs.Told.{Told, told, fresh_said}
use Rattle.by_value.specs.With.{Agrees, summed, opened_with, allocated_with, released_with, extended_with, shortened_with, freshened}
use Rattle.demands.specs.Calls.{Call, opens, allocates, releases, extends, shortens, called, refusals_of, handed_back, OnSpace, Ran, releases_of, remove_all}
use Rattle.demands.specs.Demands.{Answered, KeptSound, Releasable, accepted_all}
use Rattle.demands.specs.Rows.{Given, Row}
use Rattle.refusals.specs.AnswerNumbers.{not_sound}
use Rattle.rules.specs.Editing.{Name}
use Rattle.space.specs.Opening.{opened, default_page, default_limit}
use Rattle.space.specs.Outcomes.{SoundSpace, lives_of, Outcome, refused}
use Rattle.space.specs.Placing.{unplaced, allocated}
use Rattle.space.specs.Said.{open_said, allocate_said, release_said, extend_said, shorten_said}
use Rattle.space.specs.declared.Space.{Space}
use Rattle.totals.specs.Summary.{no_totals}
use Rattle.totals.specs.declared.Summary.{Summary}

unfoldable pub called_with : Call → Space → List ℕ → Summary → Told Outcome
called_with (opens P M) sp w s = opened_with P M w s
called_with (allocates t z) sp w s = let r = allocated_with sp t z w s in told r.said.outcome r.summary
called_with (releases a z) sp w s = released_with sp a z w s
called_with (extends a z m) sp w s = extended_with sp a z m w s
called_with (shortens a z k) sp w s = shortened_with sp a z k w s

-- ---- the tie

pub record Tied : Type 0 where
  -- the summary agrees: the same answer, state and words
  pub same : (c : Call) (sp : Space) (w : List ℕ) (s : Summary) → OnSpace c → Agrees sp w s → (called_with c sp w s).said ≡ called c sp w
  pub same_address : (sp : Space) (t z : ℕ) (w : List ℕ) (s : Summary) → Agrees sp w s → (allocated_with sp t z w s).said ≡ allocated sp t z w
  -- and accepted, it leaves the summary of the new table, with new E minus old E
  pub new_summary : (c : Call) (sp : Space) (w : List ℕ) (s : Summary) → OnSpace c → Agrees sp w s → (called c sp w).refusal ≡ 0
      → (called_with c sp w s).summary ≡ summed sp (called c sp w)
  -- it does not: 2, and nothing changed
  pub refused_2 : (c : Call) (sp : Space) (w : List ℕ) (s : Summary) → OnSpace c → (Agrees sp w s → ⊥) → called_with c sp w s ≡ told (refused not_sound sp w) s
  pub no_address_lem : (sp : Space) (t z : ℕ) (w : List ℕ) (s : Summary) → (Agrees sp w s → ⊥)
      → allocated_with sp t z w s ≡ told (unplaced (refused not_sound sp w)) s
  -- an opening looks at no summary; accepted, it sets every number to 0
  pub opening : (P M : ℕ) (sp : Space) (w : List ℕ) (s : Summary) → (called_with (opens P M) sp w s).said ≡ called (opens P M) sp w
  pub all_0 : (P M : ℕ) (sp : Space) (w : List ℕ) (s : Summary) → (opened P M w).refusal ≡ 0 → (called_with (opens P M) sp w s).summary ≡ no_totals

-- ---- demand 1

pub record RefusalsWith : Type 0 where
  pub calls : (c : Call) (sp : Space) (w : List ℕ) (s : Summary) → Answered (refusals_of c) (handed_back c sp) w (called_with c sp w s).said
  pub summary : (c : Call) (sp : Space) (w : List ℕ) (s : Summary) → ((called_with c sp w s).said.refusal ≡ 0 → ⊥) → (called_with c sp w s).summary ≡ s
  -- the summary worked out afresh
  pub fresh : (sp : Space) (w : List ℕ) (s : Summary) → Answered (not_sound ∷ []) sp w (freshened sp w s).said
  pub fresh_summary : (sp : Space) (w : List ℕ) (s : Summary) → ((freshened sp w s).said.refusal ≡ 0 → ⊥) → (freshened sp w s).summary ≡ s

-- an opening looks at no summary
abbrev pub Disagrees : Call → Space → List ℕ → Summary → Type 0
Disagrees (opens P M) sp w s = ⊥
Disagrees (allocates t z) sp w s = Agrees sp w s → ⊥
Disagrees (releases a z) sp w s = Agrees sp w s → ⊥
Disagrees (extends a z m) sp w s = Agrees sp w s → ⊥
Disagrees (shortens a z k) sp w s = Agrees sp w s → ⊥

abbrev pub RowWith : Call → Space → List ℕ → Summary → ℕ → Type 0
RowWith c sp w s r = Given r not_sound (Disagrees c sp w s) (Row c sp w r)

pub record ExactlyWith : Type 0 where
  pub calls : (c : Call) (sp : Space) (w : List ℕ) (s : Summary) → RowWith c sp w s (called_with c sp w s).said.refusal
  pub fresh : (sp : Space) (w : List ℕ) (s : Summary)
      → Given (freshened sp w s).said.refusal not_sound (SoundSpace sp w → ⊥) ((freshened sp w s).said.refusal ≡ 0)
  -- and a row allows one number
  pub one : (c : Call) (sp : Space) (w : List ℕ) (s : Summary) (r r' : ℕ) → RowWith c sp w s r → RowWith c sp w s r' → r ≡ r'

-- ---- demand 2

pub record KeptAgreeing (sp : Space) (w : List ℕ) (next : Space) (v : List ℕ) (s : Summary) : Type 0 where
  pub kept : KeptSound sp w next v
  pub agrees : Agrees next v s

pub record KeepsWith : Type 0 where
  pub opening : (P M : ℕ) (sp : Space) (w : List ℕ) (s : Summary) → (opened P M w).refusal ≡ 0
      → let r = called_with (opens P M) sp w s in
      KeptAgreeing (record { page = P; limit = M; end = 0; count = 0 }) w r.said.state r.said.words r.summary
  pub calls : (c : Call) (sp : Space) (w : List ℕ) (s : Summary) → OnSpace c → SoundSpace sp w → Agrees sp w s
      → let r = called_with c sp w s in KeptAgreeing sp w r.said.state r.said.words r.summary
  -- worked out afresh it agrees, with 0 for the signed number, and table and state stay
  pub fresh : (sp : Space) (w : List ℕ) (s : Summary) → SoundSpace sp w
      → let r = freshened sp w s in
      (r.said ≡ record { refusal = 0; state = sp; words = w }) × Agrees sp w r.summary × (r.summary.moved ≡ pos 0)

-- ---- runs

pub record RanWith : Type 0 where
  pub ran : Ran
  pub summary : Summary

unfoldable pub ran_with : List Call → Space → List ℕ → Summary → RanWith
ran_with [] sp w s = record { ran = record { refusals = []; state = sp; words = w }; summary = s }
ran_with (c ∷ cs) sp w s =
    let o = called_with c sp w s in
    let r = ran_with cs o.said.state o.said.words o.summary in
    record {
      ran = record { refusals = o.said.refusal ∷ r.ran.refusals; state = r.ran.state; words = r.ran.words };
      summary = r.summary;
    }

abbrev pub RunsWith : Type 0
RunsWith =
    (P M : ℕ) (w : List ℕ) (s : Summary) (cs : List Call) → (opened P M w).refusal ≡ 0 → ((c : Call) → Memᴰ c cs → OnSpace c)
    → let o = opened_with P M w s in
    let r = ran_with cs o.said.state o.said.words o.summary in
    KeptAgreeing o.said.state w r.ran.state r.ran.words r.summary

-- ---- demand 3

-- all but the signed number
abbrev pub totals_of : Summary → Summary
totals_of s = record { sections = s.sections; bytes = s.bytes; largest = s.largest; decades = s.decades; moved = pos 0 }

pub record AnyOrderWith : Type 0 where
  pub left : (sp : Space) (w : List ℕ) (s : Summary) (ns ms : List Name) → Releasable sp w ns → Agrees sp w s → Permᴰ ns ms
      → (ran_with (releases_of ms) sp w s).ran ≡ accepted_all sp w (length ms) (remove_all ns (lives_of sp w))
  -- and the summary is that of this table
  pub totals : (sp : Space) (w : List ℕ) (s : Summary) (ns ms : List Name) → Releasable sp w ns → Agrees sp w s → Permᴰ ns ms
      → let o = accepted_all sp w (length ms) (remove_all ns (lives_of sp w)) in
      Agrees o.state o.words (ran_with (releases_of ms) sp w s).summary

pub record TwoOrdersWith : Type 0 where
  pub left : (sp : Space) (w : List ℕ) (s : Summary) (ns ms : List Name) → Releasable sp w ns → Agrees sp w s → Permᴰ ns ms
      → (ran_with (releases_of ns) sp w s).ran ≡ (ran_with (releases_of ms) sp w s).ran
  pub totals : (sp : Space) (w : List ℕ) (s : Summary) (ns ms : List Name) → Releasable sp w ns → Agrees sp w s → Permᴰ ns ms
      → totals_of (ran_with (releases_of ns) sp w s).summary ≡ totals_of (ran_with (releases_of ms) sp w s).summary

-- ---- uniqueness

abbrev pub UniqueWith : {R O : Type 0} → (R → List ℕ → O) → Told O → Type 0
UniqueWith {R} said o =
    (r r' : R) (v v' : List ℕ) (s s' : Summary) → told (said r v) s ≡ o → told (said r' v') s' ≡ o → (r ≡ r') × (v ≡ v') × (s ≡ s')

pub record OneResultWith : Type 0 where
  pub opening : (P M : ℕ) (w : List ℕ) (s : Summary) → UniqueWith open_said (opened_with P M w s)
  pub default_opening : (w : List ℕ) (s : Summary) → UniqueWith open_said (opened_with default_page default_limit w s)
  pub allocating : (sp : Space) (t z : ℕ) (w : List ℕ) (s : Summary) → UniqueWith allocate_said (allocated_with sp t z w s)
  pub releasing : (sp : Space) (a z : ℕ) (w : List ℕ) (s : Summary) → UniqueWith release_said (released_with sp a z w s)
  pub extending : (sp : Space) (a z m : ℕ) (w : List ℕ) (s : Summary) → UniqueWith extend_said (extended_with sp a z m w s)
  pub shortening : (sp : Space) (a z k : ℕ) (w : List ℕ) (s : Summary) → UniqueWith shorten_said (shortened_with sp a z k w s)
  pub fresh : (sp : Space) (w : List ℕ) (s : Summary) → UniqueWith fresh_said (freshened sp w s)
