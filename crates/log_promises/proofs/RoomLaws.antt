-- The records of a run have room in their bytes, and keep the rules.
--
--   bytesb ks                     each of the numbers ks has one byte; byte-among, so has one of them
--   refusal_fits, address_fits    every refusal number has one byte, and every address answer eight; answer-fits of any answer
--   accepted_sound                an allocate is accepted of a sound state and table alone
--   record_fits                   the record of a call has room
--   call_rules                    and keeps the rules
--   AllRecordable cs              each of the calls cs takes a state, and has room in a record
--   run_kept, opening_kept        the records of a run fit and keep the rules
--
-- A call is accepted of a sound state and table alone, so no run has to be followed for the addresses.
use Prim.Native.Nat.{ℕ, ◌+◌, ◌<◌}
use mathlib.Core.Bool.{Bool, true, false, ◌&&◌}
use mathlib.Core.List.{List, [], ◌∷◌, Memᴰ}
use mathlib.Core.Path.{◌≡◌, refl, sym, ap, ◌∙◌}
use native.Mathlib.Decide.{ℕ_discrete}
use native.Mathlib.Omega.{arith}
use lib.Dec.{lit<, ltb}
use borrow.Author.Tests.{ltb-true}
use Rattle.accepted.proofs.AcceptedLaws.{allocated_put}
use Rattle.demands.proofs.Refusals.{refusals}
use Rattle.demands.specs.Calls.{Call, opens, allocates, releases, extends, shortens, called, refusals_of, handed_back}
use Rattle.demands.specs.Calls.{OnSpace, allocating, releasing, extending, shortening}
use Rattle.demands.specs.Demands as demands
use Rattle.little.specs.Little.{byte_values}
use Rattle.log_blocks.specs.Records.{operationb, zerosb, recordb}
use Rattle.log_promises.specs.Recording.{Word, RecordFits, Kept, kept_none, kept_more, answer_to, record_of, records_of, Recordable}
use Rattle.pages.proofs.Numbers.{and_left, and_right}
use Rattle.pages.proofs.PageLaws.{page_pos, up_ge}
use Rattle.space.proofs.OutcomeLaws.{is_sound_true}
use Rattle.space.proofs.PlaceLaws.{allocated_unsound}
use Rattle.space.specs.Outcomes.{SoundSpace, soundb}
use Rattle.space.specs.Placing.{Placed, allocated}
use Rattle.space.specs.declared.Space.{Space}

-- ---- the numbers fit

-- each of the numbers ks has one byte
abbrev bytesb : List ℕ → Bool
bytesb [] = true
bytesb (k ∷ ks) = ltb k byte_values && bytesb ks

byte_among : {k : ℕ} (ks : List ℕ) → bytesb ks ≡ true → Memᴰ k ks → k < byte_values
byte_among (n ∷ ks) e (Memᴰ.head f) = rw f (ltb-true n byte_values (and_left _ _ e))
byte_among (n ∷ ks) e (Memᴰ.tail h) = byte_among ks (and_right (ltb n byte_values) _ e) h
byte_among {k = k} [] e x'' = elim x'' [ ]

refusals_fit : (c : Call) → bytesb (refusals_of c) ≡ true
refusals_fit (opens P M) = refl
refusals_fit (allocates t s) = refl
refusals_fit (releases a z) = refl
refusals_fit (extends a z m) = refl
refusals_fit (shortens a z k) = refl

pub refusal_fits : (c : Call) (sp : Space) (w : List ℕ) → (called c sp w).refusal < byte_values
refusal_fits c sp w = go (refusals.calls c sp w)
  where
    go : demands.Answered (refusals_of c) (handed_back c sp) w (called c sp w) → (called c sp w).refusal < byte_values
    go (demands.accepted e) = rw e (lit< tt)
    go (demands.refused i e f) = byte_among (refusals_of c) (refusals_fit c) i

module _ (sp : Space) (t s : ℕ) (w : List ℕ) where
  accepted_sound : (allocated sp t s w).outcome.refusal ≡ 0 → SoundSpace sp w
  accepted_sound e = go (soundb sp w) refl
    where
      go : (b : Bool) → soundb sp w ≡ b → SoundSpace sp w
      go true f = is_sound_true sp w f
      go false f = absurd (omega (arith, sym (ap (λ (p : Placed). p.outcome.refusal) (allocated_unsound sp t s w f)) ∙ e))

  -- the piece ends below the limit
  pub address_fits : Word (allocated sp t s w).address
  address_fits =
      elim (ℕ_discrete (allocated sp t s w).outcome.refusal 0) [
        | yes e ↦ accepted_fits e
        | no n ↦ rw (refusals.address sp t s w n) (lit< tt)
      ]
    where
      accepted_fits : (allocated sp t s w).outcome.refusal ≡ 0 → Word (allocated sp t s w).address
      accepted_fits e =
          let h = accepted_sound e in
          let g = (allocated_put sp w h t s e).goes in
          let l = up_ge sp.page (page_pos h.ranges.page) ((allocated sp t s w).address + s) in
          omega (arith, l, g.within, h.ranges.limit_largest)

answer_fits : (c : Call) (sp : Space) (w : List ℕ) → Word (answer_to c sp w)
answer_fits (opens P M) sp w = lit< tt
answer_fits (allocates t s) sp w = address_fits sp t s w
answer_fits (releases a z) sp w = lit< tt
answer_fits (extends a z m) sp w = lit< tt
answer_fits (shortens a z k) sp w = lit< tt

-- ---- the records are kept

record_fits : (C : ℕ) → Word C → (c : Call) → Recordable c → (k n : ℕ) → k < byte_values → Word n
    → RecordFits (record_of C c k n)
record_fits C h c r k n l m = go c r
  where
    fits : (o t a z b : ℕ) → o < byte_values → t < byte_values → Word a → Word z → Word b
        → RecordFits (record { operation = o; code = t; refusal = k; zeros = 0; address = a; size = z; change = b; answer = n })
    fits o t a z b p q u v x = record { operation = p; code = q; refusal = l; zeros = lit< tt; address = u; size = v; change = x; answer = m }

    go : (c : Call) → Recordable c → RecordFits (record_of C c k n)
    go (opens P M) r = fits _ _ _ _ _ (lit< tt) (lit< tt) h r.0 r.1
    go (allocates t s) r = fits _ _ _ _ _ (lit< tt) r.0 (lit< tt) r.1 (lit< tt)
    go (releases a z) r = fits _ _ _ _ _ (lit< tt) (lit< tt) r.0 r.1 (lit< tt)
    go (extends a z b) r = fits _ _ _ _ _ (lit< tt) (lit< tt) r.0 r.1.0 r.1.1
    go (shortens a z b) r = fits _ _ _ _ _ (lit< tt) (lit< tt) r.0 r.1.0 r.1.1

call_rules : {c : Call} (C k : ℕ) (sp : Space) (w : List ℕ) → OnSpace c → recordb false (record_of C c k (answer_to c sp w)) ≡ true
unfolding operationb zerosb
call_rules C k sp w allocating = refl
call_rules C k sp w releasing = refl
call_rules C k sp w extending = refl
call_rules C k sp w shortening = refl

abbrev pub AllRecordable : List Call → Type 0
AllRecordable cs = (c : Call) → Memᴰ c cs → OnSpace c × Recordable c

module _ (C : ℕ) (room : Word C) where
  fits : (c : Call) (sp : Space) (w : List ℕ) → Recordable c → RecordFits (record_of C c (called c sp w).refusal (answer_to c sp w))
  fits c sp w r = record_fits C room c r _ _ (refusal_fits c sp w) (answer_fits c sp w)

  run_kept : (cs : List Call) (sp : Space) (w : List ℕ) → AllRecordable cs → Kept false (records_of C cs sp w)
  unfolding records_of
  run_kept [] sp w h = kept_none
  run_kept (c ∷ cs) sp w h =
      let r = h c (Memᴰ.head refl) in
      kept_more (fits c sp w r.1) (call_rules C _ sp w r.0) (run_kept cs _ _ (λ d i. h d (Memᴰ.tail i)))

  pub opening_kept : (P M : ℕ) (cs : List Call) (sp : Space) (w : List ℕ) → Recordable (opens P M) → AllRecordable cs
      → Kept true (records_of C (opens P M ∷ cs) sp w)
  unfolding records_of operationb zerosb
  opening_kept P M cs sp w r h = kept_more (fits (opens P M) sp w r) refl (run_kept cs _ _ h)
