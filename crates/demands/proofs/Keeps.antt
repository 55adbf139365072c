-- Demand 2: state and table stay sound together.
--
--   changed          an accepted call leaves what its edited live pieces determine
--   handed_back_lem  a refused call that takes a state hands that back
--   keeps, runs      the statements
--
-- Assumes nothing.
use Prim.Native.Nat.{ℕ}
use mathlib.Core.Bool.{Bool, true, false}
use mathlib.Core.List.{List, [], ◌∷◌, Memᴰ}
use mathlib.Core.Path.{◌≡◌, refl, sym, ap, ◌∙◌, subst}
use native.Mathlib.Omega.{arith}
use lib.ListN.{length, length-replicate}
use Rattle.accepted.proofs.AcceptedLaws.{Changed, released_changed, resized_changed, allocated_put}
use Rattle.accepted.proofs.KeptLaws.{tabled, tabled_length, tabled_sound}
use Rattle.demands.proofs.Refusals.{refusals}
use Rattle.demands.specs.Calls.{Call, called, refusals_of, handed_back, OnSpace, allocating, releasing, extending, shortening, ran, edited}
use Rattle.demands.specs.Demands.{Answered, accepted, refused, Covers, KeptSound, Keeps, Runs}
use Rattle.pieces.specs.declared.Piece.{Piece}
use Rattle.space.proofs.OpenLaws.{opened_refused, opened_done, opened_sound}
use Rattle.space.proofs.OutcomeLaws.{is_sound_true}
use Rattle.space.specs.Opening.{opened}
use Rattle.space.specs.Outcomes.{SoundSpace, Outcome, state_of}
use Rattle.space.specs.declared.Space.{Space}
use Rattle.space.specs.declared.give.Way.TheVariants.{Longer, Shorter}
use Rattle.table.proofs.Theorems.{tiling}
use Rattle.table.specs.Local.{rangesb}

-- ---- what an accepted call leaves

pub changed : {c : Call} (sp : Space) (w : List ℕ) → OnSpace c → SoundSpace sp w → (called c sp w).refusal ≡ 0 → Changed sp w (edited c sp w) (called c sp w)
unfolding called
changed sp w (allocating {t = t} {s = n}) s e = (allocated_put sp w s t n e).changed
changed sp w (releasing {a = a} {z = z}) s e = released_changed sp w s a z e
changed sp w (extending {a = a} {z = z} {m = m}) s e = resized_changed sp w s a z Longer m e
changed sp w (shortening {a = a} {z = z} {k = k}) s e = resized_changed sp w s a z Shorter k e

pub handed_back_lem : {c : Call} (sp : Space) → OnSpace c → handed_back c sp ≡ sp
handed_back_lem sp allocating = refl
handed_back_lem sp releasing = refl
handed_back_lem sp extending = refl
handed_back_lem sp shortening = refl

-- ---- sound

covers : (sp : Space) (w : List ℕ) → SoundSpace sp w → Covers sp w
covers sp w s = let t = tiling sp.page sp.limit sp.end sp.count w s in record { once = t.0; none_beyond = t.1 }

kept : (sp : Space) (w : List ℕ) (next : Space) (v : List ℕ) → SoundSpace next v → next.page ≡ sp.page → next.limit ≡ sp.limit → length v ≡ length w
    → KeptSound sp w next v
kept sp w next v s p m l = record { sound = s; covers = covers next v s; page = p; limit = m; slice = l }

changed_kept : (sp : Space) (w : List ℕ) (ps : List Piece) (o : Outcome) → SoundSpace sp w → Changed sp w ps o → KeptSound sp w o.state o.words
changed_kept sp w ps o s h =
    subst (λ (v : Outcome). KeptSound sp w v.state v.words) (sym h.is)
    (kept sp w (state_of sp ps) (tabled sp w ps) (tabled_sound sp w ps s h.good h.within h.few) refl refl (tabled_length sp w ps h.few))

kept_as_given : (sp : Space) (w : List ℕ) (o : Outcome) → SoundSpace sp w → o.state ≡ sp → o.words ≡ w → KeptSound sp w o.state o.words
kept_as_given sp w o s e f = rw (e, f) (kept sp w sp w s refl refl refl)

call_kept : (c : Call) (sp : Space) (w : List ℕ) → OnSpace c → SoundSpace sp w → KeptSound sp w (called c sp w).state (called c sp w).words
call_kept c sp w on s = go (refusals.calls c sp w)
  where
    go : Answered (refusals_of c) (handed_back c sp) w (called c sp w) → KeptSound sp w (called c sp w).state (called c sp w).words
    go (accepted e) = changed_kept sp w (edited c sp w) (called c sp w) s (changed sp w on s e)
    go (refused i e f) = kept_as_given sp w (called c sp w) s (e ∙ handed_back_lem sp on) f

opening_kept : (P M : ℕ) (w : List ℕ) → (opened P M w).refusal ≡ 0
    → KeptSound (record { page = P; limit = M; end = 0; count = 0 }) w (opened P M w).state (opened P M w).words
opening_kept P M w e = go (rangesb P M 0 0 (length w)) refl
  where
    go : (t : Bool) → rangesb P M 0 0 (length w) ≡ t
        → KeptSound (record { page = P; limit = M; end = 0; count = 0 }) w (opened P M w).state (opened P M w).words
    go true f =
        rw (opened_done P M w f)
        (kept _ w _ _ (is_sound_true _ _ (opened_sound P M (length w) f)) refl refl (length-replicate _ _))
    go false f = absurd (omega (arith, sym (ap (λ (o : Outcome). o.refusal) (opened_refused P M w f)) ∙ e))

pub keeps : Keeps
keeps = record { opening = opening_kept; calls = call_kept }

-- ---- runs

run_kept : (cs : List Call) (sp : Space) (w : List ℕ) → SoundSpace sp w → ((c : Call) → Memᴰ c cs → OnSpace c)
    → KeptSound sp w (ran cs sp w).state (ran cs sp w).words
unfolding ran
run_kept [] sp w s on = kept sp w sp w s refl refl refl
run_kept (c ∷ cs) sp w s on =
    let k = call_kept c sp w (on c (Memᴰ.head refl)) s in
    let r = run_kept cs (called c sp w).state (called c sp w).words k.sound (λ d i. on d (Memᴰ.tail i)) in
    kept sp w _ _ r.sound (r.page ∙ k.page) (r.limit ∙ k.limit) (r.slice ∙ k.slice)

pub runs : Runs
runs P M w cs e on =
    let k = opening_kept P M w e in
    let r = run_kept cs (opened P M w).state (opened P M w).words k.sound on in
    kept (opened P M w).state w _ _ r.sound r.page r.limit (r.slice ∙ k.slice)
