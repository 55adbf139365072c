-- Demand 3: releases in any order are accepted, and end with one state and one table.
--
--   remove_all_perm      the pieces left do not depend on the order
--   distinct_perm        nor does it matter for distinct names
--   releases_ran         a run of releases, in the order of its names
--   any_order, two_orders    the statements
--
-- Assumes nothing.
use Prim.Native.Nat.{ℕ}
use mathlib.Core.List.{List, [], ◌∷◌, Memᴰ}
use mathlib.Core.List.Permᴰ
use mathlib.Core.List.{Permᴰ}
use mathlib.Core.Path.{◌≡◌, refl, sym, ap, ◌∙◌}
use lib.ListN.{length, replicate}
use Rattle.accepted.proofs.AcceptedLaws.{released_changed}
use Rattle.accepted.proofs.AmongLaws.{Among, among_remove}
use Rattle.accepted.proofs.ReleasedLaws.{released_done}
use Rattle.accepted.proofs.KeptLaws.{tabled, tabled_length, tabled_lives, tabled_sound, sound_words, sound_state}
use Rattle.demands.proofs.Lists.{perm_among, perm_length}
use Rattle.demands.proofs.LiveLaws.{live_among}
use Rattle.demands.specs.Calls.{called, Ran, ran, releases_of, remove_all, Distinct, distinct_none, distinct_more}
use Rattle.demands.specs.Demands.{accepted_all, AnyOrder, TwoOrders}
use Rattle.pieces.specs.Words.{table}
use Rattle.pieces.specs.declared.Piece.{Piece}
use Rattle.rules.proofs.RemoveLaws.{remove_swap}
use Rattle.rules.specs.Editing.{Name, remove}
use Rattle.space.specs.Giving.{released}
use Rattle.space.specs.Outcomes.{SoundSpace, entries_of, state_of, Outcome}
use Rattle.space.specs.declared.Space.{Space}
use Rattle.table.specs.Fill.{lives, fill}

-- ---- names in another order

pub remove_all_perm : {ns ms : List Name} → Permᴰ ns ms → (ps : List Piece) → remove_all ns ps ≡ remove_all ms ps
unfolding remove_all
remove_all_perm Permᴰ.nil ps = refl
remove_all_perm (Permᴰ.cons {b = b} e d) ps = rw e (remove_all_perm d (remove b ps))
remove_all_perm (Permᴰ.swap {a = a} {b = b} {l = l} e f) ps = rw (← e, ← f) (ap (remove_all l) (remove_swap b a ps))
remove_all_perm (Permᴰ.trans d e) ps = remove_all_perm d ps ∙ remove_all_perm e ps

pub distinct_perm : {ns ms : List Name} → Permᴰ ns ms → Distinct ns → Distinct ms
distinct_perm Permᴰ.nil distinct_none = distinct_none
distinct_perm (Permᴰ.cons e d) (distinct_more o os) = distinct_more (λ h. o (rw e (perm_among d h))) (distinct_perm d os)
distinct_perm (Permᴰ.swap {a = a} {b = b} {a' = a'} {b' = b'} {l = l} e f) (distinct_more o (distinct_more o' os)) =
    distinct_more not_first (distinct_more (λ h. o (Memᴰ.tail (rw e h))) os)
  where
    not_first : Memᴰ a' (b' ∷ l) → ⊥
    not_first (Memᴰ.head q) = o (Memᴰ.head (e ∙ (sym q ∙ sym f)))
    not_first (Memᴰ.tail h) = o' (rw f h)
distinct_perm (Permᴰ.trans d e) h = distinct_perm e (distinct_perm d h)

-- ---- a run of releases

-- one call more
then : ℕ → Ran → Ran
then k r = record { refusals = k ∷ r.refusals; state = r.state; words = r.words }

ran_more : (sp : Space) (w : List ℕ) (n : Name) (ns : List Name) (next : Space) (v : List ℕ) (r : Ran)
    → released sp n.address n.size w ≡ record { refusal = 0; state = next; words = v } → ran (releases_of ns) next v ≡ r
    → ran (releases_of (n ∷ ns)) sp w ≡ then 0 r
unfolding ran releases_of called then
ran_more sp w n ns next v r e f =
    ap (λ (o : Outcome). then o.refusal (ran (releases_of ns) o.state o.words)) e ∙ ap (then 0) f

-- what a release leaves: a sound table with the live pieces that are left, as long as it was
record Left (sp : Space) (w : List ℕ) (ps : List Piece) : Type 0 where
  sound : SoundSpace (state_of sp ps) (tabled sp w ps)
  live : lives (entries_of (state_of sp ps) (tabled sp w ps)) ≡ ps
  slice : length (tabled sp w ps) ≡ length w

left : (sp : Space) (w : List ℕ) (n : Name) → SoundSpace sp w → Among n (lives (entries_of sp w)) → Left sp w (remove n (lives (entries_of sp w)))
left sp w n s h =
    let ps : List Piece = remove n (lives (entries_of sp w)) in
    let k = released_changed sp w s n.address n.size (ap (λ (o : Outcome). o.refusal) (released_done sp w n s h)) in
    record {
      sound = tabled_sound sp w ps s k.good k.within k.few;
      live = tabled_lives sp w ps k.good;
      slice = tabled_length sp w ps k.few;
    }

-- all accepted from what is left is all accepted from the start
accepted_left : {sp : Space} {w : List ℕ} {ps : List Piece} (k : ℕ) (ns : List Name) → Left sp w ps
    → accepted_all (state_of sp ps) (tabled sp w ps) k (remove_all ns (lives (entries_of (state_of sp ps) (tabled sp w ps)))) ≡ accepted_all sp w k (remove_all ns ps)
accepted_left {sp} {w} {ps} k ns h =
    ap (λ (qs : List Piece). accepted_all (state_of sp ps) (tabled sp w ps) k (remove_all ns qs)) h.live
    ∙ ap (λ (len : ℕ). record { refusals = replicate k 0; state = state_of sp (remove_all ns ps); words = table len (fill sp.page (remove_all ns ps)) })
    h.slice

pub releases_ran : {ns : List Name} (sp : Space) (w : List ℕ) → SoundSpace sp w → Distinct ns
    → ((n : Name) → Memᴰ n ns → Among n (lives (entries_of sp w)))
    → ran (releases_of ns) sp w ≡ accepted_all sp w (length ns) (remove_all ns (lives (entries_of sp w)))
unfolding ran releases_of remove_all then
releases_ran sp w s distinct_none live = λ i. record { refusals = []; state = sound_state sp w s i; words = sound_words sp w s i }
releases_ran sp w s (distinct_more {n = n} {ns = ns} other others) live =
    let h = live n (Memᴰ.head refl) in
    let ps : List Piece = remove n (lives (entries_of sp w)) in
    let l : Left sp w ps = left sp w n s h in
    let r = releases_ran {ns = ns} (state_of sp ps) (tabled sp w ps) l.sound others
    (λ m i. rw l.live (among_remove m n (λ e. other (rw e at i)) (live m (Memᴰ.tail i)))) in
    ran_more sp w n ns (state_of sp ps) (tabled sp w ps) (accepted_all sp w (length ns) (remove_all ns ps)) (released_done sp w n s h)
    (r ∙ accepted_left (length ns) ns l)

-- ---- the statements

pub any_order : AnyOrder
any_order sp w ns ms h p =
    releases_ran sp w h.sound (distinct_perm p h.distinct) (λ n i. live_among n (h.live n (perm_among p i)))
    ∙ ap (accepted_all sp w (length ms)) (sym (remove_all_perm p (lives (entries_of sp w))))

pub two_orders : TwoOrders
two_orders sp w ns ms h p =
    any_order sp w ns ns h (Permᴰ.refl ns)
    ∙ (ap (λ (k : ℕ). accepted_all sp w k (remove_all ns (lives (entries_of sp w)))) (perm_length p) ∙ sym (any_order sp w ns ms h p))
