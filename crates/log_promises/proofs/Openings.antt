-- An opening over any table for C entries, and what follows a refused one.
--
--   Outside C                C is not from 4 to 1,024
--   words_in, words_out      the words of a table for C entries: three for each, and none where C is outside
--   ranges_out               then an opening over C entries is refused
--   blank C                  the table that a played open is made over; blank-out, it is refused there too
--   Alike P M w v            openings over the words w and v leave the same, but for the words of refused ones
--   alike_length             tables of one length are alike; alike-blank, so are any table for C entries and the blank one
--   refused_state            a refused opening leaves nowhere
--   nowhere_answered, nowhere_address   there every call is refused 2, and an allocate answers the undefined address
--   log_refused_open             the statement
use Prim.Native.Nat.{ℕ, ◌*◌, ◌≤◌}
use mathlib.Core.Bool.{Bool, true, false}
use mathlib.Core.List.{List}
use mathlib.Core.Path.{◌≡◌, refl, sym, ap, ◌∙◌}
use native.Mathlib.Omega.{arith}
use lib.ListN.{length, replicate, length-replicate}
use Rattle.call.specs.Answered.{answered}
use Rattle.call.specs.declared.Call.{Call}
use Rattle.call.specs.declared.Call.TheVariants.{Allocate, Release, Extend, Shorten}
use Rattle.log_play.proofs.PlayLaws.{words_few, words_many, words_some}
use Rattle.log_play.specs.Playing.{words_for}
use Rattle.log_promises.specs.Logs.{LogRefusedOpen}
use Rattle.pages.proofs.Numbers.{split}
use Rattle.pieces.specs.Words.{entry_words}
use Rattle.refusals.specs.AnswerNumbers.{out_of_range, not_sound, no_address}
use Rattle.space.proofs.GiveLaws.{released_unsound, resized_unsound}
use Rattle.space.proofs.OpenLaws.{opened_refused, opened_done, nowhere_unsound}
use Rattle.space.proofs.PlaceLaws.{allocated_unsound}
use Rattle.space.specs.Opening.{nowhere, opened}
use Rattle.space.specs.Outcomes.{Outcome, refused}
use Rattle.space.specs.Placing.{Placed}
use Rattle.space.specs.declared.give.Way.TheVariants.{Longer, Shorter}
use Rattle.table.proofs.LocalLaws.{ranges_true}
use Rattle.table.specs.Local.{rangesb}
use Rattle.table.specs.Sound.{least_capacity, largest_capacity}

-- ---- tables for C entries

abbrev Outside : ℕ → Type 0
Outside C = least_capacity ≤ C → C ≤ largest_capacity → ⊥

words_in : (C : ℕ) → least_capacity ≤ C → C ≤ largest_capacity → words_for C ≡ C * entry_words
words_in C l m = sym (words_some C l m)

words_out : (C : ℕ) → Outside C → words_for C ≡ 0
words_out C out =
    split least_capacity C (λ l. split C largest_capacity (λ m. absurd (out l m)) (λ h. sym (words_many C h))) (λ h. sym (words_few C h))

ranges_out : (C P M : ℕ) → Outside C → rangesb P M 0 0 (C * entry_words) ≡ false
ranges_out C P M out = go (rangesb P M 0 0 (C * entry_words)) refl
  where
    go : (t : Bool) → rangesb P M 0 0 (C * entry_words) ≡ t → t ≡ false
    go true e =
        let s = (ranges_true P M 0 0 (C * entry_words) e).slice in
        absurd (out (omega (arith, s.least)) (omega (arith, s.largest)))
    go false e = refl

-- ---- openings over them

abbrev pub blank : ℕ → List ℕ
blank C = replicate (words_for C) 0

blank_out : (C P M : ℕ) → Outside C → opened P M (blank C) ≡ refused out_of_range nowhere (blank C)
blank_out C P M out = opened_refused P M (blank C) (rw (length-replicate, words_out C out) (ranges_out 0 P M (λ l m. omega (arith, l))))

pub data Alike (P M : ℕ) (w v : List ℕ) : Type 0 where
  done : opened P M w ≡ opened P M v → Alike P M w v
  not_done : opened P M w ≡ refused out_of_range nowhere w → opened P M v ≡ refused out_of_range nowhere v → Alike P M w v

alike_length : (P M : ℕ) (w v : List ℕ) → length w ≡ length v → Alike P M w v
alike_length P M w v l = go (rangesb P M 0 0 (length w)) refl
  where
    begun : ℕ → Outcome
    begun n = record { refusal = 0; state = record { page = P; limit = M; end = 0; count = 0 }; words = replicate n 0 }

    go : (t : Bool) → rangesb P M 0 0 (length w) ≡ t → Alike P M w v
    go true e = done (opened_done P M w e ∙ (ap begun l ∙ sym (opened_done P M v (rw (← l) e))))
    go false e = not_done (opened_refused P M w e) (opened_refused P M v (rw (← l) e))

pub alike_blank : (C P M : ℕ) (w : List ℕ) → length w ≡ C * entry_words → Alike P M w (blank C)
alike_blank C P M w l =
    split least_capacity C
    (λ a. split C largest_capacity (λ b. alike_length P M w (blank C) (rw (length-replicate, words_in C a b) l)) (λ b. out (λ x y. omega arith)))
    (λ a. out (λ x y. omega arith))
  where
    out : Outside C → Alike P M w (blank C)
    out o = not_done (opened_refused P M w (rw l (ranges_out C P M o))) (blank_out C P M o)

-- ---- after a refused one

refused_state : (P M : ℕ) (w : List ℕ) → ((opened P M w).refusal ≡ 0 → ⊥) → (opened P M w).state ≡ nowhere
refused_state P M w n = go (rangesb P M 0 0 (length w)) refl
  where
    go : (t : Bool) → rangesb P M 0 0 (length w) ≡ t → (opened P M w).state ≡ nowhere
    go true e = absurd (n (ap (λ (o : Outcome). o.refusal) (opened_done P M w e)))
    go false e = ap (λ (o : Outcome). o.state) (opened_refused P M w e)

pub nowhere_answered : (c : Call) (w : List ℕ) → (answered c nowhere w).outcome ≡ refused not_sound nowhere w
unfolding answered
nowhere_answered (Allocate t s) w = ap (λ (p : Placed). p.outcome) (allocated_unsound nowhere t s w (nowhere_unsound w))
nowhere_answered (Release a z) w = released_unsound nowhere a z w (nowhere_unsound w)
nowhere_answered (Extend a z m) w = resized_unsound nowhere a z Longer m w (nowhere_unsound w)
nowhere_answered (Shorten a z k) w = resized_unsound nowhere a z Shorter k w (nowhere_unsound w)

pub nowhere_address : (t s : ℕ) (w : List ℕ) → (answered (Allocate t s) nowhere w).answer ≡ no_address
unfolding answered
nowhere_address t s w = ap (λ (p : Placed). p.address) (allocated_unsound nowhere t s w (nowhere_unsound w))

pub log_refused_open : LogRefusedOpen
log_refused_open =
    record {
      range = λ r out. ap (λ (o : Outcome). o.refusal) (blank_out r.address r.size r.change out);
      state = λ r n. refused_state r.size r.change _ n;
      end = refl;
      calls = nowhere_answered;
      answer = nowhere_address;
    }
