-- The records of a run agree when they are played.
--
--   Agreeing f rs g       played on the file f, each of the records rs agrees, and they leave the file g
--   agreeing_played       so they are played
--   recorded_number, recorded_agrees    a record that says what was heard agrees
--   heard_call c sp w     what is heard of the call c
--   file_of sp w          the file of the state sp and the words w; left_file cs sp w, the one that the calls cs leave
--   heard_call_lem, run_agrees          the record of a call is played as that call, and those of a run agree
--   nowhere_called, nowhere_answer, nowhere_agrees   after a refused opening the words of the table count nothing
--   opening_agrees        the records of a run from its opening on agree, and leave the state that the run leaves
--   length_run            there is a record for each call
use Prim.Native.Nat.{ℕ, suc, ◌*◌}
use mathlib.Core.Bool.{true}
use mathlib.Core.List.{List, [], ◌∷◌, Memᴰ}
use mathlib.Core.Path.{◌≡◌, refl, sym, ap, ◌∙◌}
use lib.ListN.{length}
use borrow.Author.Tests.{eq-eqb}
use Rattle.call.specs.Answered.{answered, unanswered}
use Rattle.call.specs.declared.Call.TheVariants.{Allocate, Release, Extend, Shorten}
use Rattle.demands.specs.Calls.{Call, opens, allocates, releases, extends, shortens, called, ran}
use Rattle.demands.specs.Calls.{OnSpace, allocating, releasing, extending, shortening}
use Rattle.log_blocks.specs.declared.records.Record.{Record}
use Rattle.log_play.specs.Playing.{File, no_file, Heard, heard_of, call_of, heard, agreesb, played}
use Rattle.log_promises.proofs.Openings.{blank, Alike, done, not_done, alike_blank, nowhere_answered, nowhere_address}
use Rattle.log_promises.specs.Recording.{answer_to, record_of, records_of}
use Rattle.pages.proofs.Numbers.{both}
use Rattle.pieces.specs.Words.{entry_words}
use Rattle.refusals.specs.AnswerNumbers.{out_of_range, not_sound}
use Rattle.space.specs.Opening.{nowhere, opened}
use Rattle.space.specs.Outcomes.{Outcome, refused}
use Rattle.space.specs.declared.Space.{Space}

-- ---- records that agree

pub data Agreeing : File → List Record → File → Type 0 where
  agree_none : {f : File} → Agreeing f [] f
  agree_more : {f g : File} {r : Record} {rs : List Record} {h : Heard} → heard r f ≡ h → agreesb r h ≡ true → Agreeing h.file rs g
      → Agreeing f (r ∷ rs) g

pub agreeing_played : {f g : File} {rs : List Record} → Agreeing f rs g → played f rs ≡ record { agreed = length rs; file = g }
unfolding played
agreeing_played agree_none = refl
agreeing_played (agree_more e a k) = rw (e, a, agreeing_played k)

-- ---- the records of a run agree

recorded_number : (C k n : ℕ) (c : Call) → ((record_of C c k n).refusal ≡ k) × ((record_of C c k n).answer ≡ n)
recorded_number C k n (opens P M) = (refl, refl)
recorded_number C k n (allocates t s) = (refl, refl)
recorded_number C k n (releases a z) = (refl, refl)
recorded_number C k n (extends a z m) = (refl, refl)
recorded_number C k n (shortens a z m) = (refl, refl)

recorded_agrees : (C : ℕ) (c : Call) (h : Heard) → agreesb (record_of C c h.refusal h.answer) h ≡ true
unfolding agreesb
recorded_agrees C c h = let e = recorded_number C h.refusal h.answer c in both _ _ (eq-eqb _ _ e.0) (eq-eqb _ _ e.1)

-- what is heard of the call c
abbrev heard_call : Call → Space → List ℕ → Heard
heard_call c sp w = heard_of (record { outcome = called c sp w; answer = answer_to c sp w })

abbrev pub file_of : Space → List ℕ → File
file_of sp w = record { space = sp; words = w }

heard_call_lem : {c : Call} (C k n : ℕ) (sp : Space) (w : List ℕ) → OnSpace c → heard (record_of C c k n) (file_of sp w) ≡ heard_call c sp w
unfolding heard call_of answered called
heard_call_lem C k n sp w allocating = refl
heard_call_lem C k n sp w releasing = refl
heard_call_lem C k n sp w extending = refl
heard_call_lem C k n sp w shortening = refl

abbrev left_file : List Call → Space → List ℕ → File
left_file cs sp w = file_of (ran cs sp w).state (ran cs sp w).words

run_agrees : (C : ℕ) (cs : List Call) (sp : Space) (w : List ℕ) → ((c : Call) → Memᴰ c cs → OnSpace c)
    → Agreeing (file_of sp w) (records_of C cs sp w) (left_file cs sp w)
unfolding records_of ran
run_agrees C [] sp w on = agree_none
run_agrees C (c ∷ cs) sp w on =
    agree_more (heard_call_lem C _ _ sp w (on c (Memᴰ.head refl))) (recorded_agrees C c (heard_call c sp w))
    (run_agrees C cs _ _ (λ d i. on d (Memᴰ.tail i)))

-- ---- after an opening

nowhere_called : {c : Call} (w : List ℕ) → OnSpace c → called c nowhere w ≡ refused not_sound nowhere w
unfolding called answered
nowhere_called w (allocating {t = t} {s = s}) = nowhere_answered (Allocate t s) w
nowhere_called w (releasing {a = a} {z = z}) = nowhere_answered (Release a z) w
nowhere_called w (extending {a = a} {z = z} {m = m}) = nowhere_answered (Extend a z m) w
nowhere_called w (shortening {a = a} {z = z} {k = k}) = nowhere_answered (Shorten a z k) w

nowhere_answer : {c : Call} (w v : List ℕ) → OnSpace c → answer_to c nowhere w ≡ answer_to c nowhere v
unfolding answered
nowhere_answer w v (allocating {t = t} {s = s}) = nowhere_address t s w ∙ sym (nowhere_address t s v)
nowhere_answer w v releasing = refl
nowhere_answer w v extending = refl
nowhere_answer w v shortening = refl

nowhere_agrees : (C : ℕ) (cs : List Call) (w v : List ℕ) → ((c : Call) → Memᴰ c cs → OnSpace c)
    → Agreeing (file_of nowhere v) (records_of C cs nowhere w) (file_of (ran cs nowhere w).state v)
unfolding records_of ran
nowhere_agrees C [] w v on = agree_none
nowhere_agrees C (c ∷ cs) w v on =
    let here = on c (Memᴰ.head refl) in
    let told : Outcome → Heard = λ o. heard_of (record { outcome = o; answer = answer_to c nowhere v }) in
    let is = nowhere_called w here in
    rw (is, nowhere_answer w v here)
    (agree_more (heard_call_lem C _ _ nowhere v here ∙ ap told (nowhere_called v here)) (recorded_agrees C c (told (refused not_sound nowhere v)))
    (nowhere_agrees C cs w v (λ d i. on d (Memᴰ.tail i))))

pub opening_agrees : (C P M : ℕ) (cs : List Call) (sp : Space) (w : List ℕ) → length w ≡ C * entry_words → ((c : Call) → Memᴰ c cs → OnSpace c)
    → (v : List ℕ) × Agreeing no_file (records_of C (opens P M ∷ cs) sp w) (file_of (ran (opens P M ∷ cs) sp w).state v)
unfolding records_of ran heard called
opening_agrees C P M cs sp w l on = go (alike_blank C P M w l)
  where
    told : Outcome → Heard
    told o = heard_of (unanswered o)

    go : Alike P M w (blank C) → (v : List ℕ) × Agreeing no_file (records_of C (opens P M ∷ cs) sp w) (file_of (ran (opens P M ∷ cs) sp w).state v)
    go (done e) = (_, agree_more (ap told (sym e)) (recorded_agrees C (opens P M) (told (opened P M w))) (run_agrees C cs _ _ on))
    go (not_done e f) =
        let agrees = recorded_agrees C (opens P M) (told (refused out_of_range nowhere (blank C))) in
        (blank C, rw e (agree_more (ap told f) agrees (nowhere_agrees C cs w (blank C) on)))

pub length_run : (C : ℕ) (cs : List Call) (sp : Space) (w : List ℕ) → length (records_of C cs sp w) ≡ length cs
unfolding records_of
length_run C [] sp w = refl
length_run C (c ∷ cs) sp w = ap suc (length_run C cs _ _)
