-- The theorems of specs/Promises.antt: `lengths`, `read_exact`, `rest_exact`, `write_exact`, `acceptance`, `round_trip` and `one_meaning`, in this order.
--
-- Each exactness goes by the number: a row fixes the test that the definition makes, and each outcome of the tests gives its row. Uniqueness
-- follows from exactness, since the definitions give one number, and a number belongs to one answer.
use Prim.Native.Nat.{ℕ, ◌+◌, ◌≤◌, ◌<◌}
use mathlib.Core.Bool.{Bool, true, false}
use mathlib.Core.List.{List, ◌++◌}
use mathlib.Core.Path.{◌≡◌, refl, sym, ap, ◌∙◌}
use native.Mathlib.Omega.{arith}
use lib.Dec.{lit<}
use lib.ListN.{length, take, drop, take-append-drop, length-append}
use lib.Seq.{take_at, drop_at}
use Rattle.std.proofs.Common.{Result, Ok, Err}
use Rattle.little.proofs.LittleLaws.{below_replicate}
use Rattle.little.specs.Little.{value_at, Bytes}
use Rattle.message.proofs.AnswerLaws.{read_short, read_version, read_field, read_cut, read_done, read_cases}
use Rattle.message.proofs.AnswerLaws.{follows_refused, follows_done, write_field, write_short, write_done}
use Rattle.message_promises.proofs.RuleLaws.{legal_true, true_legal, false_legal, legal_head, head_legal, head_broken, legal_absent}
use Rattle.message_promises.proofs.SaysLaws.{says_fields, fields_said, held_fields, message_said, said_message}
use Rattle.message.specs.Message.{reading, following, WriteOutcome, write_said, written}
use Rattle.message_promises.specs.Promises.{Legal, Says, NoMessage, HeadKept, ReadRow, too_short, another_version, field_broken, no_addresses, done}
use Rattle.message_promises.specs.Promises.{RestRow, whole, behind, WriteRow}
use Rattle.message_promises.specs.Promises.{Lengths, ReadExact, RestExact, WriteExact, Message, Acceptance, RoundTrip, OneMeaning}
use Rattle.message_bytes.proofs.PartLaws.{length_message, length_by_head, head_without, head_with_addresses}
use Rattle.message_bytes.specs.Parts.{head_with, head_fields, fields_of, message_of}
use Rattle.message_fields.proofs.FieldLaws.{refused_number, length_by_count, length_without, length_with}
use Rattle.message_fields.specs.Fields.{number_of, refusal_number, version, length_of, Held, no_fields, ReadOutcome, read_said, refused_read}
use Rattle.message_fields.specs.Layout.{version_at, strategy_at, persist_at, threshold_at, head_length, types, address_width}
use Rattle.message_fields.specs.Legal.{legalb}
use Rattle.message_fields.specs.declared.Fields.{Fields}
use Rattle.message_fields.specs.declared.Refusal.{Refusal}
use Rattle.message_fields.specs.declared.Refusal.TheVariants.{Short, Version, Field}
use Rattle.pages.proofs.Numbers.{split, not_both}
use Rattle.refusals.specs.AnswerNumbers.{slice_too_short, other_version, broken_field}

-- ---- answers by their numbers

-- a number belongs to one refusal
numbered : (v w : Refusal) → refusal_number v ≡ refusal_number w → v ≡ w
numbered Short Short e = refl
numbered Version Version e = refl
numbered Field Field e = refl
numbered Short Version e = absurd (omega (arith, e))
numbered Short Field e = absurd (omega (arith, e))
numbered Version Short e = absurd (omega (arith, e))
numbered Version Field e = absurd (omega (arith, e))
numbered Field Short e = absurd (omega (arith, e))
numbered Field Version e = absurd (omega (arith, e))

-- and to one answer of a write; what a read said, to one answer of a read
answered : (a z : Result Unit Refusal) → number_of a ≡ number_of z → a ≡ z
answered (Ok x) (Ok y) e = refl
answered (Ok x) (Err w) e = absurd (omega (arith, e, refused_number w))
answered (Err v) (Ok y) e = absurd (omega (arith, e, refused_number v))
answered (Err v) (Err w) e = ap Err (numbered v w e)

said : (r s : Result Fields Refusal) → read_said r ≡ read_said s → r ≡ s
said (Ok f) (Ok g) e = ap (λ (o : ReadOutcome). Ok o.fields) e
said (Ok f) (Err w) e = let n = ap (λ (o : ReadOutcome). o.refusal) e in absurd (omega (arith, n, refused_number w))
said (Err v) (Ok g) e = let n = ap (λ (o : ReadOutcome). o.refusal) e in absurd (omega (arith, n, refused_number v))
said (Err v) (Err w) e = ap Err (numbered v w (ap (λ (o : ReadOutcome). o.refusal) e))

-- ---- how long a message is

pub lengths : Lengths
lengths = record { without = length_without; with = λ f h. length_with f (λ z. omega arith) }

-- ---- what is a message

said_head : {f : Fields} {b : List ℕ} → Says f b → Legal f → HeadKept b
said_head s l = rw (s.strategy, s.persist, s.page) at l.head

said_least : {f : Fields} {b : List ℕ} → Says f b → head_length ≤ length b
said_least {f} s = omega (arith, s.room, length_by_count f)

said_room : {f : Fields} {b : List ℕ} → Says f b → length_of (head_fields b) ≤ length b
said_room {f} {b} s = rw (length_by_head b, ← (fields_said s)) s.room

says_done : {f : Fields} {b : List ℕ} → Says f b → Legal f → reading b ≡ record { refusal = 0; fields = fields_of b }
says_done {f} {b} s l = read_done b (said_least s) s.edition (head_legal b (said_head s l)) (said_room s)

-- a head that keeps its rules, with the bytes that it asks for, is a message
module _ (b : List ℕ) (v : value_at version_at strategy_at b ≡ version) (m : length_of (head_fields b) ≤ length b) where
  whole_says : Says (fields_of b) b
  whole_says = says_fields b (rw (← (length_by_head b)) m) v

  whole_legal : legalb (head_fields b) ≡ true → Legal (fields_of b)
  unfolding head_with
  whole_legal e = record { head = legal_head b e; addresses = λ z. (whole_says.small.absent z, whole_says.large.absent z) }

-- the two cases of rest
rest_cases : (b : List ℕ) {X : Type 0} → ((n : ℕ) → 0 < n → reading b ≡ refused_read n → NoMessage b → X)
    → (Says (fields_of b) b → Legal (fields_of b) → X)
    → X
rest_cases b refused said =
    read_cases b
    (λ h. refused slice_too_short (lit< tt) (read_short b h) (λ f s l. omega (arith, said_least s)))
    (λ h n. refused other_version (lit< tt) (read_version b h n) (λ f s l. n s.edition))
    (λ h v e. refused broken_field (lit< tt) (read_field b h v e) (λ f s l. not_both (head_legal b (said_head s l)) e))
    (λ h v e m. refused slice_too_short (lit< tt) (read_cut b h v e m) (λ f s l. omega (arith, said_room s)))
    (λ h v e m. said (whole_says b v m) (whole_legal b v m e))

-- ---- read

-- a whole head asks for more than is there only with persistence, and then for its addresses
cut_row : (b : List ℕ) → head_length ≤ length b → value_at version_at strategy_at b ≡ version → HeadKept b → length b < length_of (head_fields b)
    → ReadRow b slice_too_short no_fields
cut_row b h v k m =
    split 1 (value_at persist_at threshold_at b)
    (λ p. no_addresses refl refl h v k p (rw (head_with_addresses b (λ z. omega arith)) at m))
    (λ p. let z : value_at persist_at threshold_at b ≡ 0 = omega arith in absurd (omega (arith, head_without b z)))

reading_row : (b : List ℕ) → ReadRow b (reading b).refusal (reading b).fields
reading_row b =
    read_cases b
    (λ h. rw (read_short b h) (too_short refl refl h))
    (λ h n. rw (read_version b h n) (another_version refl refl h n))
    (λ h v e. rw (read_field b h v e) (field_broken refl refl h v (λ k. not_both (head_legal b k) e)))
    (λ h v e m. rw (read_cut b h v e m) (cut_row b h v (legal_head b e) m))
    (λ h v e m. rw (read_done b h v e m) (done refl (whole_says b v m) (whole_legal b v m e)))

row_reading : (b : List ℕ) (o : ReadOutcome) → ReadRow b o.refusal o.fields → o ≡ reading b
row_reading b o (too_short n g h) = (λ i. record { refusal = n i; fields = g i }) ∙ sym (read_short b h)
row_reading b o (another_version n g h v) = (λ i. record { refusal = n i; fields = g i }) ∙ sym (read_version b h v)
row_reading b o (field_broken n g h v m) =
    (λ i. record { refusal = n i; fields = g i }) ∙ sym (read_field b h v (head_broken b m))
row_reading b o (no_addresses n g h v k p m) =
    (λ i. record { refusal = n i; fields = g i }) ∙ sym (read_cut b h v (head_legal b k) (rw (head_with_addresses b (λ z. omega arith)) m))
row_reading b o (done n s l) = (λ i. record { refusal = n i; fields = fields_said s i }) ∙ sym (says_done s l)

pub read_exact : ReadExact
read_exact b o = (λ e. rw e (reading_row b), row_reading b o)

-- ---- rest

following_whole : (b : List ℕ) {n : ℕ} → 0 < n → reading b ≡ refused_read n → following b ≡ b
unfolding following
following_whole b h e = rw (follows_refused b h e)

following_behind : (b : List ℕ) {f : Fields} → reading b ≡ record { refusal = 0; fields = f } → following b ≡ drop (length_of f) b
unfolding following
following_behind b e = rw (follows_done b e)

following_row : (b : List ℕ) → RestRow b (following b)
following_row b =
    rest_cases b (λ k h e n. whole (following_whole b h e) n) (λ s l. behind (fields_of b) s l (following_behind b (says_done s l)))

row_following : (b c : List ℕ) → RestRow b c → c ≡ following b
row_following b c (whole e n) =
    rest_cases b (λ k h a m. e ∙ sym (following_whole b h a)) (λ s l. absurd (n (fields_of b) s l))
row_following b c (behind f s l e) = e ∙ ap (λ (g : Fields). drop (length_of g) b) (fields_said s) ∙ sym (following_behind b (says_done s l))

pub rest_exact : RestExact
rest_exact b c = (λ e. rw e (following_row b), row_following b c)

-- ---- write

-- the message of legal fields in front of c says them
module _ (f : Fields) (b c : List ℕ) (h : Held f) (e : c ≡ message_of f ++ drop (length_of f) b) where
  length_laid : length (message_of f) ≡ length_of f
  length_laid = length_message f h.six_small h.six_large

  laid_says : Legal f → Says f c
  laid_says l =
      let n : length c ≡ length (message_of f) + length (drop (length_of f) b) = ap length e ∙ length-append (message_of f) (drop (length_of f) b) in
      message_said f c h (legal_absent f h l) (omega (arith, length_laid))
      (ap (λ (k : List ℕ). take (length_of f) k) e ∙ take_at (message_of f) (drop (length_of f) b) (length_of f) length_laid)

  laid_rest : drop (length_of f) c ≡ drop (length_of f) b
  laid_rest = ap (λ (k : List ℕ). drop (length_of f) k) e ∙ drop_at (message_of f) (drop (length_of f) b) (length_of f) length_laid

written_row : (f : Fields) (b : List ℕ) → Held f → WriteRow f b (written f b).refusal (written f b).bytes
written_row f b h = tested (legalb f) refl
  where
    tested : (t : Bool) → legalb f ≡ t → WriteRow f b (written f b).refusal (written f b).bytes
    tested false e = rw (write_field f b e) (field_broken refl refl (λ l. not_both (true_legal f l) e))
    tested true e =
        split (length_of f) (length b)
        (λ m. rw (write_done f b e m) (done refl (legal_true f e) m (laid_says f b _ h refl (legal_true f e)) (laid_rest f b _ h refl)))
        (λ m. rw (write_short f b e m) (too_short refl refl (legal_true f e) m))

row_written : (f : Fields) (b : List ℕ) (o : WriteOutcome) → Bytes o.bytes → WriteRow f b o.refusal o.bytes → o ≡ written f b
row_written f b o k (field_broken n e l) = (λ i. record { refusal = n i; bytes = e i }) ∙ sym (write_field f b (false_legal f l))
row_written f b o k (too_short n e l m) = (λ i. record { refusal = n i; bytes = e i }) ∙ sym (write_short f b (true_legal f l) m)
row_written f b o k (done n l m s d) =
    let c : o.bytes ≡ message_of f ++ drop (length_of f) b = rw (said_message k s, ← d) (sym (take-append-drop (length_of f) o.bytes)) in
    (λ i. record { refusal = n i; bytes = c i }) ∙ sym (write_done f b (true_legal f l) m)

pub write_exact : WriteExact
write_exact f b o h j k = (λ w. rw w.outcome (written_row f b h), λ r. record { held = h; outcome = row_written f b o k r })

-- ---- acceptance

-- a refusal has another number than success
not_refused : (b : List ℕ) {n : ℕ} → (reading b).refusal ≡ 0 → 0 < n → reading b ≡ refused_read n → ⊥
not_refused b {n} e h a = let z : (reading b).refusal ≡ n = ap (λ (o : ReadOutcome). o.refusal) a in omega arith

pub acceptance : Acceptance
acceptance b = (found, λ m. ap (λ (o : ReadOutcome). o.refusal) (says_done m.says m.legal))
  where
    found : (reading b).refusal ≡ 0 → Message b
    found e = rest_cases b (λ n h a m. absurd (not_refused b e h a)) (λ s l. record { fields = fields_of b; says = s; legal = l })

-- ---- the round trip

module _ (f : Fields) (b : List ℕ) (h : Held f) (l : Legal f) (m : length_of f ≤ length b) where
  trip : (written f b).bytes ≡ message_of f ++ drop (length_of f) b
  trip = ap (λ (o : WriteOutcome). o.bytes) (write_done f b (true_legal f l) m)

  trip_says : Says f (written f b).bytes
  trip_says = laid_says f b (written f b).bytes h trip l

  trip_done : reading (written f b).bytes ≡ record { refusal = 0; fields = f }
  trip_done = says_done trip_says l ∙ ap (λ (g : Fields). record { refusal = 0; fields = g }) (sym (fields_said trip_says))

  trip_rest : following (written f b).bytes ≡ drop (length_of f) b
  trip_rest = following_behind (written f b).bytes trip_done ∙ laid_rest f b (written f b).bytes h trip

read_write : (b c : List ℕ) → Bytes b → (reading b).refusal ≡ 0 → length_of (reading b).fields ≤ length c
    → written (reading b).fields c
    ≡ record { refusal = 0; bytes = take (length_of (reading b).fields) b ++ drop (length_of (reading b).fields) c }
read_write b c h e m =
    rest_cases b
    (λ n k a x. absurd (not_refused b e k a))
    (λ s l.
    let r = ap (λ (o : ReadOutcome). o.fields) (says_done s l) in
    let fits : length_of (fields_of b) ≤ length c = rw (← r) m in
    rw (r, ← (said_message h s)) (write_done (fields_of b) c (true_legal (fields_of b) l) fits))

held_none : Held no_fields
unfolding no_fields
held_none =
    let z = below_replicate address_width types 0 (lit< tt) in
    record {
      strategy = lit< tt;
      persist = lit< tt;
      threshold = lit< tt;
      page = lit< tt;
      page_end = lit< tt;
      eoa = lit< tt;
      six_small = refl;
      small = z;
      six_large = refl;
      large = z;
    }

read_held : (b : List ℕ) → Bytes b → Held (reading b).fields
read_held b h = rest_cases b (λ n k e x. rw e held_none) (λ s l. rw (says_done s l) (held_fields b h))

pub round_trip : RoundTrip
round_trip = record { write_read = trip_done; write_rest = trip_rest; read_write = read_write; read_held = read_held }

-- ---- uniqueness

one_outcome : (b : List ℕ) (o p : ReadOutcome) → ReadRow b o.refusal o.fields → ReadRow b p.refusal p.fields → o ≡ p
one_outcome b o p x y = row_reading b o x ∙ sym (row_reading b p y)

one_read : (b : List ℕ) (r s : Result Fields Refusal) → ReadRow b (read_said r).refusal (read_said r).fields
    → ReadRow b (read_said s).refusal (read_said s).fields → r ≡ s
one_read b r s x y = said r s (one_outcome b (read_said r) (read_said s) x y)

one_write : (f : Fields) (b : List ℕ) (a z : Result Unit Refusal) (c d : List ℕ) → Held f → Bytes b → Bytes c → Bytes d
    → WriteRow f b (number_of a) c → WriteRow f b (number_of z) d → (a ≡ z) × (c ≡ d)
one_write f b a z c d h j k l x y =
    let e : write_said a c ≡ write_said z d = row_written f b (write_said a c) k x ∙ sym (row_written f b (write_said z d) l y) in
    (answered a z (ap (λ (o : WriteOutcome). o.refusal) e), ap (λ (o : WriteOutcome). o.bytes) e)

pub one_meaning : OneMeaning
one_meaning =
    record {
      outcome = one_outcome;
      read = one_read;
      rest = λ b c d x y. row_following b c x ∙ sym (row_following b d y);
      write = one_write;
      fields = λ f g b s t. fields_said s ∙ sym (fields_said t);
      bytes = λ f b c h k s t. sym (said_message h s) ∙ said_message k t;
    }
