-- Laws of the calls over an area, step by step as the code has them.
--
--   carry_first, carry_most, carry_written   a change that is carried out and written: from where and how far, and that the area is then that of
--                                 what it leaves
--   in_other, in_done, in_refused            what a call leaves: on bytes that are no area; done; refused
--   held                          what was read out of an area, it holds
--   told_done, told_refused, told_unsound    what a call is told, and leaves, of what was read; told_other, of bytes that are no area
--   open_done, open_refused       what an opening leaves
--   with_done, with_refused       the result of an allocation, by what it left of the area
--   in_short, in_enough           what an allocation leaves, by the length of its result
--   result_done, result_refused   the same, of what was told
use Prim.Native.Nat.{ℕ, ◌+◌, ◌*◌, ◌≤◌, ◌<◌, max}
use mathlib.Core.Bool.{Bool, true, false}
use mathlib.Core.List.{List}
use mathlib.Core.Path.{◌≡◌, refl, sym, ap, ◌∙◌}
use native.Mathlib.Omega.{arith}
use lib.Dec.{eqb}
use lib.ListN.{length, take, drop}
use borrow.Author.Tests.{eq-eqb, ne_eqb, lt-ltb, le-ltb}
use Rattle.area_bytes.proofs.AreaLaws.{head_over, entries_over, area_read}
use Rattle.area_bytes.specs.Area.{table_at, entry_bytes, area_lengthb, table_words, state_in, words_in, head_of, area_of}
use Rattle.area_calls.specs.Asking.{meant, left_in, address_in, Leads, ToldIn}
use Rattle.area_calls.specs.Calls.{Left, left_by, area_said, both_said, in_area, opened_in, with_address, allocated_in, Lent, Holds}
use Rattle.area_calls.specs.declared.Asked.{Asked}
use Rattle.area_calls.specs.declared.Asked.TheVariants.{Allocate, Release, Resize}
use Rattle.area_calls.specs.declared.Told.{Told}
use Rattle.change.specs.declared.plan.Plan.{Plan}
use Rattle.little.proofs.LittleLaws.{length_numbers}
use Rattle.little.specs.Little.{word_bytes, part, bytes_of, bytes_of_all, laid, Bytes}
use Rattle.pieces.specs.Words.{entry_words}
use Rattle.refusals.specs.AnswerNumbers.{out_of_range, not_sound, slice_too_short, no_address, open_number}
use Rattle.settle.proofs.SettleLaws.{length_carried, carried_front, carried_back}
use Rattle.settle.specs.Settle.{carried_out, CarryFits}
use Rattle.space.proofs.GiveLaws.{released_unsound, resized_unsound}
use Rattle.space.proofs.PlaceLaws.{allocated_unsound}
use Rattle.space.specs.Halves.{carry_said, carried, Refuses}
use Rattle.space.specs.Opening.{opened}
use Rattle.space.specs.Outcomes.{soundb, Outcome, refused}
use Rattle.space.specs.Placing.{Placed, unplaced, allocated}
use Rattle.space.specs.Said.{open_said}
use Rattle.space.specs.declared.Space.{Space}
use Rattle.space.specs.declared.answers.Answered.{Answered}
use Rattle.refusals.specs.declared.OpenRefusal.{OpenRefusal}
use Rattle.std.specs.Prelude.{Ok, Err}
use Rattle.table.proofs.Theorems.{count_fits}
use Rattle.table.specs.Local.{rangesb}

-- ---- a change that is carried out

module _ (sp : Space) (w : List ℕ) (plan : Plan) (f : CarryFits sp.count w plan) (m : ℕ) (last : m ≡ max sp.count plan.count) where
  pub carry_most : m * entry_words ≤ length w
  carry_most = omega (arith, last, count_fits f.sound.ranges, f.room)

  pub carry_first : plan.from ≤ m
  carry_first = omega (arith, last, f.low, f.high)

  -- c is the area with the new head, and d with the entries too
  pub carry_written : (b c d : List ℕ) (next : Space) (v : List ℕ) → Holds b sp w → carry_said next v ≡ carried sp w plan
      → c ≡ laid 0 table_at (head_of next) b
      → d ≡ laid (table_at + plan.from * entry_bytes) (table_at + m * entry_bytes) (bytes_of_all word_bytes (part (plan.from * entry_words) (m * entry_words) v)) c
      → d ≡ left_by (carried sp w plan)
  carry_written b c d next v holds said head entries =
      let i : ℕ = plan.from * entry_words in
      let j : ℕ = m * entry_words in
      let is : v ≡ carried_out sp.count w plan = ap (λ (o : Outcome). o.words) said in
      let over : c ≡ area_of next w = head ∙ (ap (λ (l : List ℕ). laid 0 table_at (head_of next) l) holds ∙ head_over sp next w) in
      let at_i : table_at + plan.from * entry_bytes ≡ table_at + i * word_bytes = omega arith in
      let at_j : table_at + m * entry_bytes ≡ table_at + j * word_bytes = omega arith in
      let low : i ≤ j = omega (arith, carry_first) in
      let laid_over =
      entries_over next w v i j low carry_most (ap length is ∙ length_carried f)
      (ap (λ (l : List ℕ). take i l) is ∙ carried_front f)
      (ap (λ (l : List ℕ). drop j l) is ∙ carried_back f m (omega (arith, last)) (omega (arith, last))) in
      entries
      ∙ (λ k. laid (at_i k) (at_j k) (bytes_of_all word_bytes (part i j v)) (over k))
      ∙ laid_over
      ∙ ap left_by said

-- ---- what is decided

meant_unsound : (q : Asked) (sp : Space) (w : List ℕ) → soundb sp w ≡ false → meant q sp w ≡ unplaced (refused not_sound sp w)
meant_unsound (Allocate t s) sp w e = allocated_unsound sp t s w e
meant_unsound (Release a z) sp w e = ap unplaced (released_unsound sp a z w e)
meant_unsound (Resize a z way m) sp w e = ap unplaced (resized_unsound sp a z way m w e)

-- ---- what a call leaves

module _ (k : ℕ) (b : List ℕ) (o : Outcome) where
  pub in_other : area_lengthb (length b) ≡ false → in_area k b o ≡ area_said k b
  unfolding in_area
  in_other e = rw e

  module _ (form : area_lengthb (length b) ≡ true) where
    pub in_done : o.refusal ≡ 0 → in_area k b o ≡ area_said o.refusal (left_by o)
    unfolding in_area
    in_done e = let t : eqb o.refusal 0 ≡ true = eq-eqb o.refusal 0 e in rw (form, t)

    pub in_refused : (o.refusal ≡ 0 → ⊥) → in_area k b o ≡ area_said o.refusal b
    unfolding in_area
    in_refused n = let t : eqb o.refusal 0 ≡ false = ne_eqb o.refusal 0 n in rw (form, t)

    -- r is what the call answered, and c the area then
    module _ {r : ℕ} (said : r ≡ o.refusal) where
      left_done : {c : List ℕ} → r ≡ 0 → c ≡ left_by o → area_said r c ≡ in_area k b o
      left_done done e = (λ i. area_said (said i) (e i)) ∙ sym (in_done (sym said ∙ done))

      left_refused : (r ≡ 0 → ⊥) → area_said r b ≡ in_area k b o
      left_refused some = ap (λ (n : ℕ). area_said n b) said ∙ sym (in_refused (λ e. some (said ∙ e)))

-- what q is told, of the state sp and the words w that were read out of the area b
module _ (b : List ℕ) (form : area_lengthb (length b) ≡ true) (sp : Space) (w : List ℕ) (state : sp ≡ state_in b) (words : w ≡ words_in b) where
  pub held : Bytes b → Holds b sp w
  held h = sym ((λ i. area_of (state i) (words i)) ∙ area_read b h form)

  module _ (q : Asked) where
    same : meant q sp w ≡ meant q (state_in b) (words_in b)
    same = λ i. meant q (state i) (words i)

    left_same : in_area not_sound b (meant q sp w).outcome ≡ left_in q b
    left_same = ap (λ (o : Placed). in_area not_sound b o.outcome) same

    address_same : (meant q sp w).address ≡ address_in q b
    address_same = rw form (ap (λ (o : Placed). o.address) same)

    pub told_done : {a : ℕ} {plan : Plan} {c : List ℕ} → Leads sp w (meant q sp w) (Ok (a, plan)) → c ≡ left_by (carried sp w plan)
        → ToldIn q b (record { number = 0; address = a }) c
    told_done d e =
        let leads = d.1.leads in
        record {
          left = left_done not_sound b (meant q sp w).outcome form (ap (λ (o : Outcome). o.refusal) leads) refl (e ∙ ap left_by leads) ∙ left_same;
          address = d.0 ∙ address_same;
        }

    pub told_refused : {k : ℕ} → Leads sp w (meant q sp w) (Err k) → ToldIn q b (record { number = k; address = no_address }) b
    told_refused d =
        record {
          left = left_refused not_sound b (meant q sp w).outcome form (ap (λ (o : Outcome). o.refusal) d.1.leads) d.1.some ∙ left_same;
          address = d.0 ∙ address_same;
        }

    pub told_unsound : soundb sp w ≡ false → ToldIn q b (record { number = not_sound; address = no_address }) b
    told_unsound e =
        let u = sym (meant_unsound q sp w e) in
        let refuses : Refuses sp w (meant q sp w).outcome not_sound = record { leads = ap (λ (o : Placed). o.outcome) u; some = λ z. omega (arith, z) } in
        told_refused (ap (λ (o : Placed). o.address) u, refuses)

-- of bytes that are no area
pub told_other : (q : Asked) (b : List ℕ) → area_lengthb (length b) ≡ false → ToldIn q b (record { number = not_sound; address = no_address }) b
told_other q b e = record { left = sym (in_other not_sound b _ e); address = rw e }

-- ---- an opening

-- of the words only their number counts
opened_same : (P M k : ℕ) (b w v : List ℕ) → length w ≡ length v → in_area k b (opened P M w) ≡ in_area k b (opened P M v)
unfolding in_area opened
opened_same P M k b w v e = go (rangesb P M 0 0 (length w)) refl
  where
    go : (t : Bool) → rangesb P M 0 0 (length w) ≡ t → in_area k b (opened P M w) ≡ in_area k b (opened P M v)
    go true f = let g : rangesb P M 0 0 (length v) ≡ true = rw (← e) f in rw (f, g, e)
    go false f = let g : rangesb P M 0 0 (length v) ≡ false = rw (← e) f in rw (f, g)

-- y is what the opening of the table w answered, with the words v, and r the number of that
module _ (P M : ℕ) (b w v : List ℕ) (lent : Lent b w) (y : Answered Unit OpenRefusal) (said : open_said y v ≡ opened P M w) (r : ℕ) (number : r ≡ open_number y.answer) where
  whole : in_area out_of_range b (open_said y v) ≡ opened_in P M b
  whole =
      let n : length w ≡ length (words_in b) = omega (arith, lent.fits, length_numbers word_bytes (table_words (length b)) (drop table_at b)) in
      ap (in_area out_of_range b) said ∙ opened_same P M out_of_range b w (words_in b) n

  pub open_done : {c : List ℕ} → r ≡ 0 → c ≡ area_of y.space v → area_said r c ≡ opened_in P M b
  open_done done e = left_done out_of_range b (open_said y v) lent.area number done e ∙ whole

  pub open_refused : (r ≡ 0 → ⊥) → area_said r b ≡ opened_in P M b
  open_refused some = left_refused out_of_range b (open_said y v) lent.area number some ∙ whole

-- ---- an allocation

-- an accepted call is told its own address
address_done : (q : Asked) (b : List ℕ) → (left_in q b).refusal ≡ 0 → address_in q b ≡ (meant q (state_in b) (words_in b)).address
address_done q b done = go (area_lengthb (length b)) refl
  where
    go : (t : Bool) → area_lengthb (length b) ≡ t → address_in q b ≡ (meant q (state_in b) (words_in b)).address
    go true e = rw e
    go false e = absurd (omega (arith, sym (ap (λ (l : Left). l.refusal) (in_other not_sound b _ e)) ∙ done))

-- the address a in the result r, of a call that left l
module _ (a : ℕ) (r : List ℕ) (l : Left) where
  pub with_done : l.refusal ≡ 0 → with_address a r l ≡ record { left = l; result = laid 0 word_bytes (bytes_of word_bytes a) r }
  with_done e = let t : eqb l.refusal 0 ≡ true = eq-eqb l.refusal 0 e in rw t

  pub with_refused : (l.refusal ≡ 0 → ⊥) → with_address a r l ≡ record { left = l; result = r }
  with_refused n = let t : eqb l.refusal 0 ≡ false = ne_eqb l.refusal 0 n in rw t

module _ (t s : ℕ) (b r : List ℕ) where
  abbrev due : Placed
  due = allocated (state_in b) t s (words_in b)

  pub in_short : length r < word_bytes → allocated_in t s b r ≡ both_said slice_too_short b r
  unfolding allocated_in
  in_short h = rw (lt-ltb (length r) word_bytes h)

  pub in_enough : word_bytes ≤ length r → allocated_in t s b r ≡ with_address due.address r (in_area not_sound b due.outcome)
  unfolding allocated_in
  in_enough h = rw (le-ltb (length r) word_bytes h)

  -- y is what was told, and c the area then
  module _ (long : word_bytes ≤ length r) {y : Told} {c : List ℕ} (told : ToldIn (Allocate t s) b y c) where
    both : with_address due.address r (area_said y.number c) ≡ allocated_in t s b r
    both = ap (with_address due.address r) told.left ∙ sym (in_enough long)

    pub result_refused : (y.number ≡ 0 → ⊥) → both_said y.number c r ≡ allocated_in t s b r
    result_refused some = sym (with_refused due.address r (area_said y.number c) some) ∙ both

    pub result_done : {v : List ℕ} → y.number ≡ 0 → v ≡ laid 0 word_bytes (bytes_of word_bytes y.address) r → both_said y.number c v ≡ allocated_in t s b r
    result_done done e =
        let at : y.address ≡ due.address = told.address ∙ address_done (Allocate t s) b (sym (ap (λ (l : Left). l.refusal) told.left) ∙ done) in
        ap (both_said y.number c) (e ∙ ap (λ (a : ℕ). laid 0 word_bytes (bytes_of word_bytes a) r) at)
        ∙ sym (with_done due.address r (area_said y.number c) done)
        ∙ both
