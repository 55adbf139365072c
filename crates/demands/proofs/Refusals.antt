-- Demand 1: a refused call returns its number, the state as given and every lent word as it came.
--
--   refusing_in           one refusal more in front of what a call leaves: refusing-answered, refusing-place, refusing-list
--   settled_answered      a change that may find the table full
--   naming_answered       the front of the calls that name a piece; longer-answered, shorter-answered its new size
--   refusals              the statement
--
-- Assumes nothing.
use Prim.Native.Nat.{ℕ, ◌+◌, ◌-◌}
use mathlib.Core.Bool.{Bool, true, false, cond, not}
use mathlib.Core.List.Memᴰ.{tail as on}
use mathlib.Core.List.{List, [], ◌∷◌, Memᴰ}
use mathlib.Core.Path.{◌≡◌, refl, ap}
use lib.Dec.{eqb}
use lib.ListN.{length, replicate}
use borrow.Author.Tests.{eqb-true}
use Rattle.choose.specs.declared.place.Place.{Place}
use Rattle.demands.specs.Calls.{Call, called, refusals_of, list_refusals, handed_back, OnSpace, allocating, releasing, extending, shortening}
use Rattle.demands.specs.Calls.{opens, allocates, releases, extends, shortens}
use Rattle.demands.specs.Demands.{Answered, accepted, refused, list_outcome, Refusals}
use Rattle.find.specs.Find.{Found, find_in}
use Rattle.pages.proofs.Numbers.{not_both}
use Rattle.pieces.specs.Pieces.{class_of}
use Rattle.pieces.specs.declared.Class.{Class}
use Rattle.pieces.specs.declared.Piece.{Piece}
use Rattle.refusals.specs.AnswerNumbers.{out_of_range, not_sound, zero_asked, table_full, no_room_behind, beyond_limit, too_little_left, no_address}
use Rattle.refusals.specs.AnswerNumbers.{beyond_end, in_free, inside_live, other_size}
use Rattle.refusals.specs.declared.NotNamed.TheVariants as finding
use Rattle.refusals.specs.declared.NotResized.TheVariants.{NoRoomBehind, BeyondLimit, TooLittleLeft}
use Rattle.room.specs.Room.{room_behindb, grows_beyondb, remainsb}
use Rattle.space.proofs.GiveLaws.{released_unsound, resized_unsound}
use Rattle.space.proofs.ListLaws.{listed_unsound}
use Rattle.space.proofs.OpenLaws.{nowhere_unsound}
use Rattle.space.proofs.PlaceLaws.{allocated_unsound}
use Rattle.space.specs.Giving.{when_named, naming, released_at, released}
use Rattle.space.specs.Giving.{entries_behind, new_size, resized_to, resized_at, resized, extended, shortened}
use Rattle.space.specs.Listing.{ListOutcome, uncounted, listed_as, listed}
use Rattle.space.specs.Opening.{nowhere, opened}
use Rattle.space.specs.Outcomes.{entries_of, Outcome, refusing, plain, settled}
use Rattle.space.specs.Placing.{Placed, unplaced, placed_at, placed, allocated}
use Rattle.space.specs.declared.Space.{Space}
use Rattle.space.specs.declared.give.Way.TheVariants.{Longer, Shorter}
use Rattle.std.specs.Prelude.{Ok, Err}
use Rattle.table.specs.Local.{rangesb}

-- ---- one refusal more

here : {k : ℕ} {ks : List ℕ} → Memᴰ k (k ∷ ks)
here = Memᴰ.head refl

-- the refusals of a name are among the numbers ks
record WrongNames (ks : List ℕ) : Type 0 where
  beyond : Memᴰ beyond_end ks
  free : Memᴰ in_free ks
  inside : Memᴰ inside_live ks
  other : Memᴰ other_size ks

wrong_here : {ks : List ℕ} → WrongNames (beyond_end ∷ in_free ∷ inside_live ∷ other_size ∷ ks)
wrong_here = record { beyond = here; free = on here; inside = on (on here); other = on (on (on here)) }

wrong_on : {k : ℕ} {ks : List ℕ} → WrongNames ks → WrongNames (k ∷ ks)
wrong_on n = record { beyond = on n.beyond; free = on n.free; inside = on n.inside; other = on n.other }

-- a number behind 2, 4 and those of a name
past_names : {k : ℕ} {ks : List ℕ} → Memᴰ k ks
    → Memᴰ k (not_sound ∷ zero_asked ∷ beyond_end ∷ in_free ∷ inside_live ∷ other_size ∷ ks)
past_names h = on (on (on (on (on (on h)))))

module _ {ks : List ℕ} {sp : Space} {w : List ℕ} where
  refused_answered : {k : ℕ} → Memᴰ k ks → Answered ks sp w (record { refusal = k; state = sp; words = w })
  refused_answered i = refused i refl refl

  -- one refusal more in front of what a call leaves, in any form
  refusing_in : {A : Type 0} (form : Outcome → A) (back : A → Outcome) → ((v : Outcome) → back (form v) ≡ v) → {k : ℕ} (o : A) (t : Bool)
      → Memᴰ k ks → Answered ks sp w (back o) → Answered ks sp w (back (refusing form sp w t k o))
  unfolding refusing
  refusing_in form back is o true i h = rw is (refused_answered i)
  refusing_in form back is o false i h = h

  pub refusing_answered : {k : ℕ} {o : Outcome} (t : Bool) → Memᴰ k ks → Answered ks sp w o → Answered ks sp w (refusing plain sp w t k o)
  refusing_answered {o = o} t i h = refusing_in plain plain (λ v. refl) o t i h

  refusing_place : {k : ℕ} (p : Placed) (t : Bool) → Memᴰ k ks → Answered ks sp w p.outcome
      → Answered ks sp w (refusing unplaced sp w t k p).outcome
  refusing_place p t i h = refusing_in unplaced (λ p. p.outcome) (λ v. refl) p t i h

  refusing_list : {k : ℕ} (o : ListOutcome) (t : Bool) → Memᴰ k ks → Answered ks sp w (list_outcome o)
      → Answered ks sp w (list_outcome (refusing uncounted sp w t k o))
  refusing_list o t i h = refusing_in uncounted list_outcome (λ v. refl) o t i h

  pub settled_answered : (ps : List Piece) → Memᴰ table_full ks → Answered ks sp w (settled sp w ps)
  unfolding settled
  settled_answered ps i = refusing_answered _ i (accepted refl)

  -- the front of the calls that name a piece; 4 is among the numbers where the call has that refusal
  naming_answered : (zero : Bool) (a z : ℕ) (found : ℕ → Piece → Outcome) → Memᴰ not_sound ks → (zero ≡ true → Memᴰ zero_asked ks)
      → WrongNames ks → ((i : ℕ) (x : Piece) → Answered ks sp w (found i x)) → Answered ks sp w (naming sp w zero a z found)
  unfolding naming when_named refusing
  naming_answered zero a z found i j n h = refusing_answered _ i (asked zero j)
    where
      named : (f : Found) → Answered ks sp w (when_named sp w found f)
      named (Ok (k, x)) = h k x
      named (Err finding.BeyondEnd) = refused_answered n.beyond
      named (Err finding.InFree) = refused_answered n.free
      named (Err finding.InsideLive) = refused_answered n.inside
      named (Err finding.OtherSize) = refused_answered n.other

      -- a 4 that comes is among the numbers
      asked : (t : Bool) → (t ≡ true → Memᴰ zero_asked ks)
          → Answered ks sp w (refusing plain sp w t zero_asked (when_named sp w found (find_in a z 0 (entries_of sp w))))
      asked true j = refused_answered (j refl)
      asked false j = named (find_in a z 0 (entries_of sp w))

  -- an extend's new size, by what its two tests say, and a shorten's
  longer_answered : (a z m : ℕ) (room beyond : Bool) → Memᴰ no_room_behind ks → Memᴰ beyond_limit ks → Memᴰ table_full ks
      → Answered ks sp w (resized_to sp a z w (cond (not room) (Err NoRoomBehind) (cond beyond (Err BeyondLimit) (Ok (z + m)))))
  unfolding resized_to
  longer_answered a z m false b i j k = refused_answered i
  longer_answered a z m true true i j k = refused_answered j
  longer_answered a z m true false i j k = settled_answered _ k

  shorter_answered : (a z m : ℕ) (left : Bool) → Memᴰ too_little_left ks → Memᴰ table_full ks
      → Answered ks sp w (resized_to sp a z w (cond (not left) (Err TooLittleLeft) (Ok (z - m))))
  unfolding resized_to
  shorter_answered a z m false i k = refused_answered i
  shorter_answered a z m true i k = settled_answered _ k

-- ---- each call

opened_answered : (P M : ℕ) (w : List ℕ) → Answered (out_of_range ∷ []) nowhere w (opened P M w)
unfolding opened
opened_answered P M w = go (rangesb P M 0 0 (length w))
  where
    go : (t : Bool) → Answered (out_of_range ∷ []) nowhere w
        (cond t (record { refusal = 0; state = record { page = P; limit = M; end = 0; count = 0 }; words = replicate (length w) 0 })
        (record { refusal = out_of_range; state = nowhere; words = w }))
    go true = accepted refl
    go false = refused_answered here

module _ (sp : Space) (w : List ℕ) where
  placed_answered : (k : Class) (s : ℕ) (q : Place) → Answered (refusals_of (allocates 0 0)) sp w (placed sp k s w q).outcome
  unfolding placed placed_at
  placed_answered k s q = refusing_place _ _ (on (on (on here))) (settled_answered _ (on (on (on (on here)))))

  allocated_answered : (t s : ℕ) → Answered (refusals_of (allocates 0 0)) sp w (allocated sp t s w).outcome
  unfolding allocated
  allocated_answered t s =
      refusing_place _ _ here (refusing_place _ _ (on here) (refusing_place _ _ (on (on here)) (placed_answered _ s _)))

  released_answered : (a z : ℕ) → Answered (refusals_of (releases a z)) sp w (released sp a z w)
  unfolding released released_at
  released_answered a z =
      naming_answered false a z (released_at sp a z w) here (λ e. absurd (not_both e refl)) (wrong_on wrong_here)
      (λ i x. settled_answered _ (on (on (on (on (on here))))))

  extended_answered : (a z m : ℕ) → Answered (refusals_of (extends a z m)) sp w (extended sp a z m w)
  unfolding resized new_size
  extended_answered a z m =
      naming_answered _ a z (resized_at sp a z Longer m w) here (λ e. on here) (wrong_on (wrong_on wrong_here))
      (λ i x. longer_answered a z m (room_behindb sp.page (class_of x.status) (a + z) z m (entries_behind sp w i))
      (grows_beyondb sp.page sp.limit (a + z) m (entries_behind sp w i))
      (past_names here) (past_names (on here)) (past_names (on (on here))))

  shortened_answered : (a z k : ℕ) → Answered (refusals_of (shortens a z k)) sp w (shortened sp a z k w)
  unfolding resized new_size
  shortened_answered a z k =
      naming_answered _ a z (resized_at sp a z Shorter k w) here (λ e. on here) (wrong_on (wrong_on wrong_here))
      (λ i x. shorter_answered a z k (remainsb sp.page (class_of x.status) z k) (past_names here) (past_names (on here)))

calls_answered : (c : Call) (sp : Space) (w : List ℕ) → Answered (refusals_of c) (handed_back c sp) w (called c sp w)
unfolding called
calls_answered (opens P M) sp w = opened_answered P M w
calls_answered (allocates t s) sp w = allocated_answered sp w t s
calls_answered (releases a z) sp w = released_answered sp w a z
calls_answered (extends a z m) sp w = extended_answered sp w a z m
calls_answered (shortens a z k) sp w = shortened_answered sp w a z k

refusal_of : {o p : Outcome} → o ≡ p → o.refusal ≡ p.refusal
refusal_of e = ap (λ (v : Outcome). v.refusal) e

nowhere_calls : (c : Call) (w : List ℕ) → OnSpace c → (called c nowhere w).refusal ≡ not_sound
unfolding called
nowhere_calls c w (allocating {t = t} {s = s}) = ap (λ (p : Placed). p.outcome.refusal) (allocated_unsound nowhere t s w (nowhere_unsound w))
nowhere_calls c w (releasing {a = a} {z = z}) = refusal_of (released_unsound nowhere a z w (nowhere_unsound w))
nowhere_calls c w (extending {a = a} {z = z} {m = m}) = refusal_of (resized_unsound nowhere a z Longer m w (nowhere_unsound w))
nowhere_calls c w (shortening {a = a} {z = z} {k = k}) = refusal_of (resized_unsound nowhere a z Shorter k w (nowhere_unsound w))

nowhere_list : (m : ℕ) (w v : List ℕ) → (listed nowhere m w v).refusal ≡ not_sound
nowhere_list m w v = ap (λ (o : ListOutcome). o.refusal) (listed_unsound nowhere m w v (nowhere_unsound w))

-- ---- the address answer

-- accepted, or no address
data Addressed (p : Placed) : Type 0 where
  some_address : p.outcome.refusal ≡ 0 → Addressed p
  none_address : p.address ≡ no_address → Addressed p

refusing_addressed : (sp : Space) (w : List ℕ) (t : Bool) (k : ℕ) (p : Placed) → Addressed p → Addressed (refusing unplaced sp w t k p)
unfolding refusing
refusing_addressed sp w true k p h = none_address refl
refusing_addressed sp w false k p h = h

placed_addressed : (b : ℕ) (o : Outcome) → Addressed (placed_at b o)
unfolding placed_at
placed_addressed b o = go (eqb o.refusal 0) refl
  where
    go : (t : Bool) → eqb o.refusal 0 ≡ t → Addressed (record { address = cond (eqb o.refusal 0) b no_address; outcome = o })
    go true e = some_address (eqb-true o.refusal 0 e)
    go false e = none_address (rw e)

allocated_addressed : (sp : Space) (t s : ℕ) (w : List ℕ) → Addressed (allocated sp t s w)
unfolding allocated placed
allocated_addressed sp t s w =
    refusing_addressed sp w _ _ _
    (refusing_addressed sp w _ _ _ (refusing_addressed sp w _ _ _ (refusing_addressed sp w _ _ _ (placed_addressed _ _))))

no_address_lem : {p : Placed} → Addressed p → (p.outcome.refusal ≡ 0 → ⊥) → p.address ≡ no_address
no_address_lem (some_address e) n = absurd (n e)
no_address_lem (none_address e) n = e

-- ---- a listing

module _ (sp : Space) (m : ℕ) (w v : List ℕ) where
  listing_answered : Answered list_refusals sp v (list_outcome (listed sp m w v))
  unfolding listed listed_as
  listing_answered = refusing_list _ _ here (refusing_list _ _ (on here) (refusing_list _ _ (on (on here)) (accepted refl)))

  -- the count and the state, refused or not
  data Counted (o : ListOutcome) : Type 0 where
    counted : o.refusal ≡ 0 → o.state ≡ sp → Counted o
    not_counted : o.count ≡ 0 → o.state ≡ sp → Counted o

  refusing_counted : (t : Bool) (k : ℕ) (o : ListOutcome) → Counted o → Counted (refusing uncounted sp v t k o)
  unfolding refusing
  refusing_counted true k o h = not_counted refl refl
  refusing_counted false k o h = h

  listing_counted : Counted (listed sp m w v)
  unfolding listed listed_as
  listing_counted = refusing_counted _ _ _ (refusing_counted _ _ _ (refusing_counted _ _ _ (counted refl refl)))

  no_count : {o : ListOutcome} → Counted o → (o.refusal ≡ 0 → ⊥) → o.count ≡ 0
  no_count (counted e f) n = absurd (n e)
  no_count (not_counted e f) n = e

  counted_state : {o : ListOutcome} → Counted o → o.state ≡ sp
  counted_state (counted e f) = f
  counted_state (not_counted e f) = f

pub refusals : Refusals
refusals =
    record {
      calls = calls_answered;
      address = λ sp t s w n. no_address_lem (allocated_addressed sp t s w) n;
      listing = listing_answered;
      count = λ sp m w v n. no_count sp m w v (listing_counted sp m w v) n;
      same_state = λ sp m w v. counted_state sp m w v (listing_counted sp m w v);
      nowhere_refused = nowhere_calls;
      nowhere_listed = nowhere_list;
    }
