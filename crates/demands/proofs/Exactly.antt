-- The numbered refusals: each is given exactly when document 01 and the requests say, in their order.
--
--   first, first_not        one row more: a test that refuses where its condition holds, or where it does not
--   settled_row             the last row of a change: 6, or accepted
--   found_row               what is wrong with a name, 13 to 16, by what was found
--   sound_row, naming_row, asking_row     the other rows that calls share
--   one_number              a row allows one number
--   exactly                 the statement
--
-- Assumes nothing. What each test says is in ConditionLaws.antt.
use Prim.Native.Nat.{ℕ, ◌+◌, ◌-◌, ◌*◌, ◌<◌}
use mathlib.Core.Bool.{Bool, true, false, cond, not, ◌||◌}
use mathlib.Core.List.{List}
use mathlib.Core.Path.{◌≡◌, refl, sym, ap, ◌∙◌}
use native.Mathlib.Omega.{arith}
use lib.Dec.{eqb}
use lib.ListN.{length}
use borrow.Author.Tests.{lt-ltb, eq-eqb, ltb-true, eqb-true}
use Rattle.accepted.proofs.PlaceRule.{place_found}
use Rattle.demands.proofs.ConditionLaws.{type_test, test_type, manager_test, test_manager, zero_test, test_zero}
use Rattle.demands.proofs.ConditionLaws.{chosen, beyond_end_lem as passes_limit, end_beyond, there, there_is, placing_it, too_many}
use Rattle.demands.proofs.ConditionLaws.{room, has_room, the_room, has_left, the_left, Beyond, grows_last, last_grows}
use Rattle.demands.proofs.Names.{case_of, place_of, told_right, not_before}
use Rattle.demands.specs.Calls.{Call, opens, allocates, releases, extends, shortens, called}
use Rattle.demands.specs.Demands.{Exactly}
use Rattle.demands.specs.Rows.{Given, given, passed_on, UnknownType, UnknownManager, ZeroAsked}
use Rattle.demands.specs.Rows.{NameCase, beyond_end_lem, in_free_lem, inside_live_lem, other_size_lem, IsSo, NameRow, HasRoom, HasLeft}
use Rattle.demands.specs.Rows.{NoPlace, LastLarge, TooMany, FullThere, Row, ListRow}
use Rattle.find.specs.Find.{Found, FoundAt, find_in, Finds}
use Rattle.pages.proofs.Numbers.{not_both}
use Rattle.pages.specs.Pages.{up}
use Rattle.pieces.specs.Pieces.{class_of}
use Rattle.pieces.specs.declared.Class.{Class}
use Rattle.pieces.specs.declared.Piece.{Piece}
use Rattle.refusals.specs.AnswerNumbers.{not_sound, unknown_code, zero_asked, beyond_limit, table_full, no_room_behind, too_little_left, slice_too_short}
use Rattle.refusals.specs.declared.NotNamed.TheVariants.{BeyondEnd, InFree, InsideLive, OtherSize}
use Rattle.refusals.specs.declared.NotResized.{NotResized}
use Rattle.refusals.specs.declared.NotResized.TheVariants.{NoRoomBehind, BeyondLimit, TooLittleLeft}
use Rattle.requests.specs.Requests.{class_for, class_of_manager}
use Rattle.room.specs.Room.{remainsb}
use Rattle.rules.specs.Editing.{remove, resize}
use Rattle.sections.specs.Sections.{sections, pair_words}
use Rattle.space.proofs.OpenLaws.{opened_refused, opened_done}
use Rattle.space.proofs.OutcomeLaws.{is_sound_true, sound_true}
use Rattle.space.specs.Giving.{name_of, when_named, naming, released_at, released}
use Rattle.space.specs.Giving.{new_size, resized_to, resized_at, resized, extended, shortened}
use Rattle.space.specs.Listing.{ListOutcome, listed_as, listed}
use Rattle.space.specs.Opening.{opened}
use Rattle.space.specs.Outcomes.{SoundSpace, soundb, entries_of, lives_of, Outcome, refusing, plain, settled}
use Rattle.space.specs.Placing.{Placed, placed_at, placed, allocated}
use Rattle.space.specs.declared.Space.{Space}
use Rattle.space.specs.declared.give.Way.TheVariants.{Longer, Shorter}
use Rattle.std.specs.Prelude.{Result, Ok, Err}
use Rattle.table.proofs.LocalLaws.{ranges_true, true_ranges}
use Rattle.table.specs.Fill.{fill}
use Rattle.table.specs.Local.{rangesb}
use Rattle.table.specs.Sound.{capacity}

-- ---- one row more

module _ {X : Type 0} (number : X → ℕ) (k : ℕ) (a b : X) (is : number a ≡ k) (Rest : ℕ → Type 0) where
  first : {W : Type 0} (t : Bool) → (t ≡ true → W) → (W → t ≡ true) → (t ≡ false → Rest (number b))
      → Given (number (cond t a b)) k W (Rest (number (cond t a b)))
  first true f g h = given (f refl) is
  first false f g h = passed_on (λ v. not_both (g v) refl) (h refl)

  first_not : {W : Type 0} (t : Bool) → (t ≡ true → W) → (W → t ≡ true) → (W → Rest (number b))
      → Given (number (cond (not t) a b)) k (W → ⊥) (Rest (number (cond (not t) a b)))
  first_not true f g h = passed_on (λ n. n (f refl)) (h (f refl))
  first_not false f g h = given (λ v. not_both (g v) refl) is

-- ---- the rows that calls share

abbrev refusal_of : Outcome → ℕ
refusal_of o = o.refusal

module _ (sp : Space) (w : List ℕ) where
  settled_row : (ps : List Piece) → Given (settled sp w ps).refusal table_full (TooMany sp w ps) ((settled sp w ps).refusal ≡ 0)
  unfolding settled refusing
  settled_row ps =
      first refusal_of table_full _ _ refl (λ r. r ≡ 0) _ (ltb-true (capacity (length w)) (length (fill sp.page ps)))
      (lt-ltb (capacity (length w)) (length (fill sp.page ps))) (λ e. refl)

  -- 13 to 16, and else what was found decides
  found_row : SoundSpace sp w → (a z : ℕ) (found : ℕ → Piece → Outcome) (Rest : ℕ → Type 0)
      → ((i : ℕ) (x : Piece) → FoundAt a z (entries_of sp w) i x → Rest (found i x).refusal) → (f : Found) → find_in a z 0 (entries_of sp w) ≡ f
      → NameRow sp w a z (when_named sp w found f).refusal (Rest (when_named sp w found f).refusal)
  unfolding when_named
  found_row s a z found Rest h f q = go f q (rw q at (told_right sp w s a z))
    where
      -- no case that stands before the one that was found is so
      none_before : {f : Found} (c : NameCase) → find_in a z 0 (entries_of sp w) ≡ f → place_of c < place_of (case_of f) → IsSo sp w a z c → ⊥
      none_before {f} c q l = not_before sp w s a z c f q l

      go : (f : Found) → find_in a z 0 (entries_of sp w) ≡ f → Finds sp.end a z (entries_of sp w) f
          → NameRow sp w a z (when_named sp w found f).refusal (Rest (when_named sp w found f).refusal)
      go (Err BeyondEnd) q so = given so refl
      go (Err InFree) q so = passed_on (none_before beyond_end_lem q (omega arith)) (given so refl)
      go (Err InsideLive) q so =
          passed_on (none_before beyond_end_lem q (omega arith)) (passed_on (none_before in_free_lem q (omega arith))
          (given so refl))
      go (Err OtherSize) q so =
          passed_on (none_before beyond_end_lem q (omega arith)) (passed_on (none_before in_free_lem q (omega arith))
          (passed_on (none_before inside_live_lem q (omega arith)) (given so refl)))
      go (Ok (i, x)) q so =
          passed_on (none_before beyond_end_lem q (omega arith)) (passed_on (none_before in_free_lem q (omega arith))
          (passed_on (none_before inside_live_lem q (omega arith)) (passed_on (none_before other_size_lem q (omega arith)) (h i x so))))

  -- 2, and then what a sound table gives
  sound_row : (o : Outcome) (Rest : ℕ → Type 0) → (SoundSpace sp w → Rest o.refusal)
      → Given (refusing plain sp w (not (soundb sp w)) not_sound o).refusal not_sound (SoundSpace sp w → ⊥)
      (Rest (refusing plain sp w (not (soundb sp w)) not_sound o).refusal)
  unfolding refusing
  sound_row o Rest h = first_not refusal_of not_sound _ o refl Rest (soundb sp w) (is_sound_true sp w) (sound_true sp w) h

  -- the front of a release, which has no 4, and of the two calls that have it
  module _ (a z : ℕ) (found : ℕ → Piece → Outcome) (Rest : ℕ → Type 0)
      (h : SoundSpace sp w → (i : ℕ) (x : Piece) → FoundAt a z (entries_of sp w) i x → Rest (found i x).refusal) where
    abbrev NamedRow : ℕ → Type 0
    NamedRow r = NameRow sp w a z r (Rest r)

    naming_row : Given (naming sp w false a z found).refusal not_sound (SoundSpace sp w → ⊥) (NamedRow (naming sp w false a z found).refusal)
    unfolding naming refusing
    naming_row = sound_row _ NamedRow (λ s. found_row s a z found Rest (h s) (find_in a z 0 (entries_of sp w)) refl)

    asking_row : (m : ℕ)
        → Given (naming sp w (eqb z 0 || eqb m 0) a z found).refusal not_sound (SoundSpace sp w → ⊥)
        (Given (naming sp w (eqb z 0 || eqb m 0) a z found).refusal zero_asked (ZeroAsked z m) (NamedRow (naming sp w (eqb z 0 || eqb m 0) a z found).refusal))
    unfolding naming when_named refusing
    asking_row m =
        sound_row _ (λ r. Given r zero_asked (ZeroAsked z m) (NamedRow r))
        (λ s. first refusal_of zero_asked _ _ refl NamedRow _ (zero_test z m) (test_zero z m)
        (λ e. found_row s a z found Rest (h s) (find_in a z 0 (entries_of sp w)) refl))

-- ---- an extend and a shorten, behind the name

module _ (sp : Space) (w : List ℕ) (s : SoundSpace sp w) (a z i : ℕ) (x : Piece) (f : FoundAt a z (entries_of sp w) i x) where
  abbrev SettledRow : List Piece → ℕ → Type 0
  SettledRow ps r = Given r table_full (TooMany sp w ps) (r ≡ 0)

  abbrev longer : ℕ → List Piece
  longer m = resize (name_of a z) (z + m) (lives_of sp w)

  abbrev GrownRow : ℕ → ℕ → Type 0
  GrownRow m r = Given r beyond_limit (Beyond sp w s a z i x f m) (SettledRow (longer m) r)

  -- the number of a new size
  abbrev sized : Result ℕ NotResized → ℕ
  sized n = (resized_to sp a z w n).refusal

  extend_row : (m : ℕ) → Given (resized_at sp a z Longer m w i x).refusal no_room_behind (HasRoom sp w a z m → ⊥)
      (GrownRow m (resized_at sp a z Longer m w i x).refusal)
  unfolding new_size resized_to
  extend_row m =
      let there = the_room sp w s a z i x f m in
      first_not sized no_room_behind (Err NoRoomBehind) _ refl (GrownRow m) (room sp w s a z i x f m (class_of x.status)) (has_room sp w s a z i x f m) there
      (λ h. first sized beyond_limit (Err BeyondLimit) _ refl (SettledRow (longer m)) _
      (grows_last sp w s a z i x f m (there h)) (last_grows sp w s a z i x f m) (λ e. settled_row sp w (longer m)))

  abbrev shorter : ℕ → List Piece
  shorter k = resize (name_of a z) (z - k) (lives_of sp w)

  shorten_row : (k : ℕ) → Given (resized_at sp a z Shorter k w i x).refusal too_little_left (HasLeft sp w a z k → ⊥)
      (SettledRow (shorter k) (resized_at sp a z Shorter k w i x).refusal)
  unfolding new_size resized_to
  shorten_row k =
      first_not sized too_little_left (Err TooLittleLeft) _ refl (SettledRow (shorter k)) (remainsb sp.page (class_of x.status) z k)
      (has_left sp w s a z i x f k) (the_left sp w s a z i x f k) (λ h. settled_row sp w (shorter k))

-- ---- each call

module _ (sp : Space) (w : List ℕ) where
  released_row : (a z : ℕ) → Row (releases a z) sp w (released sp a z w).refusal
  unfolding released released_at
  released_row a z =
      let ps = remove (name_of a z) (lives_of sp w) in
      naming_row sp w a z (released_at sp a z w) (λ r. Given r table_full (TooMany sp w ps) (r ≡ 0)) (λ s i x f. settled_row sp w ps)

  extended_row : (a z m : ℕ) → Row (extends a z m) sp w (extended sp a z m w).refusal
  unfolding resized
  extended_row a z m = asking_row sp w a z (resized_at sp a z Longer m w) Behind (λ s i x f. extend_row sp w s a z i x f m) m
    where
      Behind : ℕ → Type 0
      Behind r =
          Given r no_room_behind (HasRoom sp w a z m → ⊥)
          (Given r beyond_limit (LastLarge sp w a z × (sp.limit < up sp.page (a + z + m)))
          (Given r table_full (TooMany sp w (resize (name_of a z) (z + m) (lives_of sp w))) (r ≡ 0)))

  shortened_row : (a z k : ℕ) → Row (shortens a z k) sp w (shortened sp a z k w).refusal
  unfolding resized
  shortened_row a z k = asking_row sp w a z (resized_at sp a z Shorter k w) Left (λ s i x f. shorten_row sp w s a z i x f k) k
    where
      Left : ℕ → Type 0
      Left r =
          Given r too_little_left (HasLeft sp w a z k → ⊥)
          (Given r table_full (TooMany sp w (resize (name_of a z) (z - k) (lives_of sp w))) (r ≡ 0))

-- ---- an allocation

abbrev place_refusal : Placed → ℕ
place_refusal p = p.outcome.refusal

module _ (sp : Space) (w : List ℕ) (s : SoundSpace sp w) (c : Class) (n : ℕ) where
  -- what the call leaves with the new piece at the rule's place, and how it is refused
  abbrev settled_there : Outcome
  settled_there = settled sp w (placing_it sp w s c n (there sp w s c n))

  full_row : Given settled_there.refusal table_full (FullThere sp w c n) (settled_there.refusal ≡ 0)
  full_row = go (settled_row sp w (placing_it sp w s c n (there sp w s c n)))
    where
      go : {r : ℕ} → Given r table_full (TooMany sp w (placing_it sp w s c n (there sp w s c n))) (r ≡ 0) → Given r table_full (FullThere sp w c n) (r ≡ 0)
      go (given h e) = given (record { place = there sp w s c n; is = there_is sp w s c n; full = h }) e
      go (passed_on h e) = passed_on (λ l. h (too_many sp w s c n l)) e

  abbrev refusal_there : ℕ
  refusal_there = (placed sp c n w (chosen sp w s c n)).outcome.refusal

  placed_row : Given refusal_there beyond_limit (NoPlace sp w c n) (Given refusal_there table_full (FullThere sp w c n) (refusal_there ≡ 0))
  unfolding placed refusing placed_at
  placed_row =
      let found = place_found sp w s c n in
      first place_refusal beyond_limit _ _ refl (λ r. Given r table_full (FullThere sp w c n) (r ≡ 0)) _ (passes_limit sp w s c n _ found)
      (end_beyond sp w s c n _ found) (λ e. full_row)

allocated_row : (sp : Space) (w : List ℕ) (t n : ℕ) → Row (allocates t n) sp w (allocated sp t n w).outcome.refusal
unfolding allocated refusing
allocated_row sp w t n =
    first_not place_refusal not_sound _ _ refl Typed (soundb sp w) (is_sound_true sp w) (sound_true sp w)
    (λ s. first place_refusal unknown_code _ _ refl Sized _ (type_test t) (test_type t)
    (λ e. first place_refusal zero_asked _ _ refl Placing _ (eqb-true n 0) (eq-eqb n 0) (λ f. placed_row sp w s (class_for sp.page t n) n)))
  where
    Placing : ℕ → Type 0
    Placing r =
        Given r beyond_limit (NoPlace sp w (class_for sp.page t n) n) (Given r table_full (FullThere sp w (class_for sp.page t n) n) (r ≡ 0))

    Sized : ℕ → Type 0
    Sized r = Given r zero_asked (n ≡ 0) (Placing r)

    Typed : ℕ → Type 0
    Typed r = Given r unknown_code (UnknownType t) (Sized r)

-- ---- an opening

opened_row : (P M : ℕ) (sp : Space) (w : List ℕ) → Row (opens P M) sp w (opened P M w).refusal
opened_row P M sp w = go (rangesb P M 0 0 (length w)) refl
  where
    go : (t : Bool) → rangesb P M 0 0 (length w) ≡ t → Row (opens P M) sp w (opened P M w).refusal
    go true e = passed_on (λ n. n (ranges_true P M 0 0 (length w) e)) (ap refusal_of (opened_done P M w e))
    go false e = given (λ r. not_both (true_ranges P M 0 0 (length w) r) e) (ap refusal_of (opened_refused P M w e))

-- ---- a listing

listed_row : (sp : Space) (m : ℕ) (w v : List ℕ) → ListRow sp m w v (listed sp m w v).refusal
unfolding listed listed_as refusing
listed_row sp m w v =
    first_not number not_sound _ _ refl Known (soundb sp w) (is_sound_true sp w) (sound_true sp w)
    (λ s. first number unknown_code _ _ refl Long _ (manager_test m) (test_manager m)
    (λ e. first number slice_too_short _ _ refl (λ r. r ≡ 0) _ (ltb-true (length v) words) (lt-ltb (length v) words) (λ f. refl)))
  where
    number : ListOutcome → ℕ
    number o = o.refusal

    words : ℕ
    words = length (sections (class_of_manager m) (entries_of sp w)) * pair_words

    Long : ℕ → Type 0
    Long r = Given r slice_too_short (length v < words) (r ≡ 0)

    Known : ℕ → Type 0
    Known r = Given r unknown_code (UnknownManager m) (Long r)

calls_row : (c : Call) (sp : Space) (w : List ℕ) → Row c sp w (called c sp w).refusal
unfolding called
calls_row (opens P M) sp w = opened_row P M sp w
calls_row (allocates t n) sp w = allocated_row sp w t n
calls_row (releases a z) sp w = released_row sp w a z
calls_row (extends a z m) sp w = extended_row sp w a z m
calls_row (shortens a z k) sp w = shortened_row sp w a z k

-- ---- a row allows one number

pub same : {r r' k : ℕ} {W R R' : Type 0} → (R → R' → r ≡ r') → Given r k W R → Given r' k W R' → r ≡ r'
same f (given h e) (given g d) = e ∙ sym d
same f (given h e) (passed_on g d) = absurd (g h)
same f (passed_on h e) (given g d) = absurd (h g)
same f (passed_on h e) (passed_on g d) = f e d

same_name : (sp : Space) (w : List ℕ) (a z : ℕ) {r r' : ℕ} {R R' : Type 0} → (R → R' → r ≡ r') → NameRow sp w a z r R → NameRow sp w a z r' R'
    → r ≡ r'
same_name sp w a z f = same (same (same (same f)))

zero_both : {r r' : ℕ} → r ≡ 0 → r' ≡ 0 → r ≡ r'
zero_both e d = e ∙ sym d

one_number : (c : Call) (sp : Space) (w : List ℕ) (r r' : ℕ) → Row c sp w r → Row c sp w r' → r ≡ r'
one_number (opens P M) sp w r r' = same zero_both
one_number (allocates t n) sp w r r' = same (same (same (same (same zero_both))))
one_number (releases a z) sp w r r' = same (same_name sp w a z (same zero_both))
one_number (extends a z m) sp w r r' = same (same (same_name sp w a z (same (same (same zero_both)))))
one_number (shortens a z k) sp w r r' = same (same (same_name sp w a z (same (same zero_both))))

pub exactly : Exactly
exactly = record { calls = calls_row; listing = listed_row; one = one_number; one_listing = λ sp m w v r r'. same (same (same zero_both)) }
