-- Laws of release, extend and shorten, refusal by refusal: what each means where the code has come so far.
--
--   found_named, found_in                   the entry of a named piece, in a sound table
--   naming_unsound, -zero, -asked, -not, -found     the front of the three calls, test by test
--   released_naming, resized_naming         each call is that front and what it does to the piece
--   released_unsound, resized_unsound       each call of an unsound table
--   released_found, resized_found           which is its half, of the piece that was found
--   settle_fits, grow_fits, found_limit     the sums of a sound table stay within the limit
--   released_decided, resized_decided, kept_size     what is decided on the piece that was found
--   room_behind                             the test of what stands behind the piece, as the code has its words
--   longer_no_room, -beyond, -bytes, shorter_too_far, -bytes     its new size, test by test
--   longer_fits, shorter_fits, new_size_fits         and the sums of that
--   refuses_same, release_same, resize_same          a decision leads to what is equal to its outcome
--
-- Assumes nothing.
use Prim.Native.Nat.{ℕ, ◌+◌, ◌-◌, ◌≤◌, ◌<◌}
use mathlib.Core.Bool.{Bool, true, false, cond, not, ◌||◌}
use mathlib.Core.List.{List, [], ◌∷◌, ◌++◌}
use mathlib.Core.Path.{◌≡◌, refl, sym, ap, ◌∙◌, subst⁻¹}
use native.Mathlib.Omega.{arith}
use lib.Dec.{eqb}
use borrow.Author.Tests.{eq-eqb}
use Rattle.change.specs.Change.{plan_without, plan_with}
use Rattle.change.specs.declared.plan.Plan.{Plan}
use Rattle.find.proofs.FindLaws.{found_at}
use Rattle.find.specs.Find.{FoundAt}
use Rattle.pages.proofs.Numbers.{both, split, passes, fails}
use Rattle.pages.proofs.PageLaws.{page_pos}
use Rattle.pieces.proofs.WordLaws.{entry_is, entries_parts, part_entries}
use Rattle.pieces.specs.Pieces.{piece, behind, class_of}
use Rattle.pieces.specs.Words.{words_of, entry_at, entries, entries_in}
use Rattle.pieces.specs.declared.Class.{Class}
use Rattle.pieces.specs.declared.Piece.{Piece}
use Rattle.refusals.specs.AnswerNumbers.{not_sound, zero_asked, not_named_number, not_resized_number}
use Rattle.refusals.specs.NeverZero.{not_named_some, not_resized_some}
use Rattle.refusals.specs.declared.NotNamed.{NotNamed}
use Rattle.refusals.specs.declared.ReleaseRefusal.{ReleaseRefusal}
use Rattle.refusals.specs.declared.ReleaseRefusal.TheVariants as releasing
use Rattle.refusals.specs.declared.ResizeRefusal.{ResizeRefusal}
use Rattle.refusals.specs.declared.ResizeRefusal.TheVariants as resizing
use Rattle.refusals.specs.declared.NotResized.TheVariants.{NoRoomBehind, BeyondLimit, TooLittleLeft}
use Rattle.refusals.specs.declared.NotResized.{NotResized}
use Rattle.room.proofs.RoomLaws.{room_next, room_bytes, limit_kept, grows_last, remains_some}
use Rattle.room.specs.Room.{room_behindb, grows_beyondb, GrowFits, remainsb}
use Rattle.rules.proofs.SpliceLaws.{remove_at, resize_at}
use Rattle.rules.specs.Editing.{names, remove, resize}
use Rattle.settle.proofs.SettleLaws.{ready_without, ready_with, full_without, full_with}
use Rattle.settle.specs.Settle.{if_room, SettleFits}
use Rattle.space.proofs.OutcomeLaws.{refusing_yes, refusing_no, sound_true, settled_carried, settled_not}
use Rattle.space.specs.Giving.{name_of, named_in, when_named, naming, released_at, released}
use Rattle.space.specs.Giving.{entries_behind, new_size, resized_to, resized_at, resized}
use Rattle.space.specs.Halves.{FoundIn, lives_around, Refuses, ReleaseLeads, ResizeLeads}
use Rattle.space.specs.Outcomes.{SoundSpace, soundb, entries_of, lives_of, Outcome, refused, plain, settled}
use Rattle.space.specs.declared.Space.{Space}
use Rattle.space.specs.declared.give.Way.{Way}
use Rattle.space.specs.declared.give.Way.TheVariants.{Longer, Shorter}
use Rattle.std.specs.Prelude.{Option, ok_or, Some, None, Result, Ok, Err}
use Rattle.table.proofs.LivesLaws.{lives_append, lives_live}
use Rattle.table.proofs.Theorems.{sound_good, count_fits}
use Rattle.table.proofs.TilingLaws.{ends_below, next_above}
use Rattle.table.specs.Fill.{lives, Good}

-- ---- a named piece

module _ (sp : Space) (w : List ℕ) (s : SoundSpace sp w) (a z : ℕ) (i : ℕ) (x : Piece) (named : Ok (i, x) ≡ named_in sp w a z) where
  pub found_named : FoundAt a z (entries_of sp w) i x
  found_named = found_at a z s.rules named

  -- the piece that was found is the one that was named
  same_piece : {A : Type 0} (f : ℕ → ℕ → A) → f x.address x.size ≡ f a z
  same_piece f =
      ap (λ (v : ℕ). f v x.size) found_named.named.address ∙ ap (f a) found_named.named.size

  pub found_in : FoundIn sp w i x
  found_in =
      record {
        sound = s;
        found = subst⁻¹ (λ (v : ℕ). FoundAt v x.size (entries_of sp w) i x) found_named.named.address
            (subst⁻¹ (λ (v : ℕ). FoundAt a v (entries_of sp w) i x) found_named.named.size found_named);
      }

-- ---- the front

module _ (sp : Space) (w : List ℕ) (zero : Bool) (a z : ℕ) (found : ℕ → Piece → Outcome) where
  pub naming_unsound : soundb sp w ≡ false → naming sp w zero a z found ≡ refused not_sound sp w
  unfolding naming
  naming_unsound e = refusing_yes plain sp w _ not_sound _ (ap not e)

  pub naming_zero : SoundSpace sp w → zero ≡ true → Refuses sp w (naming sp w zero a z found) zero_asked
  unfolding naming
  naming_zero s e =
      let is = refusing_no plain sp w _ not_sound _ (ap not (sound_true sp w s)) ∙ refusing_yes plain sp w _ zero_asked _ e in
      record { leads = sym is; some = λ n. omega (arith, n) }

  pub naming_asked : SoundSpace sp w → zero ≡ false → naming sp w zero a z found ≡ when_named sp w found (named_in sp w a z)
  unfolding naming
  naming_asked s e =
      refusing_no plain sp w _ not_sound _ (ap not (sound_true sp w s)) ∙ refusing_no plain sp w _ zero_asked _ e

  pub naming_not : SoundSpace sp w → zero ≡ false → {why : NotNamed} → Err why ≡ named_in sp w a z
      → Refuses sp w (naming sp w zero a z found) (not_named_number why)
  unfolding when_named
  naming_not s e {why} told =
      record { leads = sym (naming_asked s e ∙ ap (when_named sp w found) (sym told)); some = not_named_some why }

-- what is done to the piece that was found, which goes by its own address and size
pub naming_found : (sp : Space) (w : List ℕ) (zero : Bool) (a z : ℕ) (found : ℕ → ℕ → ℕ → Piece → Outcome) → SoundSpace sp w → zero ≡ false
    → (i : ℕ) (x : Piece) → Ok (i, x) ≡ named_in sp w a z → naming sp w zero a z (found a z) ≡ found x.address x.size i x
unfolding when_named
naming_found sp w zero a z found s e i x q =
    naming_asked sp w zero a z (found a z) s e
    ∙ (ap (when_named sp w (found a z)) (sym q) ∙ sym (same_piece sp w s a z i x q (λ u v. found u v i x)))

pub released_naming : (sp : Space) (a z : ℕ) (w : List ℕ) → released sp a z w ≡ naming sp w false a z (released_at sp a z w)
unfolding released
released_naming sp a z w = refl

-- `zero` is what the code's test answered
pub resized_naming : (sp : Space) (a z : ℕ) (way : Way) (m : ℕ) (w : List ℕ) {zero : Bool} → zero ≡ (eqb z 0 || eqb m 0)
    → resized sp a z way m w ≡ naming sp w zero a z (resized_at sp a z way m w)
unfolding resized
resized_naming sp a z way m w e = ap (λ (t : Bool). naming sp w t a z (resized_at sp a z way m w)) (sym e)

pub released_unsound : (sp : Space) (a z : ℕ) (w : List ℕ) → soundb sp w ≡ false → released sp a z w ≡ refused not_sound sp w
released_unsound sp a z w e = released_naming sp a z w ∙ naming_unsound sp w false a z _ e

pub resized_unsound : (sp : Space) (a z : ℕ) (way : Way) (m : ℕ) (w : List ℕ) → soundb sp w ≡ false → resized sp a z way m w ≡ refused not_sound sp w
resized_unsound sp a z way m w e = resized_naming sp a z way m w refl ∙ naming_unsound sp w _ a z _ e

-- a piece that is named is found, and its half decides
module _ (sp : Space) (a z : ℕ) (w : List ℕ) (s : SoundSpace sp w) (i : ℕ) (x : Piece) (named : Ok (i, x) ≡ named_in sp w a z) where
  pub released_found : released sp a z w ≡ released_at sp x.address x.size w i x
  released_found = released_naming sp a z w ∙ naming_found sp w false a z (λ u v. released_at sp u v w) s refl i x named

  pub resized_found : (way : Way) (m : ℕ) {zero : Bool} → zero ≡ (eqb z 0 || eqb m 0) → zero ≡ false
      → resized sp a z way m w ≡ resized_at sp x.address x.size way m w i x
  resized_found way m e asked = resized_naming sp a z way m w e ∙ naming_found sp w _ a z (λ u v. resized_at sp u v way m w) s asked i x named

-- ---- the piece that was found

module _ (sp : Space) (w : List ℕ) (i : ℕ) (x : Piece) (f : FoundIn sp w i x) where
  pub found_lt : i < sp.count
  found_lt = (entry_is w sp.count f.found.entry).0

  found_is : x ≡ entry_at w i
  found_is = (entry_is w sp.count f.found.entry).1

  pub settle_fits : SettleFits sp.page sp.end sp.count i (i + 1) w
  settle_fits = record { limit = sp.limit; sound = f.sound; low = omega arith; high = omega (arith, found_lt) }

  -- ---- the live pieces around it

  rest : List Piece
  rest = entries w (i + 1) (sp.count - (i + 1))

  lives_parts : lives_of sp w ≡ lives (entries w 0 i) ++ (x ∷ lives rest)
  unfolding entries rest
  lives_parts =
      let o : i + 1 - i ≡ 1 = omega arith in
      let e : entries_of sp w ≡ entries w 0 i ++ (x ∷ rest) =
      entries_parts w i (i + 1) sp.count (omega arith) (omega (arith, found_lt)) ∙ rw (o, ← found_is) in
      rw (e, lives_append (entries w 0 i) (x ∷ rest), lives_live x rest f.found.named.live)

  good_parts : Good sp.page (lives (entries w 0 i) ++ (x ∷ lives rest))
  good_parts = rw lives_parts at (sound_good f.sound)

  named : names (name_of x.address x.size) x ≡ true
  named = both _ _ (eq-eqb x.address x.address refl) (eq-eqb x.size x.size refl)

  pub removed_lives : remove (name_of x.address x.size) (lives_of sp w) ≡ lives_around sp w i (i + 1) []
  unfolding rest
  removed_lives =
      rw lives_parts
      (remove_at sp.page (page_pos f.sound.ranges.page) (name_of x.address x.size) (lives (entries w 0 i)) x _ good_parts named)

  resized_lives : (z : ℕ)
      → resize (name_of x.address x.size) z (lives_of sp w) ≡ lives_around sp w i (i + 1) (piece x.address z x.status ∷ [])
  unfolding rest
  resized_lives z =
      rw lives_parts
      (resize_at sp.page (page_pos f.sound.ranges.page) (name_of x.address x.size) z (lives (entries w 0 i)) x _ good_parts named)

  -- ---- sums

  pub found_limit : behind x ≤ sp.limit
  found_limit = omega (arith, ap behind found_is, ends_below w f.sound.rules.tiling i found_lt, f.sound.ranges.end_limit)

  pub grow_fits : GrowFits sp.page sp.limit (behind x)
  grow_fits = record { page = f.sound.ranges.page; largest = f.sound.ranges.limit_largest; within = found_limit }

  -- ---- what becomes of it

  released_settled : released_at sp x.address x.size w i x ≡ settled sp w (lives_around sp w i (i + 1) [])
  unfolding released_at
  released_settled = ap (settled sp w) removed_lives

  resized_settled : (n : ℕ)
      → resized_to sp x.address x.size w (Ok n) ≡ settled sp w (lives_around sp w i (i + 1) (piece x.address n x.status ∷ []))
  unfolding resized_to
  resized_settled n = ap (settled sp w) (resized_lives n)

  -- r is what `settle` decided
  pub released_decided : (r : Option Plan) → r ≡ if_room w (plan_without sp.page sp.end sp.count i (i + 1) w)
      → ReleaseLeads sp w (released_at sp x.address x.size w i x) (ok_or r releasing.TableFull)
  released_decided (Some plan) is = rw released_settled (settled_carried sp w _ f.sound (ready_without settle_fits is))
  released_decided None is = rw released_settled (settled_not sp w _ (full_without settle_fits is))

  pub resized_decided : (z : ℕ) (r : Option Plan) → r ≡ if_room w (plan_with sp.page sp.end sp.count i (i + 1) w (piece x.address z x.status))
      → ResizeLeads sp w (resized_to sp x.address x.size w (Ok z)) (ok_or r resizing.TableFull)
  resized_decided z (Some plan) is = rw (resized_settled z) (settled_carried sp w _ f.sound (ready_with settle_fits _ is))
  resized_decided z None is = rw (resized_settled z) (settled_not sp w _ (full_with settle_fits _ is))

  pub kept_size : (n : Result ℕ NotResized) (why : NotResized) → Err why ≡ n → Refuses sp w (resized_to sp x.address x.size w n) (not_resized_number why)
  unfolding resized_to
  kept_size n why e = record { leads = ap (resized_to sp x.address x.size w) e; some = not_resized_some why }

  -- ---- the new size, of the way that the code has matched

  -- u is what the code took of the table behind the piece
  module _ {u : List ℕ} (is : u ≡ words_of w (i + 1) sp.count) where
    behind_is : entries_in u ≡ entries_behind sp w i
    behind_is = ap entries_in is ∙ part_entries w (i + 1) sp.count (omega (arith, found_lt)) (count_fits f.sound.ranges)

    pub room_behind : (k : Class) (m : ℕ) {r : Bool} → r ≡ room_behindb sp.page k (behind x) x.size m (entries_in u)
        → r ≡ room_behindb sp.page k (behind x) x.size m (entries_behind sp w i)
    room_behind k m h = h ∙ ap (room_behindb sp.page k (behind x) x.size m) behind_is

  pub new_size_way : (m : ℕ) {way way' : Way} → way ≡ way' → new_size sp x.address x.size way m w i x ≡ new_size sp x.address x.size way' m w i x
  new_size_way m e = ap (λ (v : Way). new_size sp x.address x.size v m w i x) e

  -- r and g are what the code's tests answered, of the class k that it read

  module _ (m : ℕ) (k : Class) (is : k ≡ class_of x.status) (r : Bool)
      (room : r ≡ room_behindb sp.page k (behind x) x.size m (entries_behind sp w i)) where
    pub longer_no_room : r ≡ false → new_size sp x.address x.size Longer m w i x ≡ Err NoRoomBehind
    unfolding new_size
    longer_no_room e = rw (ap not (rw is at (fails room e)))

    module _ (has : r ≡ true) (g : Bool) (grows : g ≡ grows_beyondb sp.page sp.limit (behind x) m (entries_behind sp w i)) where
      roomy : not (room_behindb sp.page (class_of x.status) (behind x) x.size m (entries_behind sp w i)) ≡ false
      roomy = ap not (rw is at (passes room has))

      pub longer_beyond : g ≡ true → new_size sp x.address x.size Longer m w i x ≡ Err BeyondLimit
      unfolding new_size
      longer_beyond e = let beyond = sym grows ∙ e in rw (roomy, beyond)

      pub longer_bytes : g ≡ false → new_size sp x.address x.size Longer m w i x ≡ Ok (x.size + m)
      unfolding new_size
      longer_bytes e = let within = sym grows ∙ e in rw (roomy, within)

      -- the longer piece ends within the limit
      pub longer_fits : g ≡ false → behind x + m ≤ sp.limit
      longer_fits e =
          split sp.count (i + 1)
          (λ l. limit_kept sp.page sp.limit (behind x) m (page_pos f.sound.ranges.page)
          (sym (grows_last sp.page sp.limit (behind x) m w (i + 1) sp.count l) ∙ (sym grows ∙ e)))
          (λ l.
          let t = f.sound.rules.tiling in
          let first = room_next sp.page k (behind x) x.size m w (i + 1) sp.count l (entry_at w (i + 1)) refl in
          let h = room_bytes sp.page k (behind x) x.size m (entry_at w (i + 1)) (sym first ∙ passes room has) in
          omega (arith, ap behind found_is, next_above w t i l, ends_below w t (i + 1) l, f.sound.ranges.end_limit))

  module _ (m : ℕ) (k : Class) (is : k ≡ class_of x.status) (r : Bool) (left : r ≡ remainsb sp.page k x.size m) where
    pub shorter_too_far : r ≡ false → new_size sp x.address x.size Shorter m w i x ≡ Err TooLittleLeft
    unfolding new_size
    shorter_too_far e = rw (ap not (rw is at (fails left e)))

    pub shorter_bytes : r ≡ true → new_size sp x.address x.size Shorter m w i x ≡ Ok (x.size - m)
    unfolding new_size
    shorter_bytes e = rw (ap not (rw is at (passes left e)))

    pub shorter_fits : r ≡ true → m ≤ x.size
    shorter_fits e = remains_some sp.page k x.size m (passes left e)

  -- a piece of its new size ends within the limit
  pub new_size_fits : (way : Way) (m n : ℕ) → Ok n ≡ new_size sp x.address x.size way m w i x → x.address + n ≤ sp.limit
  unfolding new_size
  new_size_fits Longer m n e = go _ refl _ refl e
    where
      go : (r : Bool) → r ≡ room_behindb sp.page (class_of x.status) (behind x) x.size m (entries_behind sp w i)
          → (g : Bool) → g ≡ grows_beyondb sp.page sp.limit (behind x) m (entries_behind sp w i)
          → Ok n ≡ cond (not r) (Err NoRoomBehind) (cond g (Err BeyondLimit) (Ok (x.size + m))) → x.address + n ≤ sp.limit
      go false room g grows q = let z : ◌≡◌ {A = ℕ} 0 1 = cc in absurd (omega arith)
      go true room true grows q = let z : ◌≡◌ {A = ℕ} 0 1 = cc in absurd (omega arith)
      go true room false grows q = let n_is : n ≡ x.size + m = cc in omega (arith, longer_fits m _ refl true room refl false grows refl)
  new_size_fits Shorter m n e = go (remainsb sp.page (class_of x.status) x.size m) e
    where
      go : (r : Bool) → Ok n ≡ cond (not r) (Err TooLittleLeft) (Ok (x.size - m)) → x.address + n ≤ sp.limit
      go false q = let z : ◌≡◌ {A = ℕ} 0 1 = cc in absurd (omega arith)
      go true q = let n_is : n ≡ x.size - m = cc in omega (arith, found_limit)

-- ---- a decision that leads to one outcome leads to its equal

pub refuses_same : {sp : Space} {w : List ℕ} {o o' : Outcome} {k : ℕ} → o ≡ o' → Refuses sp w o' k → Refuses sp w o k
refuses_same e d = record { leads = d.leads ∙ sym e; some = d.some }

pub release_same : (sp : Space) (w : List ℕ) {o o' : Outcome} (r : Result Plan ReleaseRefusal) → o ≡ o' → ReleaseLeads sp w o' r → ReleaseLeads sp w o r
release_same sp w r e d = subst⁻¹ (λ (v : Outcome). ReleaseLeads sp w v r) e d

pub resize_same : (sp : Space) (w : List ℕ) {o o' : Outcome} (r : Result Plan ResizeRefusal) → o ≡ o' → ResizeLeads sp w o' r → ResizeLeads sp w o r
resize_same sp w r e d = subst⁻¹ (λ (v : Outcome). ResizeLeads sp w v r) e d
