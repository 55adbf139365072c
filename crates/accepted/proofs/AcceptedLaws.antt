-- An accepted call of a sound table leaves the table and the state that good live pieces determine.
--
--   Changed sp w ps o      o is accepted, with what the good live pieces ps determine, within M and C
--   changed_sound          then state and words are sound together
--   Found, naming_accepted     an accepted call that names a piece has found it, and did to it what its half says
--   released_changed, resized_changed     each call; size_of way z m, the size of a piece of z bytes that is m longer, or m shorter
--   PutAt t n b, allocated_put     an accepted allocation: b is the rule's place, the piece fits there, and so it is changed
--
-- Assumes nothing.
use Prim.Native.Nat.{ℕ, ◌+◌, ◌-◌, ◌≤◌, ◌<◌}
use mathlib.Core.Bool.{Bool, true, false, cond, not}
use mathlib.Core.List.{List, [], Memᴰ}
use mathlib.Core.Path.{◌≡◌, refl, sym, ap, ◌∙◌, subst}
use native.Mathlib.Omega.{arith}
use lib.ListN.{length}
use borrow.Author.Tests.{ltb-false, eqb-false, not-false}
use Rattle.accepted.proofs.AmongLaws.{lives_entry}
use Rattle.accepted.proofs.EditedLaws.{IsOr, is_it, is_old, in_insert, in_remove, ResizedOr, is_resized, is_kept, in_resize, end_within}
use Rattle.accepted.proofs.KeptLaws.{tabled, tabled_sound}
use Rattle.accepted.proofs.LongerLaws.{found_stands, From, from, room_less, less_whole, room_more, more_reach, Longer, longer}
use Rattle.accepted.proofs.PlaceRule.{class_of_large, PlaceFound, inside, outside, place_found}
use Rattle.accepted.proofs.PlaceRule.{pos as goes_pos, Goes, page_within, section_goes, end_goes}
use Rattle.accepted.specs.Places.{PlaceIs, in_section, at_the_end}
use Rattle.choose.specs.Place.{place_for, place_address}
use Rattle.choose.specs.declared.place.Place.{Place}
use Rattle.find.specs.Find.{FoundAt}
use Rattle.pages.proofs.Numbers.{split}
use Rattle.pages.proofs.PageLaws.{page_pos}
use Rattle.pages.specs.Pages.{up}
use Rattle.pieces.proofs.PieceLaws.{view}
use Rattle.pieces.specs.Pieces.{piece, behind, class_of}
use Rattle.pieces.specs.declared.Class.{Class}
use Rattle.pieces.specs.declared.Piece.{Piece}
use Rattle.pieces.specs.declared.Status.TheVariants.{Live}
use Rattle.pieces.specs.declared.Status.{Status}
use Rattle.refusals.specs.AnswerNumbers.{not_sound, unknown_code, zero_asked, beyond_limit, table_full}
use Rattle.refusals.specs.declared.NotNamed.{NotNamed}
use Rattle.refusals.specs.declared.NotResized.TheVariants.{NoRoomBehind, BeyondLimit, TooLittleLeft}
use Rattle.requests.proofs.RequestLaws.{class_small}
use Rattle.requests.specs.Requests.{class_for}
use Rattle.room.specs.Room.{room_behindb, grows_beyondb, remainsb}
use Rattle.rules.proofs.ChangeLaws.{insert_good, resize_good}
use Rattle.rules.proofs.RemoveLaws.{remove_good}
use Rattle.rules.specs.Editing.{insert, remove, resize}
use Rattle.refusals.specs.NeverZero.{not_named_some}
use Rattle.space.proofs.GiveLaws.{found_named}
use Rattle.space.proofs.OutcomeLaws.{is_sound_true, passed, settled_room}
use Rattle.space.specs.Giving.{name_of, named_in, when_named, naming, released_at, released, entries_behind, new_size, resized_to, resized_at, resized}
use Rattle.space.specs.Outcomes.{SoundSpace, soundb, entries_of, lives_of, Outcome, refusing, plain, state_of, settled}
use Rattle.space.specs.Placing.{beyondb, Placed, unplaced, placed_at, placed, allocated}
use Rattle.space.specs.declared.Space.{Space}
use Rattle.space.specs.declared.give.Way.{Way}
use Rattle.space.specs.declared.give.Way.TheVariants as way
use Rattle.std.specs.Prelude.{Result, Ok, Err}
use Rattle.table.proofs.ChainLaws.{chain_le}
use Rattle.table.proofs.Theorems.{sound_chain, sound_good}
use Rattle.table.proofs.TilingLaws.{mem_below}
use Rattle.table.specs.Fill.{fill, end_of, Good}
use Rattle.table.specs.Sound.{capacity}

pub record Changed (sp : Space) (w : List ℕ) (ps : List Piece) (o : Outcome) : Type 0 where
  pub good : Good sp.page ps
  pub within : end_of sp.page ps ≤ sp.limit
  pub few : length (fill sp.page ps) ≤ capacity (length w)
  pub is : o ≡ record { refusal = 0; state = state_of sp ps; words = tabled sp w ps }

pub changed_sound : {sp : Space} {w : List ℕ} {ps : List Piece} {o : Outcome} → SoundSpace sp w → Changed sp w ps o → SoundSpace o.state o.words
changed_sound {sp} {w} {ps} s h =
    subst (λ (v : Outcome). SoundSpace v.state v.words) (sym h.is) (tabled_sound sp w ps s h.good h.within h.few)

-- ---- a test that an accepted call has passed

passed_outcome : (sp : Space) (w : List ℕ) (t : Bool) (k : ℕ) (o : Outcome) → (k ≡ 0 → ⊥) → (refusing plain sp w t k o).refusal ≡ 0
    → (t ≡ false) × (refusing plain sp w t k o ≡ o)
passed_outcome sp w t k o n e = passed plain sp w (λ v. v.refusal) (λ v. refl) t k o n e

passed_place : (sp : Space) (w : List ℕ) (t : Bool) (k : ℕ) (p : Placed) → (k ≡ 0 → ⊥) → (refusing unplaced sp w t k p).outcome.refusal ≡ 0
    → (t ≡ false) × (refusing unplaced sp w t k p ≡ p)
passed_place sp w t k p n e = passed unplaced sp w (λ v. v.outcome.refusal) (λ v. refl) t k p n e

-- ---- a call that names a piece

-- it has found the piece, and left o
pub record Found (sp : Space) (w : List ℕ) (a z : ℕ) (found : ℕ → Piece → Outcome) (o : Outcome) : Type 0 where
  pub place : ℕ
  pub entry : Piece
  pub at : FoundAt a z (entries_of sp w) place entry
  pub is : o ≡ found place entry

pub naming_accepted : (sp : Space) (w : List ℕ) (zero : Bool) (a z : ℕ) (found : ℕ → Piece → Outcome) → (naming sp w zero a z found).refusal ≡ 0
    → Found sp w a z found (naming sp w zero a z found)
unfolding naming when_named
naming_accepted sp w zero a z found e =
    let p = passed_outcome sp w _ not_sound _ (λ q. omega arith) e in
    let e1 = rw p.1 at e in
    let p1 = passed_outcome sp w _ zero_asked _ (λ q. omega arith) e1 in
    rw (p.1, p1.1) (go (is_sound_true sp w (not-false (soundb sp w) p.0)) (named_in sp w a z) refl (rw p1.1 at e1))
  where
    go : SoundSpace sp w → (r : Result (ℕ × Piece) NotNamed) → named_in sp w a z ≡ r → (when_named sp w found r).refusal ≡ 0
        → Found sp w a z found (when_named sp w found r)
    go s (Err why) q i = absurd (not_named_some why i)
    go s (Ok (k, x)) q i = record { place = k; entry = x; at = found_named sp w s a z k x (sym q); is = refl }

settled_changed : (sp : Space) (w : List ℕ) (ps : List Piece) → Good sp.page ps → end_of sp.page ps ≤ sp.limit → (settled sp w ps).refusal ≡ 0
    → Changed sp w ps (settled sp w ps)
unfolding settled
settled_changed sp w ps good within e =
    let few = ltb-false (capacity (length w)) (length (fill sp.page ps)) (passed_outcome sp w _ table_full _ (λ q. omega arith) e).0 in
    record { good = good; within = within; few = few; is = settled_room sp w ps few }

module _ (sp : Space) (w : List ℕ) (s : SoundSpace sp w) where
  pub pos : 0 < sp.page
  pos = page_pos s.ranges.page

  -- the page of a piece that was live ends within M
  old_within : (x : Piece) → Memᴰ x (lives_of sp w) → up sp.page (behind x) ≤ sp.limit
  old_within x h = page_within sp w s (behind x) (mem_below s.rules.tiling (lives_entry (entries_of sp w) x h).among)

  -- ---- release

  pub released_changed : (a z : ℕ) → (released sp a z w).refusal ≡ 0 → Changed sp w (remove (name_of a z) (lives_of sp w)) (released sp a z w)
  unfolding released released_at
  released_changed a z e =
      let ps : List Piece = remove (name_of a z) (lives_of sp w) in
      let f = naming_accepted sp w false a z (released_at sp a z w) e in
      subst (Changed sp w ps) (sym f.is)
      (settled_changed sp w ps (remove_good sp.page pos (name_of a z) (sound_good s))
      (end_within sp.page pos sp.limit _ (λ y h. old_within y (in_remove (name_of a z) (lives_of sp w) h))) (rw f.is at e))

  -- a piece at the file's end that may grow
  grown : (e m : ℕ) (tl : List Piece) → grows_beyondb sp.page sp.limit e m tl ≡ false → tl ≡ [] → up sp.page (e + m) ≤ sp.limit
  unfolding grows_beyondb
  grown e m tl g q = ltb-false sp.limit (up sp.page (e + m)) (rw q at g)

  -- ---- a piece that was found, resized

  module _ (a z i : ℕ) (x : Piece) (f : FoundAt a z (entries_of sp w) i x) where
    abbrev pub class : Class
    class = f.named.class

    pub here : From sp.page pos sp.end a z class (entries_behind sp w i)
    here = from sp.page pos (sound_chain s) (found_stands sp w s a z i x f)

    -- its page ends within M, and so do those of the others
    resized_within : (z' : ℕ) → up sp.page (a + z') ≤ sp.limit → end_of sp.page (resize (name_of a z) z' (lives_of sp w)) ≤ sp.limit
    resized_within z' l = end_within sp.page pos sp.limit _ (λ y h. go y (in_resize (name_of a z) z' (lives_of sp w) h))
      where
        go : (y : Piece) → ResizedOr y (name_of a z) z' (lives_of sp w) → up sp.page (behind y) ≤ sp.limit
        go y (is_resized e g) = let q : behind y ≡ a + z' = omega arith in rw q l
        go y (is_kept h) = old_within y h

    longer_changed : (m : ℕ) → room_behindb sp.page class (a + z) z m (entries_behind sp w i) ≡ true
        → grows_beyondb sp.page sp.limit (a + z) m (entries_behind sp w i) ≡ false → (settled sp w (resize (name_of a z) (z + m) (lives_of sp w))).refusal ≡ 0
        → Changed sp w (resize (name_of a z) (z + m) (lives_of sp w)) (settled sp w (resize (name_of a z) (z + m) (lives_of sp w)))
    longer_changed m r g e =
        let l : Longer sp.page pos class a z m (entries_behind sp w i) = longer sp.page pos m (view class) here r in
        let u : up sp.page (a + z + m) ≤ sp.limit =
        more_reach sp.page pos sp.limit here.rest l.room (page_within sp w s) (grown (a + z) m (entries_behind sp w i) g) in
        let v : a + z + m ≡ a + (z + m) = omega arith in
        settled_changed sp w (resize (name_of a z) (z + m) (lives_of sp w))
        (resize_good sp.page pos l.whole (sound_chain s) (room_more sp.page pos l.room (found_stands sp w s a z i x f)))
        (resized_within (z + m) (rw v at u)) e

    shorter_changed : (k : ℕ) → remainsb sp.page class z k ≡ true → (settled sp w (resize (name_of a z) (z - k) (lives_of sp w))).refusal ≡ 0
        → Changed sp w (resize (name_of a z) (z - k) (lives_of sp w)) (settled sp w (resize (name_of a z) (z - k) (lives_of sp w)))
    shorter_changed k r e =
        let l : a + (z - k) ≤ sp.end = omega (arith, chain_le here.rest) in
        settled_changed sp w (resize (name_of a z) (z - k) (lives_of sp w))
        (resize_good sp.page pos (less_whole sp.page pos k (view class) r here) (sound_chain s)
        (room_less sp.page pos {n = z} {z = z - k} (omega arith) (found_stands sp w s a z i x f)))
        (resized_within (z - k) (page_within sp w s (a + (z - k)) l)) e

  -- ---- extend and shorten

  longer_accepted : (a z m i : ℕ) (x : Piece) (f : FoundAt a z (entries_of sp w) i x) → (resized_at sp a z way.Longer m w i x).refusal ≡ 0
      → Changed sp w (resize (name_of a z) (z + m) (lives_of sp w)) (resized_at sp a z way.Longer m w i x)
  unfolding new_size resized_to
  longer_accepted a z m i x f e =
      go _ (ap (λ (t : Status). room_behindb sp.page (class_of t) (a + z) z m (entries_behind sp w i)) f.named.live) _ refl e
    where
      go : (r : Bool) → r ≡ room_behindb sp.page f.named.class (a + z) z m (entries_behind sp w i) → (g : Bool)
          → grows_beyondb sp.page sp.limit (a + z) m (entries_behind sp w i) ≡ g
          → (resized_to sp a z w (cond (not r) (Err NoRoomBehind) (cond g (Err BeyondLimit) (Ok (z + m))))).refusal ≡ 0
          → Changed sp w (resize (name_of a z) (z + m) (lives_of sp w))
          (resized_to sp a z w (cond (not r) (Err NoRoomBehind) (cond g (Err BeyondLimit) (Ok (z + m)))))
      go false room g grows q = absurd (omega arith)
      go true room true grows q = absurd (omega arith)
      go true room false grows q = longer_changed a z i x f m (sym room) grows q

  shorter_accepted : (a z k i : ℕ) (x : Piece) (f : FoundAt a z (entries_of sp w) i x) → (resized_at sp a z way.Shorter k w i x).refusal ≡ 0
      → Changed sp w (resize (name_of a z) (z - k) (lives_of sp w)) (resized_at sp a z way.Shorter k w i x)
  unfolding new_size resized_to
  shorter_accepted a z k i x f e = go _ (ap (λ (t : Status). remainsb sp.page (class_of t) z k) f.named.live) e
    where
      go : (r : Bool) → r ≡ remainsb sp.page f.named.class z k
          → (resized_to sp a z w (cond (not r) (Err TooLittleLeft) (Ok (z - k)))).refusal ≡ 0
          → Changed sp w (resize (name_of a z) (z - k) (lives_of sp w)) (resized_to sp a z w (cond (not r) (Err TooLittleLeft) (Ok (z - k))))
      go false left q = absurd (omega arith)
      go true left q = shorter_changed a z i x f k (sym left) q

  abbrev pub size_of : Way → ℕ → ℕ → ℕ
  size_of way.Longer z m = z + m
  size_of way.Shorter z m = z - m

  found_resized : (way : Way) (a z m i : ℕ) (x : Piece) (f : FoundAt a z (entries_of sp w) i x) → (resized_at sp a z way m w i x).refusal ≡ 0
      → Changed sp w (resize (name_of a z) (size_of way z m) (lives_of sp w)) (resized_at sp a z way m w i x)
  found_resized way.Longer = longer_accepted
  found_resized way.Shorter = shorter_accepted

  pub resized_changed : (a z : ℕ) (way : Way) (m : ℕ) → (resized sp a z way m w).refusal ≡ 0
      → Changed sp w (resize (name_of a z) (size_of way z m) (lives_of sp w)) (resized sp a z way m w)
  unfolding resized
  resized_changed a z way m e =
      let f = naming_accepted sp w _ a z (resized_at sp a z way m w) e in
      subst (Changed sp w (resize (name_of a z) (size_of way z m) (lives_of sp w))) (sym f.is)
      (found_resized way a z m f.place f.entry f.at (rw f.is at e))

  -- ---- allocate

  pub record PutAt (t n b : ℕ) : Type 0 where
    pub place : PlaceIs sp.page sp.end (class_for sp.page t n) n (entries_of sp w) b
    pub goes : Goes sp w s (class_for sp.page t n) n b
    pub changed : Changed sp w (insert (piece b n (Live (class_for sp.page t n))) (lives_of sp w)) (allocated sp t n w).outcome

  abbrev chosen : ℕ → ℕ → Place
  chosen t n = place_for sp.page (class_for sp.page t n) n (entries_of sp w)

  abbrev there : ℕ → ℕ → ℕ
  there t n = place_address sp.end (chosen t n)

  -- a place that does not make the file pass M is the rule's, and the piece fits there
  place_goes : (t n : ℕ) → 1 ≤ n → (q : Place) → PlaceFound sp w s (class_for sp.page t n) n q → beyondb sp n q ≡ false
      → PlaceIs sp.page sp.end (class_for sp.page t n) n (entries_of sp w) (place_address sp.end q)
      × Goes sp w s (class_for sp.page t n) n (place_address sp.end q)
  place_goes t n some q (inside b h e f) g =
      let k : Class = class_for sp.page t n in
      rw e (in_section h, section_goes sp w s k n b some (class_small sp.page t n) (class_of_large sp.page t n) h)
  place_goes t n some q (outside h e) g =
      let k : Class = class_for sp.page t n in
      let l : up sp.page (sp.end + n) ≤ sp.limit = ltb-false sp.limit (up sp.page (sp.end + n)) (rw e at g) in
      rw e (at_the_end h refl, end_goes sp w s k n sp.end some (class_small sp.page t n) (class_of_large sp.page t n) refl l)

  put_good : {k : Class} {n b : ℕ} → Goes sp w s k n b → Good sp.page (insert (piece b n (Live k)) (lives_of sp w))
  put_good g = insert_good sp.page (goes_pos sp w s) g.whole (sound_chain s) g.fits

  put_within : {k : Class} {n b : ℕ} → Goes sp w s k n b → end_of sp.page (insert (piece b n (Live k)) (lives_of sp w)) ≤ sp.limit
  put_within {k} {n} {b} g = end_within sp.page pos sp.limit _ (λ y h. go y (in_insert (piece b n (Live k)) (lives_of sp w) h))
    where
      go : (y : Piece) → IsOr y (piece b n (Live k)) (lives_of sp w) → up sp.page (behind y) ≤ sp.limit
      go y (is_it e) = rw e g.within
      go y (is_old h) = old_within y h

  -- what an accepted allocation has passed
  record Put (t n : ℕ) : Type 0 where
    some : 1 ≤ n
    not_beyond : beyondb sp n (chosen t n) ≡ false
    is : allocated sp t n w
        ≡ placed_at (there t n) (settled sp w (insert (piece (there t n) n (Live (class_for sp.page t n))) (lives_of sp w)))

  put : (t n : ℕ) → (allocated sp t n w).outcome.refusal ≡ 0 → Put t n
  unfolding allocated placed
  put t n e =
      let p = passed_place sp w _ not_sound _ (λ q. omega arith) e in
      let e1 = rw p.1 at e in
      let p1 = passed_place sp w _ unknown_code _ (λ q. omega arith) e1 in
      let e2 = rw p1.1 at e1 in
      let p2 = passed_place sp w _ zero_asked _ (λ q. omega arith) e2 in
      let e3 = rw p2.1 at e2 in
      let p3 = passed_place sp w _ beyond_limit _ (λ q. omega arith) e3 in
      record {
        some = split 1 n (λ l. l) (λ l. absurd (eqb-false n 0 p2.0 (omega arith)));
        not_beyond = p3.0;
        is = p.1 ∙ (p1.1 ∙ (p2.1 ∙ p3.1));
      }

  placed_address : (b : ℕ) (o : Outcome) → o.refusal ≡ 0 → (placed_at b o).address ≡ b
  unfolding placed_at
  placed_address b o e = rw e

  placed_outcome : (b : ℕ) (o : Outcome) → (placed_at b o).outcome ≡ o
  unfolding placed_at
  placed_outcome b o = refl

  pub allocated_put : (t n : ℕ) → (allocated sp t n w).outcome.refusal ≡ 0 → PutAt t n (allocated sp t n w).address
  allocated_put t n e =
      let p = put t n e in
      let k : Class = class_for sp.page t n in
      let b : ℕ = there t n in
      let ps : List Piece = insert (piece b n (Live k)) (lives_of sp w) in
      let g = place_goes t n p.some (chosen t n) (place_found sp w s k n) p.not_beyond in
      let o : (allocated sp t n w).outcome ≡ settled sp w ps = ap (λ (v : Placed). v.outcome) p.is ∙ placed_outcome b (settled sp w ps) in
      let e1 : (settled sp w ps).refusal ≡ 0 = sym (ap (λ (v : Outcome). v.refusal) o) ∙ e in
      let a : (allocated sp t n w).address ≡ b = ap (λ (v : Placed). v.address) p.is ∙ placed_address b (settled sp w ps) e1 in
      subst (PutAt t n) (sym a)
      (record {
        place = g.0;
        goes = g.1;
        changed = subst (Changed sp w ps) (sym o) (settled_changed sp w ps (put_good g.1) (put_within g.1) e1);
      })
