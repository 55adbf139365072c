-- The tests that refuse, and the conditions in document 01's words: each test holds exactly where its condition does.
--
-- In the order of the numbers, but for 8 and 9 with the 5 of an extend: type-test and manager-test (3), zero_test (4), beyond-end, end-beyond and
-- too_many (5 and 6 of an allocation), has_room and the-room (8), has_left and the-left (9), grows-last and last-grows (5 of an extend). A name
-- that begins with `test` is the other direction.
--
-- Assumes nothing.
use Prim.Native.Nat.{ℕ, ◌+◌, ◌<◌}
use mathlib.Core.Bool.{Bool, true, false, not, ◌||◌}
use mathlib.Core.List.{List, [], ◌∷◌, Memᴰ}
use mathlib.Core.Path.{◌≡◌, refl, sym, ap, ◌∙◌}
use lib.Dec.{ltb, eqb}
use borrow.Author.Tests.{lt-ltb, eq-eqb, ne_eqb, ltb-true, eqb-true}
use Rattle.choose.specs.Place.{place_for, place_address, at_endb}
use Rattle.choose.specs.declared.place.Place.{Place}
use Rattle.accepted.proofs.AcceptedLaws.{pos, here}
use Rattle.accepted.proofs.LongerLaws.{Stands, stands_here, stands_later, found_stands}
use Rattle.accepted.proofs.PlaceRule.{PlaceFound, inside, outside, place_found}
use Rattle.demands.proofs.Placing.{section_then_none, one_place}
use Rattle.demands.specs.Calls.{IsLive}
use Rattle.accepted.specs.Places.{PlaceIs, in_section, at_the_end}
use Rattle.demands.specs.Rows.{UnknownType, UnknownManager, ZeroAsked, no_size, no_change, NoPlace, LastLarge, TooMany, FullThere}
use Rattle.demands.specs.Rows.{HasRoom, HasLeft}
use Rattle.find.specs.Find.{FoundAt}
use Rattle.pages.proofs.Numbers.{and_left, and_right, not_both}
use Rattle.pages.specs.Pages.{up}
use Rattle.pieces.proofs.PieceLaws.{entry_among}
use Rattle.pieces.specs.Pieces.{piece, class_of}
use Rattle.pieces.specs.declared.Class.TheVariants.{SmallMetadata, SmallRaw, Large}
use Rattle.pieces.specs.declared.Class.{Class}
use Rattle.pieces.specs.declared.Piece.{Piece}
use Rattle.pieces.specs.declared.Status.TheVariants.{Live}
use Rattle.pieces.specs.declared.Status.{Status}
use Rattle.requests.specs.Requests.{metadata_code, raw_code, large_code, typeb, managerb}
use Rattle.room.proofs.ConditionLaws.{room_test, test_room, left_test, test_left}
use Rattle.room.specs.Room.{small_roomb, room_behindb, grows_beyondb, remainsb}
use Rattle.rules.specs.Editing.{insert}
use Rattle.space.specs.Giving.{name_of, entries_behind}
use Rattle.space.specs.Outcomes.{SoundSpace, entries_of, lives_of}
use Rattle.space.specs.Placing.{beyondb}
use Rattle.space.specs.declared.Space.{Space}
use Rattle.table.proofs.Chain.{ChainFrom, stop, step}
use Rattle.table.proofs.ChainLaws.{chain_end, one_at}
use Rattle.table.proofs.Theorems.{sound_chain}
use Rattle.table.specs.Local.{noneb}

-- ---- 3

module _ (t : ℕ) where
  pub type_test : not (typeb t) ≡ true → UnknownType t
  type_test h = (λ e. unknown (rw e), λ e. unknown (rw e))
    where
      unknown : typeb t ≡ true → ⊥
      unknown e = not_both h (ap not e)

  pub test_type : UnknownType t → not (typeb t) ≡ true
  test_type (n, m) = rw (ne_eqb t metadata_code n, ne_eqb t raw_code m)

  pub manager_test : not (managerb t) ≡ true → UnknownManager t
  manager_test h = (λ e. unknown (rw e), λ e. unknown (rw e), λ e. unknown (rw e))
    where
      unknown : managerb t ≡ true → ⊥
      unknown e = not_both h (ap not e)

  pub test_manager : UnknownManager t → not (managerb t) ≡ true
  test_manager (n, m, l) = rw (ne_eqb t metadata_code n, ne_eqb t raw_code m, ne_eqb t large_code l)

-- ---- 4

pub zero_test : (z m : ℕ) → (eqb z 0 || eqb m 0) ≡ true → ZeroAsked z m
zero_test z m e = go (eqb z 0) refl e
  where
    go : (t : Bool) → eqb z 0 ≡ t → (t || eqb m 0) ≡ true → ZeroAsked z m
    go true f h = no_size (eqb-true z 0 f)
    go false f h = no_change (eqb-true m 0 h)

pub test_zero : (z m : ℕ) → ZeroAsked z m → (eqb z 0 || eqb m 0) ≡ true
test_zero z m (no_size e) = rw (eq-eqb z 0 e)
test_zero z m (no_change e) = go (eqb z 0)
  where
    go : (t : Bool) → (t || eqb m 0) ≡ true
    go true = refl
    go false = eq-eqb m 0 e

-- ---- 5 and 6, of an allocation

module _ (sp : Space) (w : List ℕ) (s : SoundSpace sp w) (c : Class) (n : ℕ) where
  abbrev pub chosen : Place
  chosen = place_for sp.page c n (entries_of sp w)

  pub beyond_end_lem : (q : Place) → PlaceFound sp w s c n q → beyondb sp n q ≡ true → NoPlace sp w c n
  beyond_end_lem q (inside b i e f) g = absurd (not_both (and_left (at_endb q) (ltb sp.limit (up sp.page (sp.end + n))) g) f)
  beyond_end_lem q (outside i e) g =
      (i, ltb-true sp.limit (up sp.page (sp.end + n)) (and_right (at_endb q) (ltb sp.limit (up sp.page (sp.end + n))) g))

  pub end_beyond : (q : Place) → PlaceFound sp w s c n q → NoPlace sp w c n → beyondb sp n q ≡ true
  end_beyond q (inside b i e f) g = absurd (section_then_none i g.0)
  end_beyond q (outside i e) g = rw (e, lt-ltb sp.limit (up sp.page (sp.end + n)) g.1)

  -- the place that was found is the rule's
  found_place : (q : Place) → PlaceFound sp w s c n q → PlaceIs sp.page sp.end c n (entries_of sp w) (place_address sp.end q)
  found_place q (inside b i e f) = rw e (in_section i)
  found_place q (outside i e) = rw e (at_the_end i refl)

  abbrev pub there : ℕ
  there = place_address sp.end chosen

  abbrev pub placing_it : ℕ → List Piece
  placing_it b = insert (piece b n (Live c)) (lives_of sp w)

  pub there_is : PlaceIs sp.page sp.end c n (entries_of sp w) there
  there_is = found_place chosen (place_found sp w s c n)

  pub too_many : FullThere sp w c n → TooMany sp w (placing_it there)
  too_many h = rw (one_place (pos sp w s) h.is there_is) at h.full

-- ---- 8 and 9: the entries behind a piece

at_the_last : {P E a : ℕ} {t : Status} {es : List Piece} → ChainFrom P E t a es → noneb es ≡ true → a ≡ E
at_the_last (stop e b) h = e
at_the_last (step v r) h = absurd (not_both h refl)

stands_among : {b n : ℕ} {m : Class} {tl es : List Piece} {y : Piece} → Stands b n m tl es → Memᴰ y tl → Memᴰ y es
stands_among stands_here h = Memᴰ.tail h
stands_among (stands_later i) h = Memᴰ.tail (stands_among i h)

-- ---- a piece that was found

module _ (sp : Space) (w : List ℕ) (s : SoundSpace sp w) (a z i : ℕ) (x : Piece) (f : FoundAt a z (entries_of sp w) i x) where
  abbrev class : Class
  class = f.named.class

  abbrev behind_it : List Piece
  behind_it = entries_behind sp w i

  chain_behind : ChainFrom sp.page sp.end (Live class) (a + z) behind_it
  chain_behind = (here sp w s a z i x f).rest

  among_all : (y : Piece) → Memᴰ y behind_it → Memᴰ y (entries_of sp w)
  among_all y h = stands_among (found_stands sp w s a z i x f) h

  abbrev is_live : IsLive (entries_of sp w) (name_of a z)
  is_live = record { entry = x; among = entry_among f.entry; named = f.named }

  -- any live piece of this name is the one that was found
  the_class : (l : IsLive (entries_of sp w) (name_of a z)) → l.named.class ≡ class
  the_class l =
      let there = l.named.address ∙ sym f.named.address in
      let same : l.entry ≡ x = one_at (sound_chain s) l.among (entry_among f.entry) there in
      ap class_of (sym l.named.live ∙ (ap (λ (v : Piece). v.status) same ∙ f.named.live))

  -- the test of the code looks at the class of the entry
  by_class : {X : Type 0} (g : Class → X) → g (class_of x.status) ≡ g class
  by_class g = ap (λ (t : Status). g (class_of t)) f.named.live

  abbrev pub room : ℕ → Class → Bool
  room m c = room_behindb sp.page c (a + z) z m behind_it

  pub has_room : (m : ℕ) → room m (class_of x.status) ≡ true → HasRoom sp w a z m
  has_room m h =
      let r = room_test (pos sp w s) (sound_chain s) a z m class behind_it chain_behind among_all (sym (by_class (room m)) ∙ h) in
      record { live = is_live; room = r }

  pub the_room : (m : ℕ) → HasRoom sp w a z m → room m (class_of x.status) ≡ true
  the_room m h =
      by_class (room m) ∙ test_room (pos sp w s) (sound_chain s) a z m chain_behind among_all (rw (the_class h.live) at h.room)

  pub has_left : (k : ℕ) → remainsb sp.page (class_of x.status) z k ≡ true → HasLeft sp w a z k
  has_left k h =
      record { live = is_live; left = left_test sp.page class z k (sym (by_class (λ (c : Class). remainsb sp.page c z k)) ∙ h) }

  pub the_left : (k : ℕ) → HasLeft sp w a z k → remainsb sp.page (class_of x.status) z k ≡ true
  the_left k h =
      by_class (λ (c : Class). remainsb sp.page c z k) ∙ test_left sp.page class z k (rw (the_class h.live) at h.left)

  -- ---- 5, of an extend: at the file's end

  abbrev pub Beyond : ℕ → Type 0
  Beyond m = LastLarge sp w a z × (sp.limit < up sp.page (a + z + m))

  large_at_end : (m : ℕ) (c : Class) (tl : List Piece) → room_behindb sp.page c (a + z) z m tl ≡ true → noneb tl ≡ true → c ≡ Large
  unfolding room_behindb small_roomb
  large_at_end m SmallMetadata [] h n = absurd (not_both h refl)
  large_at_end m SmallRaw [] h n = absurd (not_both h refl)
  large_at_end m Large [] h n = refl
  large_at_end m c (y ∷ tl) h n = absurd (not_both n refl)

  pub grows_last : (m : ℕ) → room m (class_of x.status) ≡ true → grows_beyondb sp.page sp.limit (a + z) m behind_it ≡ true → Beyond m
  unfolding grows_beyondb
  grows_last m r g =
      let b = ltb sp.limit (up sp.page (a + z + m)) in
      let n = and_left (noneb behind_it) b g in (
        record {
          entry = x;
          among = entry_among f.entry;
          live = f.named.live ∙ ap Live (large_at_end m class behind_it (sym (by_class (room m)) ∙ r) n);
          address = f.named.address;
          size = f.named.size;
          last = at_the_last chain_behind n;
        },
        ltb-true sp.limit (up sp.page (a + z + m)) (and_right (noneb behind_it) b g),
      )

  pub last_grows : (m : ℕ) → Beyond m → grows_beyondb sp.page sp.limit (a + z) m behind_it ≡ true
  unfolding grows_beyondb
  last_grows m (l, h) = rw (chain_end chain_behind l.last, lt-ltb sp.limit (up sp.page (a + z + m)) h)
