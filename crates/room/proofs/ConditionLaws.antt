-- The tests of the room behind a piece and of what remains of it, and their conditions in document 01's words (specs/Conditions.antt): each
-- test holds exactly where its condition does.
--
--   the_next                 the entry that starts where a part of a table goes on is the first of that part
--   room_test, test_room     the room behind a piece: the test says the condition, and the condition the test
--   left_test, test_left     what remains of a piece, likewise
use Prim.Native.Nat.{ℕ, ◌+◌, ◌≤◌, ◌<◌}
use mathlib.Core.Bool.{true, not, ◌&&◌}
use mathlib.Core.List.{List, [], ◌∷◌, Memᴰ}
use mathlib.Core.Path.{◌≡◌, refl, sym, ap}
use native.Mathlib.Omega.{arith}
use lib.Dec.{leb, ltb}
use borrow.Author.Tests.{le-leb, lt-ltb, leb-true, ltb-true}
use Rattle.pages.proofs.Numbers.{and_left, and_right, not_both}
use Rattle.pages.proofs.PageLaws.{true_border, false_border}
use Rattle.pages.specs.Pages.{Border, borderb}
use Rattle.pieces.proofs.PieceLaws.{small_large, large_small}
use Rattle.pieces.specs.Pieces.{piece, Small, metadata, raw, IsFree, is_free, freeb, large_freeb}
use Rattle.pieces.specs.declared.Class.TheVariants.{SmallMetadata, SmallRaw, Large}
use Rattle.pieces.specs.declared.Class.{Class}
use Rattle.pieces.specs.declared.Piece.{Piece}
use Rattle.pieces.specs.declared.Status.TheVariants.{Live, Free}
use Rattle.pieces.specs.declared.Status.{Status}
use Rattle.room.specs.Conditions.{RoomBehind, small_room, large_room, room_at_end, Remains}
use Rattle.room.specs.Room.{small_roomb, large_roomb, room_behindb, remainsb}
use Rattle.table.proofs.Chain.{ChainFrom, stop, step, Chain}
use Rattle.table.proofs.ChainLaws.{chain_end, one_at}
use Rattle.table.proofs.Literal.{rules_of}
use Rattle.table.proofs.TilingLaws.{mem_below}

-- ---- the entry behind a piece

-- tl is a part of the table es, from b on
pub the_next : {P E b : ℕ} {t : Status} {es tl : List Piece} {y : Piece} → 0 < P → Chain P E es → ChainFrom P E t b tl
    → ((x : Piece) → Memᴰ x tl → Memᴰ x es) → Memᴰ y es → y.address ≡ b → (rest : List Piece) × (tl ≡ y ∷ rest)
the_next {P} {y = y} pos whole (stop e b) among i q =
    let h = rules_of P pos whole in absurd (omega (arith, h.filled y i, mem_below h.tiling i))
the_next {b = b} pos whole (step {t = t} {n = n} {es = tl} v r) among i q =
    let same = one_at whole (among (piece b n t) (Memᴰ.head refl)) i (sym q) in
    (tl, ap (λ (x : Piece). x ∷ tl) same)

-- ---- tests of a status

free_test : (t : Status) → freeb t ≡ true → IsFree t
free_test (Live c) h = absurd (not_both h refl)
free_test (Free c) h = is_free

test_free : {t : Status} → IsFree t → freeb t ≡ true
test_free is_free = refl

large_free_test : (t : Status) → large_freeb t ≡ true → t ≡ Free Large
large_free_test (Live c) h = absurd (not_both h refl)
large_free_test (Free SmallMetadata) h = absurd (not_both h refl)
large_free_test (Free SmallRaw) h = absurd (not_both h refl)
large_free_test (Free Large) h = refl

-- ---- the room behind a piece of z bytes at a, with the entries tl behind it

module _ {P E : ℕ} {es : List Piece} (pos : 0 < P) (whole : Chain P E es) (a z m : ℕ) where
  small_test : {c : Class} (tl : List Piece) → Small c → ChainFrom P E (Live c) (a + z) tl
      → ((y : Piece) → Memᴰ y tl → Memᴰ y es) → small_roomb P (a + z) z m tl ≡ true → RoomBehind P E es a z m c
  unfolding small_roomb
  small_test [] c r among h = absurd (not_both h refl)
  small_test (y ∷ tl) c (step {t = t} {n = n} v r) among h =
      let nb = not (borderb P (a + z)) in
      let fr = freeb t && leb m n in
      let un = ltb (z + m) P in
      let h1 = and_right nb (fr && un) h in
      let h2 = and_left fr un h1 in
      small_room c (among _ (Memᴰ.head refl)) refl (free_test t (and_left (freeb t) (leb m n) h2))
      (λ b. not_both (and_left nb (fr && un) h) (ap not (true_border b))) (leb-true m n (and_right (freeb t) (leb m n) h2))
      (ltb-true (z + m) P (and_right fr un h1))

  large_test : (tl : List Piece) → ChainFrom P E (Live Large) (a + z) tl → ((y : Piece) → Memᴰ y tl → Memᴰ y es)
      → large_roomb m tl ≡ true → RoomBehind P E es a z m Large
  unfolding large_roomb
  large_test [] (stop e b) among h = room_at_end e
  large_test (y ∷ tl) (step {t = t} {n = n} v r) among h =
      large_room (among _ (Memᴰ.head refl)) refl (large_free_test t (and_left (large_freeb t) (leb m n) h))
      (leb-true m n (and_right (large_freeb t) (leb m n) h))

  pub room_test : (c : Class) (tl : List Piece) → ChainFrom P E (Live c) (a + z) tl → ((y : Piece) → Memᴰ y tl → Memᴰ y es)
      → room_behindb P c (a + z) z m tl ≡ true → RoomBehind P E es a z m c
  unfolding room_behindb
  room_test SmallMetadata tl r among h = small_test tl metadata r among h
  room_test SmallRaw tl r among h = small_test tl raw r among h
  room_test Large tl r among h = large_test tl r among h

  test_small : {c : Class} {tl : List Piece} {y : Piece} → Small c → ChainFrom P E (Live c) (a + z) tl
      → ((x : Piece) → Memᴰ x tl → Memᴰ x es) → Memᴰ y es → y.address ≡ a + z → IsFree y.status
      → (Border P (a + z) → ⊥) → m ≤ y.size → z + m < P → room_behindb P c (a + z) z m tl ≡ true
  unfolding room_behindb small_roomb
  test_small {y = y} metadata r among i q f nb l u =
      rw ((the_next pos whole r among i q).1, false_border P (a + z) nb, test_free f, le-leb m y.size l, lt-ltb (z + m) P u)
  test_small {y = y} raw r among i q f nb l u =
      rw ((the_next pos whole r among i q).1, false_border P (a + z) nb, test_free f, le-leb m y.size l, lt-ltb (z + m) P u)

  pub test_room : {c : Class} {tl : List Piece} → ChainFrom P E (Live c) (a + z) tl → ((x : Piece) → Memᴰ x tl → Memᴰ x es)
      → RoomBehind P E es a z m c → room_behindb P c (a + z) z m tl ≡ true
  unfolding room_behindb large_roomb
  test_room r among (small_room c i q f nb l u) = test_small c r among i q f nb l u
  test_room r among (large_room {y = y} i q f l) = rw ((the_next pos whole r among i q).1, f, le-leb m y.size l)
  test_room r among (room_at_end e) = rw (chain_end r e)

-- ---- what remains of a piece

pub left_test : (P : ℕ) (c : Class) (z k : ℕ) → remainsb P c z k ≡ true → Remains P c z k
unfolding remainsb
left_test P SmallMetadata z k e = record { small = λ t. omega (arith, ltb-true k z e); large = λ q. absurd (small_large metadata q) }
left_test P SmallRaw z k e = record { small = λ t. omega (arith, ltb-true k z e); large = λ q. absurd (small_large raw q) }
left_test P Large z k e = record { small = λ t. absurd (large_small t refl); large = λ q. leb-true (P + k) z e }

pub test_left : (P : ℕ) (c : Class) (z k : ℕ) → Remains P c z k → remainsb P c z k ≡ true
unfolding remainsb
test_left P SmallMetadata z k r = lt-ltb k z (omega (arith, r.small metadata))
test_left P SmallRaw z k r = lt-ltb k z (omega (arith, r.small raw))
test_left P Large z k r = le-leb (P + k) z (r.large refl)
