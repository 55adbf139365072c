-- The walk finds the best place: the statements `BestPlace`, `SmallPlace` and `LargePlace` of specs/Choose.antt.
--
-- In this order: what was found is one number and one piece; of entries that tile an address names one; two best places are one;
-- what the walk holds is kept or beaten, and comes from an entry that fits, as `best_found`; `best_place`; what fits, spelled out; `small_place` and
-- `large_place`.
--
use mathlib.Core.Path.{◌≡◌, refl, sym, ap, ◌∙◌}
use mathlib.Core.Bool.{Bool, true, false, cond, ◌&&◌}
use mathlib.Core.List.{List, [], ◌∷◌, Memᴰ}
use Prim.Native.Nat.{ℕ, suc, ◌+◌, ◌≤◌, ◌<◌}
use native.Mathlib.Nat.{le_antisymm}
use native.Mathlib.Omega.{arith}
use lib.Dec.{ltb}
use borrow.Author.Tests.{ltb-true, ltb-false, leb-true, le-leb}
use Rattle.pages.specs.Pages.{up}
use Rattle.pages.proofs.Numbers.{and_left, and_right, both, not_both}
use Rattle.pages.proofs.PageLaws.{borders}
use Rattle.pieces.specs.declared.Class.{Class}
use Rattle.pieces.specs.declared.Class.TheVariants.{Large}
use Rattle.pieces.specs.declared.Status.{Status}
use Rattle.pieces.specs.declared.Status.TheVariants.{Live, Free}
use Rattle.pieces.specs.declared.Piece.{Piece}
use Rattle.pieces.specs.Pieces.{piece, behind, free_of, Small, EntryIs, entry_here, entry_later}
use Rattle.pieces.proofs.PieceLaws.{entry_among}
use Rattle.pieces.proofs.PieceLaws.{same_class_lem, class_same}
use Rattle.table.proofs.TilingLaws.{entry_above}
use Rattle.table.specs.Sound.{Tiles, tile}
use Rattle.choose.specs.Choose.{Chosen}
use Rattle.std.specs.Prelude.{Some, None}
use Rattle.choose.specs.Choose.{room_in, fits_in, better, best_of, best}
use Rattle.choose.specs.Choose.{Best, OneBest, NoneEmpty, BestPlace, FitsSmall, FitsLarge, SmallPlace, LargePlace}
use Rattle.choose.proofs.ChooseLaws.{room_small}

-- ---- what was found

abbrev number : Chosen → ℕ
number (Some (i, x)) = i
number None = 0

abbrev piece_or : Piece → Chosen → Piece
piece_or y (Some (i, x)) = x
piece_or y None = y

pub found_same : (i j : ℕ) (x y : Piece) → ◌≡◌ {A = Chosen} (Some (i, x)) (Some (j, y)) → (i ≡ j) × (x ≡ y)
found_same i j x y e = (ap number e, ap (piece_or x) e)

-- ---- entries that tile

one_entry : {E a : ℕ} {es : List Piece} {i j : ℕ} {x y : Piece} → NoneEmpty es → Tiles E a es → EntryIs es i x → EntryIs es j y
    → x.address ≡ y.address → ◌≡◌ {A = Chosen} (Some (i, x)) (Some (j, y))
one_entry f (tile r) entry_here entry_here e = refl
one_entry f (tile {a = a} {z = z} {t = t} r) entry_here (entry_later q) e =
    absurd (omega (arith, f (piece a z t) (Memᴰ.head refl), entry_above r q))
one_entry f (tile {a = a} {z = z} {t = t} r) (entry_later p) entry_here e =
    absurd (omega (arith, f (piece a z t) (Memᴰ.head refl), entry_above r p))
one_entry f (tile r) (entry_later p) (entry_later q) e =
    ap next_one (one_entry (λ x m. f x (Memᴰ.tail m)) r p q e)
  where
    next_one : Chosen → Chosen
    next_one (Some (i, x)) = Some (suc i, x)
    next_one None = None
one_entry {E = E} {i = i} {j = j} {y = y} f (Rattle.table.specs.Sound.tiled {a = a} _) x18 _ e = elim x18 [ ]

-- ---- two best places are one

one_best : (Fits : Piece → Type 0) {E a : ℕ} {es : List Piece} → NoneEmpty es → Tiles E a es → (q r : Chosen)
    → Best Fits es q → Best Fits es r → q ≡ r
one_best Fits f t None None g h = refl
one_best Fits f t None (Some (j, y)) g h = absurd (g y (entry_among h.entry) h.fitting)
one_best Fits f t (Some (i, x)) None g h = absurd (h x (entry_among g.entry) g.fitting)
one_best Fits f t (Some (i, x)) (Some (j, y)) g h =
    let my = entry_among h.entry in
    let mx = entry_among g.entry in
    let e : x.size ≡ y.size = le_antisymm (g.smallest y my h.fitting) (h.smallest x mx g.fitting) in
    one_entry f t g.entry h.entry
    (le_antisymm (g.lowest y my h.fitting (sym e)) (h.lowest x mx g.fitting e))

-- ---- what the walk holds

-- x is smaller than y, or as small and not higher
record Before (x y : Piece) : Type 0 where
  smaller : x.size ≤ y.size
  lower : y.size ≡ x.size → x.address ≤ y.address

abbrev Beats : Chosen → Piece → Type 0
Beats None y = ⊥
Beats (Some (i, x)) y = Before x y

before_self : (x : Piece) → Before x x
before_self x = record { smaller = omega arith; lower = λ e. omega arith }

before_trans : {x y z : Piece} → x.size < y.size → Before y z → Before x z
before_trans l h = record { smaller = omega (arith, h.smaller); lower = λ e. absurd (omega (arith, h.smaller)) }

module _ (fits : Piece → Bool) where
  best_of_keeps : (i : ℕ) (b : Chosen) (x y : Piece) → Beats b y → Beats (best_of fits i b x) y
  unfolding best_of
  best_of_keeps i None x y h = absurd h
  best_of_keeps i (Some (j, v)) x y h = go (fits x) (ltb x.size v.size) refl
    where
      go : (s t : Bool) → ltb x.size v.size ≡ t → Beats (cond (s && t) (Some (i, x)) (Some (j, v))) y
      go true true e = before_trans (ltb-true x.size v.size e) h
      go true false e = h
      go false t e = h

  best_keeps : (es : List Piece) (i : ℕ) (b : Chosen) (y : Piece) → Beats b y → Beats (best fits i b es) y
  unfolding best
  best_keeps [] i b y h = h
  best_keeps (x ∷ es) i b y h = best_keeps es (i + 1) (best_of fits i b x) y (best_of_keeps i b x y h)

  -- what is held does not lie above a
  abbrev Under : ℕ → Chosen → Type 0
  Under a None = Unit {0}
  Under a (Some (i, x)) = x.address ≤ a

  under_more : (a c : ℕ) (b : Chosen) → a ≤ c → Under a b → Under c b
  under_more a c None l h = tt
  under_more a c (Some (i, x)) l h = omega arith

  best_of_under : (i : ℕ) (b : Chosen) (x : Piece) → Under x.address b → Under (behind x) (best_of fits i b x)
  unfolding best_of
  best_of_under i b x h = go (fits x && better x.size b)
    where
      go : (t : Bool) → Under (behind x) (cond t (Some (i, x)) b)
      go true = omega arith
      go false = under_more x.address (behind x) b (omega arith) h

  best_of_beats : (i : ℕ) (b : Chosen) (x : Piece) → Under x.address b → fits x ≡ true → Beats (best_of fits i b x) x
  unfolding best_of
  best_of_beats i None x h ok = rw ok (before_self x)
  best_of_beats i (Some (j, v)) x h ok = rw ok (go (ltb x.size v.size) refl)
    where
      go : (t : Bool) → ltb x.size v.size ≡ t → Beats (cond t (Some (i, x)) (Some (j, v))) x
      go true e = before_self x
      go false e = record { smaller = ltb-false x.size v.size e; lower = λ q. h }

  best_beats : {E a : ℕ} {es : List Piece} (i : ℕ) (b : Chosen) (y : Piece) → Tiles E a es → Under a b → Memᴰ y es → fits y ≡ true
      → Beats (best fits i b es) y
  unfolding best
  best_beats i b y (tile {a = a} {z = z} {t = t} {es = es} r) u (Memᴰ.head e) ok =
      rw e (best_keeps es (i + 1) (best_of fits i b (piece a z t)) (piece a z t) (best_of_beats i b (piece a z t) u (rw e at ok)))
  best_beats i b y (tile {a = a} {z = z} {t = t} r) u (Memᴰ.tail m) ok =
      best_beats (i + 1) (best_of fits i b (piece a z t)) y r (best_of_under i b (piece a z t) u) m ok
  best_beats {E = E} i b y (Rattle.table.specs.Sound.tiled {a = a} _) u x11 ok = elim x11 [ ]

  -- where the place r, that the walk over es from entry i on finds, comes from
  data From (es : List Piece) (i : ℕ) (b : Chosen) : Chosen → Type 0 where
    kept : From es i b b
    found : {j k : ℕ} {x : Piece} → k ≡ i + j → EntryIs es j x → fits x ≡ true → From es i b (Some (k, x))

  best_from : (es : List Piece) (i : ℕ) (b : Chosen) → From es i b (best fits i b es)
  unfolding best best_of
  best_from [] i b = kept
  best_from (x ∷ es) i b = go (fits x) (better x.size b) refl (best_from es (i + 1) (best_of fits i b x))
    where
      go : (s t : Bool) → fits x ≡ s → {r : Chosen} → From es (i + 1) (cond (s && t) (Some (i, x)) b) r → From (x ∷ es) i b r
      go true true e kept = found {j = 0} {k = i} (omega arith) entry_here e
      go true false e kept = kept
      go false t e kept = kept
      go s t e (found {j = j} {k = k} n q ok) = found {j = suc j} {k = k} (omega arith) (entry_later q) ok

  -- ---- the whole walk

  best_is : {E a : ℕ} (es : List Piece) → Tiles E a es → Best (λ x. fits x ≡ true) es (best fits 0 None es)
  best_is es t = go (best fits 0 None es) (best_from es 0 None) (λ y. best_beats 0 None y t tt)
    where
      go : (r : Chosen) → From es 0 None r → ((y : Piece) → Memᴰ y es → fits y ≡ true → Beats r y) → Best (λ x. fits x ≡ true) es r
      go None h beats = beats
      go (Some (k, x)) (found {j = j} n q ok) beats =
          let e : j ≡ k = omega arith in
          record {
            entry = rw e at q;
            fitting = ok;
            smallest = λ y m fit. (beats y m fit).smaller;
            lowest = λ y m fit. (beats y m fit).lower;
          }

-- what the walk finds is an entry that fits, whatever the entries are
pub best_found : (fits : Piece → Bool) (es : List Piece) (i : ℕ) (x : Piece) → best fits 0 None es ≡ Some (i, x) → EntryIs es i x × (fits x ≡ true)
best_found fits es i x e = go (best fits 0 None es) (best_from fits es 0 None) e
  where
    go : (r : Chosen) → From fits es 0 None r → r ≡ Some (i, x) → EntryIs es i x × (fits x ≡ true)
    go None h q = let z : ◌≡◌ {A = ℕ} 0 1 = cc in absurd (omega arith)
    go (Some (k, y)) (found {j = j} n p ok) q =
        let same = found_same k i y x q in
        let j_is : j ≡ i = omega (arith, same.0) in
        (rw (j_is, same.1) at p, rw same.1 at ok)

pub best_place : BestPlace
best_place fits E a es filled t =
    let is : Best (λ x. fits x ≡ true) es (best fits 0 None es) = best_is fits es t in
    record { is = is; only = λ q h. one_best (λ x. fits x ≡ true) filled t q (best fits 0 None es) h is }

-- ---- what fits, spelled out

-- a place is the best by two descriptions of what fits that agree
best_same : (F G : Piece → Type 0) → ((x : Piece) → F x → G x) → ((x : Piece) → G x → F x) → (es : List Piece) (r : Chosen)
    → Best F es r → Best G es r
best_same F G to from es None h = λ y m g. h y m (from y g)
best_same F G to from es (Some (i, x)) h =
    record {
      entry = h.entry;
      fitting = to x h.fitting;
      smallest = λ y m g. h.smallest y m (from y g);
      lowest = λ y m g. h.lowest y m (from y g);
    }

one_best_same : (F G : Piece → Type 0) → ((x : Piece) → F x → G x) → ((x : Piece) → G x → F x) → (es : List Piece) (r : Chosen)
    → OneBest F es r → OneBest G es r
one_best_same F G to from es r h =
    record { is = best_same F G to from es r h.is; only = λ q g. h.only q (best_same G F from to es q g) }

free_of_lem : (k : Class) (t : Status) → free_of k t ≡ true → t ≡ Free k
free_of_lem k (Live c) h = absurd (not_both h refl)
free_of_lem k (Free c) h = ap Free (same_class_lem c k h)

of_free : (k : Class) (t : Status) → t ≡ Free k → free_of k t ≡ true
of_free k t e = rw e (class_same k k refl)

module _ (P : ℕ) (k : Class) (s : ℕ) (x : Piece) where
  fits_free_of : fits_in P k s x ≡ true → x.status ≡ Free k
  unfolding fits_in
  fits_free_of h = free_of_lem k x.status (and_left (free_of k x.status) (room_in P k s x.address x.size) h)

  fits_room : fits_in P k s x ≡ true → room_in P k s x.address x.size ≡ true
  unfolding fits_in
  fits_room h = and_right (free_of k x.status) (room_in P k s x.address x.size) h

  room_fits : x.status ≡ Free k → room_in P k s x.address x.size ≡ true → fits_in P k s x ≡ true
  unfolding fits_in
  room_fits e h = both (free_of k x.status) (room_in P k s x.address x.size) (of_free k x.status e) h

pub fits_small : (P : ℕ) (k : Class) → Small k → (s : ℕ) (x : Piece) → fits_in P k s x ≡ true → FitsSmall k s x
fits_small P k small s x h =
    record {
      free = fits_free_of P k s x h;
      room = leb-true s x.size (sym (room_small small P s x.address x.size) ∙ fits_room P k s x h);
    }

pub small_fits : (P : ℕ) (k : Class) → Small k → (s : ℕ) (x : Piece) → FitsSmall k s x → fits_in P k s x ≡ true
small_fits P k small s x h =
    room_fits P k s x h.free (room_small small P s x.address x.size ∙ le-leb s x.size h.room)

pub fits_large : (P : ℕ) → 0 < P → (s : ℕ) (x : Piece) → fits_in P Large s x ≡ true → FitsLarge P s x
unfolding room_in
fits_large P pos s x h =
    record {
      free = fits_free_of P Large s x h;
      start = up P x.address;
      border = (borders P x.address pos).up_is;
      room = leb-true (up P x.address + s) (behind x) (fits_room P Large s x h);
    }

pub large_fits : (P : ℕ) → 0 < P → (s : ℕ) (x : Piece) → FitsLarge P s x → fits_in P Large s x ≡ true
unfolding room_in
large_fits P pos s x h =
    room_fits P Large s x h.free
    (le-leb (up P x.address + s) (behind x) (omega (arith, h.room, (borders P x.address pos).up_only h.start h.border)))

pub small_place : SmallPlace
small_place P k small s E a es filled t =
    one_best_same (λ x. fits_in P k s x ≡ true) (FitsSmall k s) (fits_small P k small s) (small_fits P k small s)
    es (best (fits_in P k s) 0 None es) (best_place (fits_in P k s) E a es filled t)

pub large_place : LargePlace
large_place P pos s E a es filled t =
    one_best_same (λ x. fits_in P Large s x ≡ true) (FitsLarge P s) (fits_large P pos s) (large_fits P pos s)
    es (best (fits_in P Large s) 0 None es) (best_place (fits_in P Large s) E a es filled t)
