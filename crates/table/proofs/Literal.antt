-- Document 01's rules over the entries say the same as the chain.
--
--   page_family       all of a page is of one class
--   page_live         a page with a small entry has a live one
--   rules_of          a chain keeps document 01's rules
--   chain_of          entries that keep them are a chain
--   no-entry, no_byte there is no entry exactly when the file is empty
--
-- Assumes nothing.
use Prim.Native.Nat.{ℕ, ◌+◌, ◌≤◌, ◌<◌}
use mathlib.Core.List.{List, [], ◌∷◌, Memᴰ}
use mathlib.Core.Path.{◌≡◌, refl, sym, ap, ◌∙◌}
use native.Mathlib.Omega.{arith}
use Rattle.pages.proofs.Numbers.{split}
use Rattle.pages.proofs.PageLaws.{border_zero, down_le, down_lt, down_border, down_in, down_of, not_border, border_next}
use Rattle.pages.specs.Pages.{down, Border}
use Rattle.pieces.proofs.PieceLaws.{View, small, large, view}
use Rattle.pieces.specs.Pieces.{piece, class_of, Small, IsFree, is_free}
use Rattle.pieces.specs.declared.Class.TheVariants.{Large}
use Rattle.pieces.specs.declared.Class.{Class}
use Rattle.pieces.specs.declared.Piece.{Piece}
use Rattle.pieces.specs.declared.Status.TheVariants.{Live, Free}
use Rattle.pieces.specs.declared.Status.{Status}
use Rattle.table.proofs.Chain.{Entry, ChainFrom, stop, step, Chain}
use Rattle.table.proofs.ChainLaws.{chain_le, mem_from}
use Rattle.table.specs.Fill.{Within}
use Rattle.table.specs.Sound.{Tiles, tiled, tile, Touches, LiveIn, Neighbours, here, later, Last, last_one, last_later, SoundEntries}

module _ (P : ℕ) (pos : 0 < P) where
  -- all of a page that holds the border between two entries is of one class
  inside : {E : ℕ} {s : Status} {a : ℕ} {es : List Piece} {x : Piece} (q : ℕ) → Border P q → q < a → ChainFrom P E s a es → Memᴰ x es
      → x.address < q + P → class_of s ≡ class_of x.status
  inside q b l (step {a = a} y r) (mathlib.Core.List.Memᴰ.head e) h =
      y.family (not_border P pos b l (omega (arith, ap (λ (p : Piece). p.address) e))) ∙ sym (ap (λ (p : Piece). class_of p.status) e)
  inside q b l (step {a = a} y r) (mathlib.Core.List.Memᴰ.tail m) h =
      y.family (not_border P pos b l (omega (arith, mem_from r m))) ∙ inside q b (omega arith) r m h
  inside {E = E} q b l (stop {s = s} {a = a} _ _) x24 h = elim x24 [ ]

  pub page_family : {E : ℕ} {s : Status} {a : ℕ} {es : List Piece} {x y : Piece} (q : ℕ) → Border P q → ChainFrom P E s a es
      → Memᴰ x es → Memᴰ y es → Touches P q x → Touches P q y → class_of x.status ≡ class_of y.status
  page_family q b (step e r) (mathlib.Core.List.Memᴰ.head i) (mathlib.Core.List.Memᴰ.head j) u v = cc
  page_family q b (step e r) (mathlib.Core.List.Memᴰ.head i) (mathlib.Core.List.Memᴰ.tail j) u v =
      ap (λ (p : Piece). class_of p.status) i ∙ inside q b (rw i at u).high r j v.low
  page_family q b (step e r) (mathlib.Core.List.Memᴰ.tail i) (mathlib.Core.List.Memᴰ.head j) u v =
      sym (ap (λ (p : Piece). class_of p.status) j ∙ inside q b (rw j at v).high r i u.low)
  page_family q b (step e r) (mathlib.Core.List.Memᴰ.tail i) (mathlib.Core.List.Memᴰ.tail j) u v = page_family q b r i j u v
  page_family {E = E} {y = y} q b (stop {s = s} {a = a} _ _) x28 _ u v = elim x28 [ ]

  -- ---- a page with a small entry has a live one

  -- it is found among the entries es, or it is the one before them
  data Living (s : Status) (a q : ℕ) (es : List Piece) : Type 0 where
    among : LiveIn P q es → Living s a q es
    before : (c : Class) → s ≡ Live c → q < a → a < q + P → Living s a q es

  live_later : {q : ℕ} {x : Piece} {es : List Piece} → LiveIn P q es → LiveIn P q (x ∷ es)
  live_later f = record { entry = f.entry; class = f.class; among = mathlib.Core.List.Memᴰ.tail f.among; live = f.live; touches = f.touches }

  live_here : {q a n : ℕ} {c : Class} {t : Status} {es : List Piece} → t ≡ Live c → a < q + P → q < a + n → LiveIn P q (piece a n t ∷ es)
  live_here {a = a} {n = n} {c = c} {t = t} e l h =
      record { entry = piece a n t; class = c; among = mathlib.Core.List.Memᴰ.head refl; live = e; touches = record { low = l; high = h } }

  -- behind a free small entry that ends within its page
  live_next : {E q a : ℕ} {c : Class} {es : List Piece} → Border P q → q < a → a < q + P → ChainFrom P E (Free c) a es → LiveIn P q es
  live_next b l h (stop e bo) = absurd (not_border P pos b l h bo)
  live_next b l h (step {t = Live m} y r) = live_here refl h (omega (arith, y.some))
  live_next b l h (step {t = Free m} y r) = absurd (y.merged (not_border P pos b l h) is_free is_free)

  small_living : {E : ℕ} {s t : Status} {a n : ℕ} {es : List Piece} (q : ℕ) → Border P q → Entry P s a n t es → ChainFrom P E t (a + n) es
      → Small (class_of t) → Touches P q (piece a n t) → Living s a q (piece a n t ∷ es)
  small_living {t = Live c} q b y r h u = among (live_here refl u.low u.high)
  small_living {s = Live c} {t = Free m} {a = a} {n = n} q b y r h u =
      split (q + P) (a + n)
      (λ l. before c refl (omega (arith, y.small h)) u.low)
      (λ l. among (live_later (live_next b u.high l r)))
  small_living {s = Free c} {t = Free m} {a = a} {n = n} q b y r h u =
      split (q + P) (a + n)
      (λ l. absurd (y.merged (not_border P pos b (omega (arith, y.small h)) u.low) is_free is_free))
      (λ l. among (live_later (live_next b u.high l r)))

  page_living : {E : ℕ} {s : Status} {a : ℕ} {es : List Piece} {x : Piece} (q : ℕ) → Border P q → ChainFrom P E s a es
      → Memᴰ x es → Small (class_of x.status) → Touches P q x → Living s a q es
  page_living q b (step y r) (mathlib.Core.List.Memᴰ.head i) h u = small_living q b y r (rw i at h) (rw i at u)
  page_living {s = s} {a = a} q b (step {t = t} {n = n} {es = es} y r) (mathlib.Core.List.Memᴰ.tail i) h u = go (page_living q b r i h u)
    where
      go : Living t (a + n) q es → Living s a q (piece a n t ∷ es)
      go (among f) = among (live_later f)
      go (before c e l g) = among (live_here e (omega arith) l)
  page_living {E = E} q b (stop {s = s} {a = a} _ _) x24 h u = elim x24 [ ]

  pub page_live : {E : ℕ} {es : List Piece} {x : Piece} (q : ℕ) → Border P q → Chain P E es → Memᴰ x es → Small (class_of x.status)
      → Touches P q x → LiveIn P q es
  page_live {es = es} q b h m s u = go (page_living q b h m s u)
    where
      go : Living (Live Large) 0 q es → LiveIn P q es
      go (among f) = f
      go (before c e l g) = absurd (omega arith)

  -- ---- a chain keeps document 01's rules

  tiles_of : {E : ℕ} {s : Status} {a : ℕ} {es : List Piece} → ChainFrom P E s a es → Tiles E a es
  tiles_of (stop e b) = tiled e
  tiles_of (step y r) = tile (tiles_of r)

  -- what holds of each entry by itself
  record Each (x : Piece) : Type 0 where
    filled : 0 < x.size
    within : Small (class_of x.status) → Within P x.address x.size
    aligned : x.status ≡ Live Large → Border P x.address
    whole : x.status ≡ Live Large → P ≤ x.size

  each : {E : ℕ} {s : Status} {a : ℕ} {es : List Piece} {x : Piece} → ChainFrom P E s a es → Memᴰ x es → Each x
  each (step {t = t} {a = a} {n = n} y r) (mathlib.Core.List.Memᴰ.head e) =
      let z : Each (piece a n t) = record { filled = y.some; within = y.small; aligned = y.aligned; whole = y.whole } in
      rw e z
  each (step y r) (mathlib.Core.List.Memᴰ.tail m) = each r m
  each {E = E} (stop {s = s} {a = a} _ _) x12 = elim x12 [ ]

  no_large : {E : ℕ} {s : Status} {a : ℕ} {es : List Piece} {x y : Piece} → ChainFrom P E s a es → Neighbours x y es
      → x.status ≡ Free Large → y.status ≡ Free Large → ⊥
  no_large (step e (step f r)) here p q = f.large_merged p q
  no_large (step e r) (later m) p q = no_large r m p q
  no_large {E = E} {y = y} (stop {s = s} {a = a} _ _) x20 p q = elim x20 [ ]

  no_small : {E : ℕ} {s : Status} {a : ℕ} {es : List Piece} {x y : Piece} (c : Class) → Small c → ChainFrom P E s a es → Neighbours x y es
      → x.status ≡ Free c → y.status ≡ Free c → down P x.address ≡ down P y.address → ⊥
  no_small c h (step {t = t} {a = a} {n = n} e (step {t = t'} f r)) here p q w =
      let free₁ : IsFree t = rw p is_free in
      let free₂ : IsFree t' = rw q is_free in
      f.merged (λ b. omega (arith, down_of P pos b, down_le P pos a, e.some)) free₁ free₂
  no_small c h (step e r) (later m) p q w = no_small c h r m p q w
  no_small {E = E} {y = y} c h (stop {s = s} {a = a} _ _) x28 p q w = elim x28 [ ]

  cut_of : {E : ℕ} {s : Status} {a : ℕ} {es : List Piece} {x : Piece} → ChainFrom P E s a es → Last x es → x.status ≡ Free Large → x.size < P
  cut_of (step e r) last_one q = e.cut refl q
  cut_of (step e r) (last_later m) q = cut_of r m q
  cut_of {E = E} (stop {s = s} {a = a} _ _) x16 q = elim x16 [ ]

  pub rules_of : {E : ℕ} {es : List Piece} → Chain P E es → SoundEntries P E es
  rules_of h =
      record {
        filled = λ x m. (each h m).filled;
        tiling = tiles_of h;
        small_under = λ x m s. ((each h m).within s).under;
        small_within = λ x m s. ((each h m).within s).in_page;
        one_family = λ q b x y i j s u v. page_family q b h i j u v;
        some_live = λ q b x m s u. page_live q b h m s u;
        large_border = λ x m. (each h m).aligned;
        large_whole = λ x m. (each h m).whole;
        no_two_large = λ x y m. no_large h m;
        no_two_small = λ x y m c s. no_small c s h m;
        last_cut = λ x m. cut_of h m;
      }

  -- ---- entries that keep the rules are a chain

  -- the words of the entries es, which may be the last part of a table
  record Words (es : List Piece) : Type 0 where
    each : (y : Piece) → Memᴰ y es → Each y
    one_family : (q : ℕ) → Border P q → (y z : Piece) → Memᴰ y es → Memᴰ z es → Small (class_of y.status)
        → Touches P q y → Touches P q z → class_of y.status ≡ class_of z.status
    no_two_large : (y z : Piece) → Neighbours y z es → y.status ≡ Free Large → z.status ≡ Free Large → ⊥
    no_two_small : (y z : Piece) → Neighbours y z es → (c : Class) → Small c → y.status ≡ Free c → z.status ≡ Free c
        → down P y.address ≡ down P z.address → ⊥
    cut : (y : Piece) → Last y es → y.status ≡ Free Large → y.size < P

  words_tail : {x : Piece} {es : List Piece} → Words (x ∷ es) → Words es
  words_tail w =
      record {
        each = λ y m. w.each y (mathlib.Core.List.Memᴰ.tail m);
        one_family = λ q b y z i j. w.one_family q b y z (mathlib.Core.List.Memᴰ.tail i) (mathlib.Core.List.Memᴰ.tail j);
        no_two_large = λ y z m. w.no_two_large y z (later m);
        no_two_small = λ y z m. w.no_two_small y z (later m);
        cut = λ y m. w.cut y (last_later m);
      }

  one_class : {c d : Class} → View c → View d → (Small c → c ≡ d) → (Small d → c ≡ d) → c ≡ d
  one_class (small h) v f g = f h
  one_class large (small h) f g = g h
  one_class large large f g = refl

  module _ {a n k : ℕ} {s t : Status} {es : List Piece} (w : Words (piece a n s ∷ piece (a + n) k t ∷ es)) (nb : ¬ Border P (a + n)) where
    in_page : down P (a + n) < a + n
    in_page =
        split (a + n) (down P (a + n))
        (λ h. let e : down P (a + n) ≡ a + n = omega (arith, down_le P pos (a + n)) in absurd (nb (rw e at (down_border P pos (a + n)))))
        (λ h. h)

    first_in : Touches P (down P (a + n)) (piece a n s)
    first_in = record { low = omega (arith, down_lt P pos (a + n)); high = in_page }

    second_in : Touches P (down P (a + n)) (piece (a + n) k t)
    second_in = record { low = down_lt P pos (a + n); high = omega (arith, in_page) }

    pair_family : class_of s ≡ class_of t
    pair_family =
        let x : Piece = piece a n s in
        let y : Piece = piece (a + n) k t in
        let i : Memᴰ x (x ∷ y ∷ es) = mathlib.Core.List.Memᴰ.head refl in
        let j : Memᴰ y (x ∷ y ∷ es) = mathlib.Core.List.Memᴰ.tail (mathlib.Core.List.Memᴰ.head refl) in
        one_class (view (class_of s)) (view (class_of t))
        (λ h. w.one_family (down P (a + n)) (down_border P pos (a + n)) x y i j h first_in second_in)
        (λ h. sym (w.one_family (down P (a + n)) (down_border P pos (a + n)) y x j i h second_in first_in))

    one_page : Small (class_of s) → down P a ≡ down P (a + n)
    one_page h =
        let v : Within P a n = (w.each (piece a n s) (mathlib.Core.List.Memᴰ.head refl)).within h in
        sym (down_in P pos {x = down P a} {y = a + n} (down_border P pos a) (omega (arith, down_le P pos a))
        (split (down P a + P) (a + n)
        (λ l. let e : down P a + P ≡ a + n = omega (arith, v) in absurd (nb (rw e at (border_next P pos (down_border P pos a)))))
        (λ l. l)))

  pair_free : {a n k : ℕ} {c d : Class} {es : List Piece} → View c → Words (piece a n (Free c) ∷ piece (a + n) k (Free d) ∷ es)
      → ¬ Border P (a + n) → ⊥
  pair_free {a} {n} {k} {c} {d} (small h) w nb =
      w.no_two_small (piece a n (Free c)) (piece (a + n) k (Free d)) here c h refl (ap Free (sym (pair_family w nb))) (one_page w nb h)
  pair_free {a} {n} {k} {d = d} large w nb =
      w.no_two_large (piece a n (Free Large)) (piece (a + n) k (Free d)) here refl (ap Free (sym (pair_family w nb)))

  pair_merged : {a n k : ℕ} {s t : Status} {es : List Piece} → Words (piece a n s ∷ piece (a + n) k t ∷ es) → ¬ Border P (a + n)
      → IsFree s → IsFree t → ⊥
  pair_merged w nb (is_free {c = c}) (is_free {c = d}) = pair_free (view c) w nb

  -- what an entry of status s before a has to do with the first of es
  data Pair (s : Status) (a : ℕ) : List Piece → Type 0 where
    pair_none : Pair s a []
    pair_some : {x : Piece} {es : List Piece} → (¬ Border P a → class_of s ≡ class_of x.status)
        → (¬ Border P a → IsFree s → IsFree x.status → ⊥) → (s ≡ Free Large → x.status ≡ Free Large → ⊥) → Pair s a (x ∷ es)

  pair_of : {E a n : ℕ} {s : Status} {es : List Piece} → Words (piece a n s ∷ es) → Tiles E (a + n) es → Pair s (a + n) es
  pair_of w (tiled e) = pair_none
  pair_of {a = a} {n = n} {s = s} w (tile {z = k} {t = t} r) =
      pair_some (pair_family w) (pair_merged w) (w.no_two_large (piece a n s) (piece (a + n) k t) here)

  last_here : {x : Piece} {es : List Piece} → es ≡ [] → Last x (x ∷ es)
  last_here e = rw e last_one

  chain : {E a : ℕ} {s : Status} {es : List Piece} → Border P E → Tiles E a es → Words es → Pair s a es → ChainFrom P E s a es
  chain b (tiled e) w p = stop e (rw e b)
  chain b (tile {a = a} {z = n} {t = t} r) w (pair_some f g h) =
      let z : Each (piece a n t) = w.each (piece a n t) (mathlib.Core.List.Memᴰ.head refl) in
      step
      (record {
        some = z.filled;
        small = z.within;
        aligned = z.aligned;
        whole = z.whole;
        family = f;
        merged = g;
        large_merged = h;
        cut = λ e. w.cut (piece a n t) (last_here e);
      })
      (chain b r (words_tail w) (pair_of w r))

  first_pair : {E : ℕ} {es : List Piece} → Tiles E 0 es → Pair (Live Large) 0 es
  first_pair (tiled e) = pair_none
  first_pair (tile r) =
      pair_some (λ nb. absurd (nb (border_zero P))) (λ nb. absurd (nb (border_zero P))) (λ e. let z : ◌≡◌ {A = ℕ} 0 1 = cc in absurd (omega arith))

  pub chain_of : {E : ℕ} {es : List Piece} → Border P E → SoundEntries P E es → Chain P E es
  chain_of b l =
      chain b l.tiling
      (record {
        each = λ y m. record {
          filled = l.filled y m;
          within = λ s. record { under = l.small_under y m s; in_page = l.small_within y m s };
          aligned = l.large_border y m;
          whole = l.large_whole y m;
        };
        one_family = l.one_family;
        no_two_large = l.no_two_large;
        no_two_small = l.no_two_small;
        cut = l.last_cut;
      })
      (first_pair l.tiling)

  -- ---- there is no entry exactly when the file is empty

  pub no_entry : {E : ℕ} → Chain P E [] → E ≡ 0
  no_entry (stop e b) = sym e

  pub no_byte : {E : ℕ} {es : List Piece} → Chain P E es → E ≡ 0 → es ≡ []
  no_byte (stop e b) q = refl
  no_byte (step y r) q = absurd (omega (arith, chain_le r, y.some))
