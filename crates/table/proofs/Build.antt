-- The table that good live pieces determine is a chain, and its live pieces are those.
--
--   lives_fill        the live pieces of the table
--   low, high         what the two borders of a gap are (Low, High)
--   build             the chain, piece by piece: the gap before it, and the piece
--   fill_chain, lives_of_fill    the same of a whole table
--
-- Assumes nothing.
use Prim.Native.Nat.{ℕ, ◌+◌, ◌-◌, ◌≤◌, ◌<◌, min, max}
use mathlib.Core.List.{List, [], ◌∷◌, ◌++◌, append-nil, append_assoc}
use mathlib.Core.Path.{◌≡◌, refl, ◌∙◌}
use native.Mathlib.Omega.{arith}
use Rattle.pages.proofs.PageLaws.{dec_border, down_le, down_lt, down_border, up_border, up_ge, up_lt, down_of, up_of, down_most, up_down}
use Rattle.pages.specs.Pages.{down, up, Border}
use Rattle.pieces.proofs.PieceLaws.{View, small, large, view, large_small, small_large, live_free, not_free}
use Rattle.pieces.specs.Pieces.{piece, class_of, Small, IsFree}
use Rattle.pieces.specs.declared.Class.TheVariants.{Large}
use Rattle.pieces.specs.declared.Class.{Class}
use Rattle.pieces.specs.declared.Piece.{Piece}
use Rattle.pieces.specs.declared.Status.TheVariants.{Live, Free}
use Rattle.pieces.specs.declared.Status.{Status}
use Rattle.table.proofs.Chain.{Entry, ChainFrom, stop, step, Chain}
use Rattle.table.proofs.ChainLaws.{entry_live, entry_free, free_chain}
use Rattle.table.proofs.GapLaws.{lo_small, lo_large, hi_small, hi_large, gap_is, apart_le}
use Rattle.table.proofs.LivesLaws.{lives_free_append}
use Rattle.table.specs.Fill.{lives, free, lo, hi, gap, tail, fill_from, fill, last_end, end_of}
use Rattle.table.specs.Fill.{Within, Apart, border_between, one_family, GoodFrom, none, next, Good}

lives_gap : (P : ℕ) (k : Class) (a b : ℕ) (m : Class) (es : List Piece) → lives (gap P k a b m ++ es) ≡ lives es
lives_gap P k a b m es = rw (gap_is P k a b m refl refl) (simp (append_assoc, lives_free_append))

pub lives_fill : {P : ℕ} {k : Class} {a : ℕ} {ps : List Piece} → GoodFrom P k a ps → lives (fill_from P k a ps) ≡ ps
unfolding lives fill_from
lives_fill {P} {k} {a} none = rw (← (append-nil (tail P k a))) (lives_free_append k a (up P a) [])
lives_fill {P} {k} {a} (next {m = m} {b = b} {z = n} {ps = ps} d w g) =
    lives_gap P k a b m (piece b n (Live m) ∷ fill_from P m (b + n) ps) ∙ rw (lives_fill g)

-- ---- what cannot be

append_right : (xs ys : List Piece) → xs ++ ys ≡ [] → ys ≡ []
append_right [] ys q = q
append_right (x ∷ xs) ys q = let z : ◌≡◌ {A = ℕ} 0 1 = cc in absurd (omega arith)

module _ (P : ℕ) (pos : 0 < P) where
  -- the lower border of a gap
  pub record Low (k : Class) (a b : ℕ) (m : Class) (l : ℕ) : Type 0 where
    pub a_l : a ≤ l
    pub l_b : l ≤ b
    pub own : a < l → Small k
    pub reach : l ≤ up P a
    pub before : a < l → l < b → Border P l
    pub clear : a ≡ l → l < b → ¬ Border P l → k ≡ Large
    pub below : l < b → l ≤ down P b
    pub meet : l ≡ b → ¬ Border P b → k ≡ m

  up_below : (a : ℕ) {b : ℕ} → up P a ≤ b → up P a ≤ down P b
  up_below a h = down_most P pos (up_border P pos a) h

  meets : {k m : Class} {a b l : ℕ} → Apart P k a b m → (up P a ≤ b → l ≡ up P a) → l ≡ b → ¬ Border P b → k ≡ m
  meets {a = a} {l = l} (border_between h) f e nb =
      let q : l ≡ up P a = f h in
      absurd (nb (rw (← e, q) (up_border P pos a)))
  meets (one_family h s q) f e nb = q

  low_small : {k m : Class} {a b : ℕ} → Small k → Apart P k a b m → Low k a b m (lo P k a b)
  low_small {k} {m} {a} {b} s d =
      let le : a ≤ b = apart_le P pos d in
      let ua : a ≤ up P a = up_ge P pos a in
      let el : lo P k a b ≡ min b (up P a) = lo_small P a b s in
      record {
        a_l = omega arith;
        l_b = omega arith;
        own = λ x. s;
        reach = omega arith;
        before = λ x y. let e : lo P k a b ≡ up P a = omega arith in rw e (up_border P pos a);
        clear = λ x y nb. let e : up P a ≡ a = omega arith in absurd (nb (rw (← x, ← e) (up_border P pos a)));
        below = λ x. let h : up P a ≤ b = omega arith in omega (arith, up_below a h);
        meet = meets d (λ h. omega arith);
      }

  pub large_apart : {m : Class} {a b : ℕ} → Apart P Large a b m → up P a ≤ b
  large_apart (border_between h) = h
  large_apart (one_family l s q) = absurd (large_small s refl)

  low_large : {m : Class} {a b : ℕ} → Apart P Large a b m → Low Large a b m (lo P Large a b)
  low_large {m} {a} {b} d =
      let le : up P a ≤ b = large_apart d in
      let ua : a ≤ up P a = up_ge P pos a in
      let el : lo P Large a b ≡ a = lo_large P a b in
      record {
        a_l = omega arith;
        l_b = omega arith;
        own = λ x. absurd (omega arith);
        reach = omega arith;
        before = λ x y. absurd (omega arith);
        clear = λ x y nb. refl;
        below = λ x. omega (arith, up_below a le);
        meet = λ x nb. let e : up P a ≡ b = omega arith in absurd (nb (rw (← e) (up_border P pos a)));
      }

  pub low : {k m : Class} {a b : ℕ} → View k → Apart P k a b m → Low k a b m (lo P k a b)
  low (small s) d = low_small s d
  low large d = low_large d

  -- the upper border of a gap
  pub record High (b : ℕ) (m : Class) (l h : ℕ) : Type 0 where
    pub l_h : l ≤ h
    pub h_b : h ≤ b
    pub large_end : l < h → Border P h
    pub own : h < b → Small m
    pub at : h < b → Border P h
    pub page : b < h + P

  pub high : {m : Class} (l b : ℕ) → View m → l ≤ b → (l < b → l ≤ down P b) → (m ≡ Large → Border P b) → High b m l (hi P l b m)
  high {m} l b (small s) le f g =
      let e : hi P l b m ≡ max l (down P b) = hi_small P l b s in
      let d1 : down P b ≤ b = down_le P pos b in
      let d2 : b < down P b + P = down_lt P pos b in
      record {
        l_h = omega arith;
        h_b = omega arith;
        large_end = λ x. let q : hi P l b m ≡ down P b = omega arith in rw q (down_border P pos b);
        own = λ x. s;
        at = λ x. let q : hi P l b m ≡ down P b = omega (arith, f (omega arith)) in rw q (down_border P pos b);
        page = omega arith;
      }
  high l b large le f g =
      let e : hi P l b Large ≡ b = hi_large P l b in
      record {
        l_h = omega arith;
        h_b = omega arith;
        large_end = λ x. rw e (g refl);
        own = λ x. absurd (omega arith);
        at = λ x. absurd (omega arith);
        page = omega arith;
      }

  -- ---- one entry of a gap, if there is one

  -- a free small entry at a border, or behind a live one of its class
  entry_small : {s : Status} {c : Class} {a n : ℕ} {es : List Piece} → Small c → 0 < n → Within P a n
      → (¬ Border P a → class_of s ≡ c) → (¬ Border P a → IsFree s → ⊥) → Entry P s a n (Free c) es
  entry_small t p w f g =
      entry_free p (λ x. w) f (record { small = g; large = λ x y. small_large t y }) (λ x y. absurd (small_large t y))

  entry_large : {s : Status} {a n : ℕ} {es : List Piece} → 0 < n → (¬ Border P a → class_of s ≡ Large) → (¬ Border P a → IsFree s → ⊥)
      → (s ≡ Free Large → ⊥) → (es ≡ [] → n < P) → Entry P s a n (Free Large) es
  entry_large p f g h c =
      entry_free p (λ x. absurd (large_small x refl)) f (record { small = g; large = λ x y. h x }) (λ x y. c x)

  within_own : {a l : ℕ} → a < l → l ≤ up P a → Within P a (l - a)
  within_own {a} {l} x r =
      elim (dec_border P a) [
        | yes b ↦ absurd (omega (arith, up_of P pos b))
        | no nb ↦ record { under = omega (arith, up_lt P pos a); in_page = omega (arith, up_down P pos nb) }
      ]

  -- ---- the gap before a live piece, from its end to its start: `go` is what the piece is, behind any entry that it can follow

  module _ {E : ℕ} {m : Class} {b : ℕ} {es : List Piece} (filled : es ≡ [] → ⊥)
      (go : (s : Status) → (¬ Border P b → class_of s ≡ m) → ChainFrom P E s b es) where
    put_next : {s : Status} {l h : ℕ} → High b m l h → (h ≡ b → ¬ Border P b → class_of s ≡ m) → ChainFrom P E s h (free m h b ++ es)
    put_next {s} {l} {h} f g = free_chain m h b es f.h_b entry (λ x. go (Free m) (λ nb. refl)) (λ e. go s (g e))
      where
        within : h < b → Within P h (b - h)
        within x = record { under = omega (arith, f.page); in_page = omega (arith, f.page, down_of P pos (f.at x)) }

        entry : h < b → Entry P s h (b - h) (Free m) es
        entry x = entry_small (f.own x) (omega arith) (within x) (λ nb. absurd (nb (f.at x))) (λ nb i. nb (f.at x))

    put_large : {s : Status} {l h : ℕ} → High b m l h → (l < b → ¬ Border P l → class_of s ≡ Large)
        → (l < b → ¬ Border P l → IsFree s → ⊥) → (s ≡ Free Large → ⊥) → (l ≡ b → ¬ Border P b → class_of s ≡ m)
        → ChainFrom P E s l (free Large l h ++ (free m h b ++ es))
    put_large {s} {l} {h} f c i u g =
        free_chain Large l h (free m h b ++ es) f.l_h
        (λ x. entry_large (omega arith) (c (omega (arith, f.h_b))) (i (omega (arith, f.h_b))) u (λ q. absurd (filled (append_right (free m h b) es q))))
        (λ x. put_next f (λ e nb. absurd (nb (rw e at (f.large_end x)))))
        (λ e. put_next f (λ e' nb. g (e ∙ e') nb))

    put_gap : {k : Class} {a : ℕ} → Apart P k a b m → (m ≡ Large → Border P b) → ChainFrom P E (Live k) a (gap P k a b m ++ es)
    put_gap {k} {a} d al =
        let f : Low k a b m (lo P k a b) = low (view k) d in
        let h : High b m (lo P k a b) (hi P (lo P k a b) b m) = high (lo P k a b) b (view m) f.l_b f.below al in
        rw (gap_is P k a b m refl refl, append_assoc, append_assoc)
        (free_chain k a (lo P k a b) (free Large (lo P k a b) (hi P (lo P k a b) b m) ++ (free m (hi P (lo P k a b) b m) b ++ es)) f.a_l
        (λ x. entry_small (f.own x) (omega arith) (within_own x f.reach) (λ nb. refl) (λ nb i. not_free i))
        (λ x. put_large h (λ y nb. absurd (nb (f.before x y))) (λ y nb i. nb (f.before x y)) (λ q. small_large (f.own x) (cc)) f.meet)
        (λ e. put_large h (f.clear e) (λ y nb i. not_free i) live_free f.meet))

  -- ---- the free entry behind the last piece

  entry_tail : {k : Class} {a : ℕ} → View k → a < up P a → Entry P (Live k) a (up P a - a) (Free k) []
  entry_tail {k} {a} (small s) x = entry_small s (omega arith) (within_own x (omega arith)) (λ nb. refl) (λ nb i. not_free i)
  entry_tail {a = a} large x = entry_large (omega arith) (λ nb. refl) (λ nb i. not_free i) live_free (λ q. omega (arith, up_lt P pos a))

  put_tail : (k : Class) (a : ℕ) → ChainFrom P (up P a) (Live k) a (free k a (up P a))
  put_tail k a =
      rw (← (append-nil (free k a (up P a))))
      (free_chain k a (up P a) [] (up_ge P pos a) (entry_tail (view k)) (λ x. stop refl (up_border P pos a)) (λ e. stop refl (up_border P pos a)))

  cons_filled : (x : Piece) (xs : List Piece) → x ∷ xs ≡ [] → ⊥
  cons_filled x xs q = let z : ◌≡◌ {A = ℕ} 0 1 = cc in omega arith

  pub build : {k : Class} {a : ℕ} {ps : List Piece} → GoodFrom P k a ps → ChainFrom P (up P (last_end a ps)) (Live k) a (fill_from P k a ps)
  unfolding fill_from last_end
  build {k} {a} none = put_tail k a
  build (next {m = m} {b = b} {z = n} {ps = ps} d w g) =
      put_gap (cons_filled (piece b n (Live m)) (fill_from P m (b + n) ps))
      (λ s f. step (entry_live w f) (build g)) d w.aligned

pub fill_chain : {P : ℕ} {ps : List Piece} → 0 < P → Good P ps → Chain P (end_of P ps) (fill P ps)
unfolding fill end_of
fill_chain {P} pos g = build P pos g

pub lives_of_fill : {P : ℕ} {ps : List Piece} → Good P ps → lives (fill P ps) ≡ ps
unfolding fill
lives_of_fill g = lives_fill g
