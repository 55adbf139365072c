-- A chain is the table that its live pieces determine, and so is its end.
--
--   after         what follows a free entry: how the live pieces that are left begin (Next)
--   widen         what a free entry does before the rest of the table (Widen)
--   canon         the whole, by one induction over the chain: behind a free entry the rest is filled just as behind a live one
--   canonical     the same of a whole table
--
-- Assumes nothing.
use Prim.Native.Nat.{ℕ, ◌+◌, ◌≤◌, ◌<◌, max}
use mathlib.Core.List.{List, [], ◌∷◌}
use mathlib.Core.Path.{◌≡◌, refl, sym, ap, ◌∙◌}
use native.Mathlib.Omega.{arith}
use Rattle.pages.proofs.PageLaws.{dec_border, down_in, up_in, up_of, down_most, up_mono, not_border, up_down}
use Rattle.pages.specs.Pages.{down, up, Border}
use Rattle.pieces.proofs.PieceLaws.{View, small, large, view, large_small}
use Rattle.pieces.specs.Pieces.{piece, class_of, Small, is_free}
use Rattle.pieces.specs.declared.Class.TheVariants.{Large}
use Rattle.pieces.specs.declared.Class.{Class}
use Rattle.pieces.specs.declared.Piece.{Piece}
use Rattle.pieces.specs.declared.Status.TheVariants.{Live, Free}
use Rattle.pieces.specs.declared.Status.{Status}
use Rattle.table.proofs.Chain.{Entry, ChainFrom, stop, step, Chain}
use Rattle.table.proofs.GapLaws.{free_none, free_here, free_some, lo_small, lo_large, hi_small, hi_large}
use Rattle.table.proofs.GapLaws.{gap_is, hi_here, lo_border, gap_here, apart_le}
use Rattle.table.specs.Fill.{lives, free, lo, hi, gap, fill_from, fill, last_end, end_of}
use Rattle.table.specs.Fill.{Within, Whole, Apart, border_between, one_family, GoodFrom, none, next, Good}

module _ (P : ℕ) (pos : 0 < P) where
  -- ---- what follows a free entry: the live pieces that are left begin so

  pub data Next : Class → ℕ → List Piece → Type 0 where
    at_border : {c : Class} {e : ℕ} {ps : List Piece} → Small c → Border P e → Next c e ps
    at_live : {c m : Class} {e n : ℕ} {ps : List Piece} → Small c → ¬ Border P e → c ≡ m → Next c e (piece e n (Live m) ∷ ps)
    large_none : {e : ℕ} → Border P e → Next Large e []
    large_next : {m : Class} {e b n : ℕ} {ps : List Piece} → Border P e → e ≤ b → hi P e b m ≡ e
        → Next Large e (piece b n (Live m) ∷ ps)

  after_off : {E : ℕ} {c : Class} {e : ℕ} {es : List Piece} → Small c → ¬ Border P e → ChainFrom P E (Free c) e es → Next c e (lives es)
  unfolding lives
  after_off h nb (stop q b) = absurd (nb b)
  after_off h nb (step {t = Live m} y r) = at_live h nb (y.family nb)
  after_off h nb (step {t = Free m} y r) = absurd (y.merged nb is_free is_free)

  -- a border stands where a large entry meets one of another class
  border_at : {s t : Status} {a n : ℕ} {es : List Piece} → (class_of s ≡ class_of t → ⊥) → Entry P s a n t es → Border P a
  border_at {a = a} no_way y = elim (dec_border P a) [ yes b ↦ b | no nb ↦ absurd (no_way (y.family nb)) ]

  -- before a small piece that starts in the page of the border e, the free bytes from e on are of its class
  hi_within : {m : Class} {e n : ℕ} → Small m → Border P e → Within P e n → hi P e (e + n) m ≡ e
  hi_within {e = e} {n = n} s b w =
      let d : down P (e + n) ≡ e = down_in P pos {x = e} {y = e + n} b (omega arith) (omega (arith, w.under)) in
      hi_small P e (e + n) s ∙ omega arith

  small_off : {c : Class} {e n : ℕ} {ps : List Piece} → Small c → Border P e → Within P e n → Next c (e + n) ps → 0 < n → Next Large e ps
  small_off {e = e} {n = n} h b w (at_border k b') s = absurd (not_border P pos b (omega arith) (omega (arith, w)) b')
  small_off {e = e} {n = n} h b w (at_live {m = m} k nb q) s =
      large_next {b = e + n} b (omega arith) (hi_within (rw q at k) b w)
  small_off h b w (large_none b') s = absurd (large_small h refl)
  small_off h b w (large_next b' l q) s = absurd (large_small h refl)

  large_live : {m : Class} {e n : ℕ} {es ps : List Piece} → View m → Entry P (Free Large) e n (Live m) es → Next Large e (piece e n (Live m) ∷ ps)
  large_live {m} {e} (small s) y = large_next {b = e} (border_at (large_small s) y) (omega arith) (hi_here P pos m e)
  large_live {e = e} large y = large_next {b = e} (y.aligned refl) (omega arith) (hi_here P pos Large e)

  large_free : {E : ℕ} {m : Class} {e n : ℕ} {es : List Piece} → View m → Entry P (Free Large) e n (Free m) es
      → ChainFrom P E (Free m) (e + n) es → Next Large e (lives es)
  large_free {e = e} {n = n} (small s) y r =
      let b : Border P e = border_at (large_small s) y in
      let w : Within P e n = y.small s in
      let nb : ¬ Border P (e + n) = not_border P pos b (omega (arith, y.some)) (omega (arith, w)) in
      small_off s b w (after_off s nb r) y.some
  large_free large y r = absurd (y.large_merged refl refl)

  after_large : {E e : ℕ} {es : List Piece} → ChainFrom P E (Free Large) e es → Next Large e (lives es)
  unfolding lives
  after_large (stop q b) = large_none b
  after_large (step {t = Live m} y r) = large_live (view m) y
  after_large (step {t = Free m} y r) = large_free (view m) y r

  pub after : {E : ℕ} {c : Class} {e : ℕ} {es : List Piece} → View c → ChainFrom P E (Free c) e es → Next c e (lives es)
  after {e = e} (small s) r = elim (dec_border P e) [ yes b ↦ at_border s b | no nb ↦ after_off s nb r ]
  after large r = after_large r

  -- ---- the theorem

  pub record Canon (E : ℕ) (s : Status) (a : ℕ) (es : List Piece) : Type 0 where
    pub filled : es ≡ fill_from P (class_of s) a (lives es)
    pub ends : E ≡ up P (last_end a (lives es))
    pub good : GoodFrom P (class_of s) a (lives es)

  canon_stop : {E : ℕ} (s : Status) {a : ℕ} → a ≡ E → Border P a → Canon E s a []
  unfolding fill_from lives last_end
  canon_stop s {a} q b =
      let u : up P a ≡ a = up_of P pos b in
      record { filled = sym (free_none (class_of s) a (up P a) (omega arith)); ends = omega arith; good = none }

  off_small : {s : Status} {a n : ℕ} {m : Class} {es : List Piece} → View m → ¬ Border P a → Entry P s a n (Live m) es → Small m
  off_small (small h) nb y = h
  off_small large nb y = absurd (nb (y.aligned refl))

  pub live_apart : {s : Status} {a n : ℕ} {m : Class} {es : List Piece} → Entry P s a n (Live m) es → Apart P (class_of s) a a m
  live_apart {s} {a} {n} {m} y =
      elim (dec_border P a) [
        | yes b ↦ border_between (omega (arith, up_of P pos b))
        | no nb ↦ one_family (omega arith) (rw (y.family nb) (off_small (view m) nb y)) (y.family nb)
      ]

  pub live_whole : {s : Status} {a n : ℕ} {m : Class} {es : List Piece} → Entry P s a n (Live m) es → Whole P m a n
  live_whole y =
      record { some = y.some; small = y.small; aligned = λ q. y.aligned (ap Live q); whole = λ q. y.whole (ap Live q) }

  canon_live : {E : ℕ} {s : Status} {a n : ℕ} {m : Class} {es : List Piece} → Entry P s a n (Live m) es → Canon E (Live m) (a + n) es
      → Canon E s a (piece a n (Live m) ∷ es)
  unfolding fill_from lives last_end
  canon_live {s = s} {a = a} {n = n} {m = m} {es = es} y r =
      record {
        filled = rw (gap_here P pos (class_of s) m a) (ap (λ (l : List Piece). piece a n (Live m) ∷ l) r.filled);
        ends = r.ends;
        good = next (live_apart y) (live_whole y) r.good;
      }

  -- ---- a free entry from a to a + n before the rest: the gap that it begins

  -- an entry of less than a page that ends at a border starts at none
  off_before : {a n : ℕ} → Border P (a + n) → 0 < n → n < P → ¬ Border P a
  off_before b p u h = not_border P pos h (omega arith) (omega arith) b

  tail_widen : (k c : Class) (a n : ℕ) → Border P (a + n) → 0 < n → n < P → k ≡ c
      → free k a (up P a) ≡ piece a n (Free c) ∷ free c (a + n) (up P (a + n))
  tail_widen k c a n b p u q =
      let u1 : up P a ≡ a + n = up_in P pos b (omega arith) (omega arith) in
      let u2 : up P (a + n) ≡ a + n = up_of P pos b in
      cc (free_some c a n p, free_here c (a + n))

  gap_widen_border : (k c m : Class) (a n b : ℕ) → Small c → Border P (a + n) → 0 < n → n < P → k ≡ c → a + n ≤ b
      → gap P k a b m ≡ piece a n (Free c) ∷ gap P c (a + n) b m
  gap_widen_border k c m a n b h bo p u q l =
      let u1 : up P a ≡ a + n = up_in P pos bo (omega arith) (omega arith) in
      let l1 : lo P c a b ≡ a + n = lo_small P a b h ∙ omega arith in
      let l2 : lo P c (a + n) b ≡ a + n = lo_border P pos c bo l in
      rw (q, gap_is P c a b m l1 refl, gap_is P c (a + n) b m l2 refl, free_some c a n p, free_here c (a + n)) refl

  -- a small entry ends within its page, at the next piece
  gap_widen_live : (k c m : Class) (a n : ℕ) → Small c → Within P a n → 0 < n → (¬ Border P a → k ≡ c) → c ≡ m
      → gap P k a (a + n) m ≡ piece a n (Free c) ∷ gap P c (a + n) (a + n) m
  gap_widen_live k c m a n h w p f q = elim (dec_border P a) [ yes b ↦ on b | no nb ↦ off nb ]
    where
      on : Border P a → gap P k a (a + n) m ≡ piece a n (Free c) ∷ gap P c (a + n) (a + n) m
      on b =
          let l1 : lo P k a (a + n) ≡ a = lo_border P pos k b (omega arith) in
          let h1 : hi P a (a + n) m ≡ a = hi_within (rw q at h) b w in
          rw (gap_is P k a (a + n) m l1 h1, gap_here P pos c m (a + n), free_here k a, free_here Large a, free_some m a n p, q) refl

      off : ¬ Border P a → gap P k a (a + n) m ≡ piece a n (Free c) ∷ gap P c (a + n) (a + n) m
      off nb =
          let l1 : lo P c a (a + n) ≡ a + n = lo_small P a (a + n) h ∙ omega (arith, w, up_down P pos nb) in
          let h1 : hi P (a + n) (a + n) m ≡ a + n = hi_here P pos m (a + n) in
          rw (f nb, gap_is P c a (a + n) m l1 h1, gap_here P pos c m (a + n), free_some c a n p, free_here Large (a + n), free_here m (a + n)) refl

  hi_move : {m : Class} {a e b : ℕ} → View m → Border P e → a ≤ e → e ≤ b → hi P e b m ≡ e → hi P a b m ≡ e
  hi_move {a = a} {e = e} {b = b} (small h) bo l1 l2 q =
      let q' : max e (down P b) ≡ e = sym (hi_small P e b h) ∙ q in
      hi_small P a b h ∙ omega (arith, down_most P pos bo l2)
  hi_move {a = a} {e = e} {b = b} large bo l1 l2 q = hi_large P a b ∙ (sym (hi_large P e b) ∙ q)

  lo_start : (k : Class) (a b : ℕ) → a ≤ b → (¬ Border P a → k ≡ Large) → lo P k a b ≡ a
  lo_start k a b l f = elim (dec_border P a) [ yes bo ↦ lo_border P pos k bo l | no nb ↦ rw (f nb) (lo_large P a b) ]

  gap_widen_large : (k m : Class) (a n b : ℕ) → Border P (a + n) → 0 < n → (¬ Border P a → k ≡ Large) → a + n ≤ b
      → hi P (a + n) b m ≡ a + n → gap P k a b m ≡ piece a n (Free Large) ∷ gap P Large (a + n) b m
  gap_widen_large k m a n b bo p f l q =
      let l1 : lo P k a b ≡ a = lo_start k a b (omega arith) f in
      let l2 : lo P Large (a + n) b ≡ a + n = lo_large P (a + n) b in
      let h1 : hi P a b m ≡ a + n = hi_move (view m) bo (omega arith) l q in
      rw (gap_is P k a b m l1 h1, gap_is P Large (a + n) b m l2 q, free_here k a, free_some Large a n p, free_here Large (a + n)) refl

  pub apart_widen : {k c m : Class} {a b : ℕ} (n : ℕ) → (¬ Border P a → k ≡ c) → Apart P c (a + n) b m → Apart P k a b m
  apart_widen {a = a} n f (border_between h) = border_between (omega (arith, up_mono P pos {a = a} {b = a + n} (omega arith)))
  apart_widen {a = a} n f (one_family l s q) =
      elim (dec_border P a) [
        | yes b ↦ border_between (omega (arith, up_of P pos b))
        | no nb ↦ one_family (omega arith) (rw (f nb) s) (f nb ∙ q)
      ]

  -- what a free entry does before the rest of the table
  pub record Widen (k : Class) (a n : ℕ) (c : Class) (ps : List Piece) : Type 0 where
    pub filled : fill_from P k a ps ≡ piece a n (Free c) ∷ fill_from P c (a + n) ps
    pub ends : up P (last_end a ps) ≡ up P (last_end (a + n) ps)
    pub good : GoodFrom P k a ps
    pub gaps : (b z : ℕ) (m : Class) (qs : List Piece) → ps ≡ piece b z (Live m) ∷ qs → gap P k a b m ≡ piece a n (Free c) ∷ gap P c (a + n) b m

  widen_none : {k c : Class} {a n : ℕ} → Border P (a + n) → 0 < n → n < P → k ≡ c → Widen k a n c []
  unfolding fill_from last_end
  widen_none {k} {c} {a} {n} b p u q =
      record {
        filled = tail_widen k c a n b p u q;
        ends = up_in P pos b (omega arith) (omega arith) ∙ sym (up_of P pos b);
        good = none;
        gaps = λ b z m qs e. let x : ◌≡◌ {A = ℕ} 0 1 = cc in absurd (omega arith);
      }

  widen_next : {k c m : Class} {a n b z : ℕ} {ps : List Piece} → gap P k a b m ≡ piece a n (Free c) ∷ gap P c (a + n) b m
      → (¬ Border P a → k ≡ c) → GoodFrom P c (a + n) (piece b z (Live m) ∷ ps) → Widen k a n c (piece b z (Live m) ∷ ps)
  unfolding fill_from last_end
  widen_next {k} {c} {m} {a} {n} {b} {z} {ps} g f (next d w r) =
      record {
        filled = rw g;
        ends = refl;
        good = next (apart_widen n f d) w r;
        gaps = λ b' z' m' qs e.
            let q : piece b z (Live m) ≡ piece b' z' (Live m') = cc in
            let i : b ≡ b' = ap (λ (p : Piece). p.address) q in
            let j : m ≡ m' = ap (λ (p : Piece). class_of p.status) q in
            rw (← i, ← j) g;
      }

  -- by what follows the free entry
  widen : {s : Status} {a n : ℕ} {c : Class} {es ps : List Piece} → Entry P s a n (Free c) es → es ≡ fill_from P c (a + n) ps → Next c (a + n) ps
      → GoodFrom P c (a + n) ps → Widen (class_of s) a n c ps
  unfolding fill_from
  widen {s} {a} {n} {c} y q (at_border h b) none =
      let u : n < P = (y.small h).under in
      widen_none b y.some u (y.family (off_before b y.some u))
  widen {s} {a} {n} {c} y q (at_border h b) (next {m = m} {b = x} d w r) =
      let u : n < P = (y.small h).under in
      let k : class_of s ≡ c = y.family (off_before b y.some u) in
      widen_next (gap_widen_border (class_of s) c m a n x h b y.some u k (apart_le P pos d)) y.family (next d w r)
  widen {s} {a} {n} {c} y q (at_live {m = m} h nb e) g =
      widen_next (gap_widen_live (class_of s) c m a n h (y.small h) y.some y.family e) y.family g
  widen {s} {a} {n} y q (large_none b) g =
      let nil = q ∙ free_none Large (a + n) (up P (a + n)) (omega (arith, up_of P pos b)) in
      let u : n < P = y.cut nil refl in
      widen_none b y.some u (y.family (off_before b y.some u))
  widen {s} {a} {n} y q (large_next {m = m} {b = x} b l e) g =
      widen_next (gap_widen_large (class_of s) m a n x b y.some y.family l e) y.family g

  canon_free : {E : ℕ} {s : Status} {a n : ℕ} {c : Class} {es : List Piece} → Canon E (Free c) (a + n) es → Widen (class_of s) a n c (lives es)
      → Canon E s a (piece a n (Free c) ∷ es)
  unfolding lives
  canon_free {s = s} {a = a} {n = n} {c = c} {es = es} r w =
      record {
        filled = ap (λ (l : List Piece). piece a n (Free c) ∷ l) r.filled ∙ sym w.filled;
        ends = r.ends ∙ sym w.ends;
        good = w.good;
      }

  pub canon : {E : ℕ} {s : Status} {a : ℕ} {es : List Piece} → ChainFrom P E s a es → Canon E s a es
  canon {s = s} (stop q b) = canon_stop s q b
  canon (step {t = Live m} y r) = canon_live y (canon r)
  canon (step {t = Free c} y r) =
      let i = canon r in
      canon_free i (widen y i.filled (after (view c) r) i.good)

  pub widened : {E : ℕ} {s : Status} {a n : ℕ} {c : Class} {es : List Piece} → Entry P s a n (Free c) es → ChainFrom P E (Free c) (a + n) es
      → Widen (class_of s) a n c (lives es)
  widened {c = c} y r = let i = canon r in widen y i.filled (after (view c) r) i.good

pub canonical : {P E : ℕ} {es : List Piece} → 0 < P → Chain P E es → (es ≡ fill P (lives es)) × (E ≡ end_of P (lives es)) × Good P (lives es)
unfolding fill end_of
canonical {P} pos h = let c = canon P pos h in (c.filled, c.ends, c.good)
