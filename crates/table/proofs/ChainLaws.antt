-- Laws of a chain.
--
--   entry_live          what a live entry of a chain has to show
--   Alone, entry_free   a free entry and its neighbour do not have to merge; what a free entry has to show
--   free_chain          a free entry before a chain, if there is a byte for it
--   chain_le, chain_border_end     a chain starts at or below its end, and ends at a border
--   chain_end, chain_last          there is no entry behind the end, and where there is none the file ends
--   mem_from, one_at    an entry of a chain starts at its start or behind it; no two start at one address
--
-- Assumes nothing.
use Prim.Native.Nat.{ℕ, ◌+◌, ◌-◌, ◌≤◌, ◌<◌}
use mathlib.Core.List.{List, [], ◌++◌, Memᴰ, cons≢nil}
use mathlib.Core.Path.{◌≡◌, refl, sym, ap, ◌∙◌}
use native.Mathlib.Omega.{arith}
use Rattle.pages.proofs.Numbers.{split}
use Rattle.pages.specs.Pages.{Border}
use Rattle.pieces.proofs.PieceLaws.{live_free, not_free}
use Rattle.pieces.specs.Pieces.{class_of, Small, IsFree, is_free}
use Rattle.pieces.specs.declared.Class.TheVariants.{Large}
use Rattle.pieces.specs.declared.Class.{Class}
use Rattle.pieces.specs.declared.Piece.{Piece}
use Rattle.pieces.specs.declared.Status.TheVariants.{Live, Free}
use Rattle.pieces.specs.declared.Status.{Status}
use Rattle.table.proofs.Chain.{Entry, ChainFrom, stop, step}
use Rattle.table.proofs.GapLaws.{free_none, free_cons}
use Rattle.table.specs.Fill.{free, Within, Whole}

pub entry_live : {P : ℕ} {s : Status} {a z : ℕ} {k : Class} {es : List Piece} → Whole P k a z → (¬ Border P a → class_of s ≡ k)
    → Entry P s a z (Live k) es
entry_live w f =
    record {
      some = w.some;
      small = w.small;
      aligned = λ q. w.aligned (cc);
      whole = λ q. w.whole (cc);
      family = f;
      merged = λ nb x y. not_free y;
      large_merged = λ x y. live_free y;
      cut = λ x y. absurd (live_free y);
    }

-- a free entry of class c and a neighbour of status s that meet at a do not have to merge
pub record Alone (P : ℕ) (s : Status) (a : ℕ) (c : Class) : Type 0 where
  pub small : ¬ Border P a → IsFree s → ⊥
  pub large : s ≡ Free Large → c ≡ Large → ⊥

pub alone_live : {P b : ℕ} {k c : Class} → Alone P (Live k) b c
alone_live = record { small = λ nb x. not_free x; large = λ x y. live_free x }

-- before a free entry
pub alone_before : {P a z : ℕ} {s : Status} {k : Class} {es : List Piece} → Entry P s a z (Free k) es → Alone P s a k
alone_before e = record { small = λ nb x. e.merged nb x is_free; large = λ x y. e.large_merged x (ap Free y) }

pub entry_free : {P : ℕ} {s : Status} {a z : ℕ} {c : Class} {es : List Piece} → 0 < z → (Small c → Within P a z)
    → (¬ Border P a → class_of s ≡ c) → Alone P s a c → (es ≡ [] → c ≡ Large → z < P) → Entry P s a z (Free c) es
entry_free p w f g h =
    record {
      some = p;
      small = w;
      aligned = λ q. absurd (live_free (sym q));
      whole = λ q. absurd (live_free (sym q));
      family = f;
      merged = λ nb x y. g.small nb x;
      large_merged = λ x y. g.large x (cc);
      cut = λ x y. h x (cc);
    }

-- a free entry from a to b, if there is a byte between them, before a chain from b on
pub free_chain : {P E : ℕ} {s : Status} (c : Class) (a b : ℕ) (es : List Piece) → a ≤ b → (a < b → Entry P s a (b - a) (Free c) es)
    → (a < b → ChainFrom P E (Free c) b es) → (a ≡ b → ChainFrom P E s b es) → ChainFrom P E s a (free c a b ++ es)
free_chain c a b es l y r z =
    split b a (λ h. let e : a ≡ b = omega arith in rw (free_none c a b h, e) (z e))
    (λ h. let e : a + (b - a) ≡ b = omega arith in rw (free_cons c a b h) (step {es = es} (y h) (rw e (r h))))

pub chain_le : {P E : ℕ} {s : Status} {a : ℕ} {es : List Piece} → ChainFrom P E s a es → a ≤ E
chain_le (stop q b) = omega arith
chain_le (step e r) = omega (arith, chain_le r)

pub chain_border_end : {P E : ℕ} {s : Status} {a : ℕ} {es : List Piece} → ChainFrom P E s a es → Border P E
chain_border_end (stop q b) = rw q at b
chain_border_end (step e r) = chain_border_end r

pub chain_end : {P E : ℕ} {s : Status} {a : ℕ} {es : List Piece} → ChainFrom P E s a es → a ≡ E → es ≡ []
chain_end (stop q b) e = refl
chain_end (step y r) e = absurd (omega (arith, chain_le r, y.some))

pub chain_last : {P E : ℕ} {s : Status} {a : ℕ} {es : List Piece} → ChainFrom P E s a es → es ≡ [] → a ≡ E
chain_last (stop q b) e = q
chain_last (step y r) e = absurd (cons≢nil e)

pub mem_from : {P E : ℕ} {s : Status} {a : ℕ} {es : List Piece} {x : Piece} → ChainFrom P E s a es → Memᴰ x es → a ≤ x.address
mem_from (step {a = a} y r) (Memᴰ.head e) = omega (arith, ap (λ (p : Piece). p.address) e)
mem_from (step {a = a} y r) (Memᴰ.tail m) = omega (arith, mem_from r m)
mem_from {P = P} {E = E} (stop {s = s} {a = a} _ _) x12 = elim x12 [ ]

pub one_at : {P E : ℕ} {s : Status} {a : ℕ} {es : List Piece} {x y : Piece} → ChainFrom P E s a es → Memᴰ x es → Memᴰ y es
    → x.address ≡ y.address → x ≡ y
one_at (step v r) (Memᴰ.head e) (Memᴰ.head f) q = e ∙ sym f
one_at (step v r) (Memᴰ.head e) (Memᴰ.tail j) q = absurd (omega (arith, v.some, mem_from r j, ap (λ (p : Piece). p.address) e))
one_at (step v r) (Memᴰ.tail i) (Memᴰ.head f) q = absurd (omega (arith, v.some, mem_from r i, ap (λ (p : Piece). p.address) f))
one_at (step v r) (Memᴰ.tail i) (Memᴰ.tail j) q = one_at r i j q
one_at {P = P} {E = E} {y = y} (stop {s = s} {a = a} _ _) x20 _ q = elim x20 [ ]
