-- A piece that becomes free in a release, or the cut part of one that is shortened, step by step: it merges, and an emptied page is kind 6.
--
-- In this order: the test of a merge; beside what a free entry may stand; what is known of the freed entry (Open); it merges with the
-- neighbour before it and behind it (Half, Merged); its page is emptied (Settled).
use Prim.Native.Nat.{ℕ, ◌+◌, ◌≤◌, ◌<◌}
use mathlib.Core.Bool.{Bool, true, false, cond, not, ◌&&◌, ◌||◌}
use mathlib.Core.List.{List, [], ◌∷◌, reverse_aux}
use mathlib.Core.Path.{◌≡◌, refl, sym, ap, ◌∙◌}
use native.Mathlib.Omega.{arith}
use lib.Dec.{eqb}
use borrow.Author.Tests.{eqb-true, eqb-false, not-true}
use Rattle.literal.proofs.ChangedChains.{entry_behind, nearest, Upto, add, lives_skip}
use Rattle.literal.specs.Steps.{Freed, merges, merged_before, merged_behind, merged, as_large, emptied}
use Rattle.pages.proofs.Numbers.{split, and_left, and_right, not_both}
use Rattle.pages.proofs.PageLaws.{true_border, false_border, down_le, down_border, down_in, border_next}
use Rattle.pages.specs.Pages.{down, Border, borderb}
use Rattle.pieces.proofs.PieceLaws.{large_small, same_class_lem, class_same}
use Rattle.pieces.specs.Pieces.{piece, class_of, Small, metadata, raw, smallb, same_class, is_free}
use Rattle.pieces.specs.declared.Class.TheVariants.{SmallMetadata, SmallRaw, Large}
use Rattle.pieces.specs.declared.Class.{Class}
use Rattle.pieces.specs.declared.Piece.{Piece}
use Rattle.pieces.specs.declared.Status.TheVariants.{Live, Free}
use Rattle.pieces.specs.declared.Status.{Status}
use Rattle.table.proofs.Chain.{Entry, ChainFrom, stop, step}
use Rattle.table.proofs.ChainLaws.{Alone, alone_live, alone_before}
use Rattle.table.specs.Fill.{lives}

-- ---- the test of a merge

small_true : (k : Class) → smallb k ≡ true → Small k
small_true SmallMetadata h = metadata
small_true SmallRaw h = raw
small_true Large h = absurd (not_both h refl)

true_small : {k : Class} → Small k → smallb k ≡ true
true_small metadata = refl
true_small raw = refl

pub record Merges (P : ℕ) (k : Class) (b : ℕ) (t : Status) : Type 0 where
  pub free : t ≡ Free k
  pub in_page : Small k → ¬ Border P b

or_right : {s t : Bool} → s ≡ false → (s || t) ≡ true → t ≡ true
or_right e h = rw e at h

merges_true : (P : ℕ) (k : Class) (b : ℕ) (t : Status) → merges P k b t ≡ true → Merges P k b t
unfolding merges
merges_true P k b (Live c) h = absurd (not_both h refl)
merges_true P k b (Free c) h =
    let one : Bool = not (smallb k) || not (borderb P b) in
    record {
      free = ap Free (same_class_lem c k (and_left (same_class c k) one h));
      in_page = λ s bo. not_both (true_border bo)
          (not-true (borderb P b) (or_right (ap not (true_small s)) (and_right (same_class c k) one h)));
    }

merges_large : (P b : ℕ) → merges P Large b (Free Large) ≡ true
unfolding merges
merges_large P b = refl

merges_inside : (P : ℕ) (k : Class) (b : ℕ) → ¬ Border P b → merges P k b (Free k) ≡ true
unfolding merges
merges_inside P k b nb = rw (class_same k k refl, false_border P b nb) (any (smallb k))
  where
    any : (t : Bool) → (not t || true) ≡ true
    any true = refl
    any false = refl

-- ---- beside what a free entry may stand

alone_false : {P : ℕ} {k : Class} {b : ℕ} (t : Status) → merges P k b t ≡ false → (¬ Border P b → class_of t ≡ k) → Alone P t b k
alone_false (Live c) h f = alone_live
alone_false {P} {k} {b} (Free c) h f =
    record {
      small = λ nb x. not_both (merges_inside P k b nb) (rw (f nb) at h);
      large = λ x y. let q : c ≡ Large = cc in not_both (merges_large P b) (rw (q, y) at h);
    }

-- behind a free entry
alone_behind : {P E a : ℕ} {k : Class} {es : List Piece} → ChainFrom P E (Free k) a es → Alone P (nearest es) a k
alone_behind (stop q b) = alone_live
alone_behind (step e r) = record { small = λ nb x. e.merged nb is_free x; large = λ x y. e.large_merged (ap Free y) x }

-- the class goes on inside a page
class_behind : {P E a : ℕ} {u : Status} {k : Class} {es : List Piece} → ChainFrom P E u a es → (¬ Border P a → class_of u ≡ k)
    → ¬ Border P a → class_of (nearest es) ≡ k
class_behind (stop q b) f nb = absurd (nb b)
class_behind (step e r) f nb = sym (e.family nb) ∙ f nb

pub chain_free : {P E a : ℕ} {u : Status} {k : Class} {es : List Piece} → ChainFrom P E u a es → (¬ Border P a → class_of u ≡ k)
    → Alone P (nearest es) a k → ChainFrom P E (Free k) a es
chain_free (stop q b) f g = stop q b
chain_free {k = k} (step e r) f g =
    step (entry_behind (Free k) e (λ nb. sym (f nb) ∙ e.family nb) (λ nb x y. g.small nb y) (λ x y. g.large y (cc))) r

-- ---- what is known of the freed entry, where ps are the live pieces around it

abbrev freed : List Piece → Class → ℕ → ℕ → List Piece → Freed
freed ls k a z ys = record { before = ls; class = k; address = a; size = z; rest = ys }

pub record Open (P E : ℕ) (ps : List Piece) (f : Freed) : Type 0 where
  pub upto : Upto P f.address f.before
  pub former : Status
  pub chain : ChainFrom P E former (f.address + f.size) f.rest
  pub some : 0 < f.size
  pub in_page : Small f.class → f.address + f.size ≤ down P f.address + P
  pub left : ¬ Border P f.address → class_of (nearest f.before) ≡ f.class
  pub right : ¬ Border P (f.address + f.size) → class_of former ≡ f.class
  pub others : lives (reverse_aux f.before f.rest) ≡ ps

-- nothing before it to merge with
pub record Half (P E : ℕ) (ps : List Piece) (f : Freed) : Type 0 where
  pub known : Open P E ps f
  pub before : Alone P (nearest f.before) f.address f.class

-- nothing beside it to merge with
pub record Merged (P E : ℕ) (ps : List Piece) (f : Freed) : Type 0 where
  pub known : Open P E ps f
  pub before : Alone P (nearest f.before) f.address f.class
  pub behind : Alone P (nearest f.rest) (f.address + f.size) f.class

module _ (P : ℕ) (pos : 0 < P) where
  -- bytes that stay within the page of a, and end at no border
  pub same_page : (a z : ℕ) → a + z ≤ down P a + P → ¬ Border P (a + z) → down P (a + z) ≡ down P a
  same_page a z h nb =
      split (down P a + P) (a + z)
      (λ l. let q : down P a + P ≡ a + z = omega arith in absurd (nb (rw q at (border_next P pos (down_border P pos a)))))
      (λ l. down_in P pos (down_border P pos a) (omega (arith, down_le P pos a)) l)

  -- ---- it merges with the neighbour before it

  join_before : {E a z : ℕ} {k : Class} {ps ls ys : List Piece} {l : Piece} → Upto P a (l ∷ ls) → Merges P k a l.status
      → Open P E ps (freed (l ∷ ls) k a z ys) → Half P E ps (freed ls k l.address (l.size + z) ys)
  join_before {E} {z = z} {k = k} {ls = ls} {ys = ys} (add {a = b} {z = n} {t = t} {es = es} u e) m o =
      let e' : Entry P (nearest ls) b n (Free k) es = rw m.free at e in
      let i : b + n + z ≡ b + (n + z) = omega arith in
      record {
        known = record {
          upto = u;
          former = o.former;
          chain = rw i at o.chain;
          some = omega (arith, o.some);
          in_page = λ s. omega (arith, o.in_page s, same_page b n (e'.small s).in_page (m.in_page s));
          left = e'.family;
          right = rw i at o.right;
          others = sym (lives_skip ls (piece b n t) ys m.free) ∙ o.others;
        };
        before = alone_before e';
      }

  merged_before_lem : {E : ℕ} {ps : List Piece} (k : Class) (ls : List Piece) (a z : ℕ) (ys : List Piece)
      → Open P E ps (freed ls k a z ys) → Half P E ps (merged_before P k ls a z ys)
  unfolding merged_before
  merged_before_lem k [] a z ys o = record { known = o; before = alone_live }
  merged_before_lem {E} {ps} k (l ∷ ls) a z ys o = go (merges P k a l.status) refl
    where
      go : (t : Bool) → merges P k a l.status ≡ t
          → Half P E ps (cond t (freed ls k l.address (l.size + z) ys) (freed (l ∷ ls) k a z ys))
      go true h = join_before o.upto (merges_true P k a l.status h) o
      go false h = record { known = o; before = alone_false l.status h o.left }

  -- ---- it merges with the neighbour behind it

  join_behind : {E a z : ℕ} {k : Class} {ps ls ys : List Piece} {y : Piece} {u : Status} → ChainFrom P E u (a + z) (y ∷ ys)
      → Merges P k (a + z) y.status → Half P E ps (freed ls k a z (y ∷ ys)) → Merged P E ps (freed ls k a (z + y.size) ys)
  join_behind {E} {a} {z} {k} {ls = ls} {ys = ys} (step {t = t} {n = n} e r) m h =
      let o = h.known in
      let i : a + z + n ≡ a + (z + n) = omega arith in
      let r' : ChainFrom P E (Free k) (a + (z + n)) ys = rw (m.free, i) at r in
      let e' : Entry P _ (a + z) n (Free k) ys = rw m.free at e in
      record {
        known = record {
          upto = o.upto;
          former = Free k;
          chain = r';
          some = omega (arith, o.some);
          in_page = λ s. omega (arith, (e'.small s).in_page, same_page a z (o.in_page s) (m.in_page s));
          left = o.left;
          right = λ nb. refl;
          others = sym (lives_skip ls (piece (a + z) n t) ys m.free) ∙ o.others;
        };
        before = h.before;
        behind = alone_behind r';
      }

  merged_behind_lem : {E : ℕ} {ps : List Piece} (k : Class) (ls : List Piece) (a z : ℕ) (ys : List Piece) → Half P E ps (freed ls k a z ys)
      → Merged P E ps (merged_behind P k ls a z ys)
  unfolding merged_behind
  merged_behind_lem k ls a z [] h = record { known = h.known; before = h.before; behind = alone_live }
  merged_behind_lem {E} {ps} k ls a z (y ∷ ys) h = go (merges P k (a + z) y.status) refl
    where
      go : (t : Bool) → merges P k (a + z) y.status ≡ t
          → Merged P E ps (cond t (freed ls k a (z + y.size) ys) (freed ls k a z (y ∷ ys)))
      go true q = join_behind h.known.chain (merges_true P k (a + z) y.status q) h
      go false q =
          record { known = h.known; before = h.before; behind = alone_false y.status q (class_behind h.known.chain h.known.right) }

  pub merged_open : {E : ℕ} {ps : List Piece} (f : Freed) → Open P E ps f → Merged P E ps (merged P f)
  unfolding merged
  merged_open f o = merged_behind_lem _ _ _ _ _ (merged_before_lem f.class f.before f.address f.size f.rest o)

  -- the class stays

  class_cond : (t : Bool) (f g : Freed) → f.class ≡ g.class → (cond t f g).class ≡ g.class
  class_cond true f g e = e
  class_cond false f g e = refl

  class_before : (k : Class) (ls : List Piece) (a z : ℕ) (ys : List Piece) → (merged_before P k ls a z ys).class ≡ k
  unfolding merged_before
  class_before k [] a z ys = refl
  class_before k (l ∷ ls) a z ys = class_cond (merges P k a l.status) (freed ls k l.address (l.size + z) ys) (freed (l ∷ ls) k a z ys) refl

  class_both : (k : Class) (ls : List Piece) (a z : ℕ) (ys : List Piece) → (merged_behind P k ls a z ys).class ≡ k
  unfolding merged_behind
  class_both k ls a z [] = refl
  class_both k ls a z (y ∷ ys) = class_cond (merges P k (a + z) y.status) (freed ls k a (z + y.size) ys) (freed ls k a z (y ∷ ys)) refl

  class_merged : (f : Freed) → (merged P f).class ≡ f.class
  unfolding merged
  class_merged f = class_both _ _ _ _ _ ∙ class_before f.class f.before f.address f.size f.rest

  -- ---- its page is emptied

  pub record Settled (E : ℕ) (ps : List Piece) (f : Freed) : Type 0 where
    pub merged : Merged P E ps f
    pub under : Small f.class → f.size < P

  -- a free small entry of a page's size fills its page, which can be large
  as_large_lem : {E : ℕ} {ps : List Piece} (f : Freed) → Open P E ps f → Small f.class → f.size ≡ P → Open P E ps (as_large f)
  as_large_lem f o s e =
      let d : down P f.address ≡ f.address = omega (arith, o.in_page s, down_le P pos f.address) in
      let b : Border P f.address = rw d at (down_border P pos f.address) in
      record {
        upto = o.upto;
        former = o.former;
        chain = o.chain;
        some = o.some;
        in_page = λ t. absurd (large_small t refl);
        left = λ nb. absurd (nb b);
        right = λ nb. absurd (nb (rw e (border_next P pos b)));
        others = o.others;
      }

  pub emptied_merged : {E : ℕ} {ps : List Piece} (f : Freed) → Merged P E ps f → Settled E ps (emptied P f)
  unfolding emptied
  emptied_merged {E} {ps} f m = go (smallb f.class) (eqb f.size P) refl refl
    where
      under : (eqb f.size P) ≡ false → Small f.class → f.size < P
      under h s =
          split P f.size
          (λ l. absurd (eqb-false f.size P h (omega (arith, m.known.in_page s, down_le P pos f.address))))
          (λ l. l)

      go : (s t : Bool) → smallb f.class ≡ s → eqb f.size P ≡ t → Settled E ps (cond (s && t) (merged P (as_large f)) f)
      go true true x y =
          let n = merged_open (as_large f) (as_large_lem f m.known (small_true f.class x) (eqb-true f.size P y)) in
          record { merged = n; under = λ s. absurd (large_small s (sym (class_merged (as_large f)))) }
      go true false x y = record { merged = m; under = under y }
      go false t x y = record { merged = m; under = λ s. absurd (not_both (true_small s) x) }
