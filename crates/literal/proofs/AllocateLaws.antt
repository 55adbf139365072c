-- Allocating, step by step: what each rule makes of a table is a table.
--
-- In this order: one entry is replaced, or entries come behind the last; bytes that the large rule gives (Grant), and the remainder behind
-- them; the large rule in a free large entry and at the end; bytes from the start of a free entry on, and a small piece there.
use Prim.Native.Nat.{ℕ, suc, ◌+◌, ◌-◌, ◌≤◌, ◌<◌}
use mathlib.Core.List.{List, [], ◌∷◌, ◌++◌, append-nil, append_assoc, cons≢nil, append-ne-nil_of_right_ne-nil}
use mathlib.Core.Path.{◌≡◌, refl, ap}
use native.Mathlib.Omega.{arith}
use lib.ListN.{take, drop}
use Rattle.literal.proofs.ChangedChains.{entry_before, chain_live, chain_border}
use Rattle.literal.specs.Steps.{in_place_of, into_large, at_end, large_piece, into_small, small_page}
use Rattle.pages.proofs.PageLaws.{down_le, down_border, down_most, down_of, up_border, up_ge, up_lt, border_next, border_sum}
use Rattle.pages.specs.Pages.{down, up, Border}
use Rattle.pieces.proofs.PieceLaws.{large, large_small, small_large, live_free, not_free}
use Rattle.pieces.specs.Pieces.{piece, behind, class_of, Small, EntryIs, entry_here, entry_later}
use Rattle.pieces.specs.declared.Class.TheVariants.{Large}
use Rattle.pieces.specs.declared.Class.{Class}
use Rattle.pieces.specs.declared.Piece.{Piece}
use Rattle.pieces.specs.declared.Status.TheVariants.{Live, Free}
use Rattle.pieces.specs.declared.Status.{Status}
use Rattle.table.proofs.Canon.{Next, large_none, large_next, at_border, at_live, after}
use Rattle.table.proofs.Chain.{Entry, ChainFrom, stop, step}
use Rattle.table.proofs.ChainLaws.{entry_live, free_chain, chain_border_end, alone_live, alone_before, entry_free}
use Rattle.table.specs.Fill.{free, Within, Whole}

-- ---- one entry is replaced

pub in_place_split : (f : Piece → List Piece) {es : List Piece} {i : ℕ} {x : Piece} → EntryIs es i x
    → in_place_of i f es ≡ take i es ++ (f x ++ drop (suc i) es)
unfolding in_place_of
in_place_split f entry_here = refl
in_place_split f (entry_later {y = y} q) = ap (λ (l : List Piece). y ∷ l) (in_place_split f q)

-- the entries of xs stand in the place of the entry x
pub record Replaces (P E : ℕ) (xs : List Piece) (x : Piece) : Type 0 where
  pub some : (ys : List Piece) → xs ++ ys ≡ [] → ⊥
  pub chain : (s : Status) (ys : List Piece) → Entry P s x.address x.size x.status ys → ChainFrom P E x.status (behind x) ys
      → ChainFrom P E s x.address (xs ++ ys)

in_place_some : (f : Piece → List Piece) {es : List Piece} {i : ℕ} {x : Piece} → EntryIs es i x
    → ((ys : List Piece) → f x ++ ys ≡ [] → ⊥) → in_place_of i f es ≡ [] → ⊥
unfolding in_place_of
in_place_some f (entry_here {es = ys}) h q = h ys q
in_place_some f (entry_later e) h q = cons≢nil q

pub in_place_chain : {P E a : ℕ} {s : Status} (f : Piece → List Piece) {es : List Piece} {i : ℕ} {x : Piece} → EntryIs es i x
    → Replaces P E (f x) x → ChainFrom P E s a es → ChainFrom P E s a (in_place_of i f es)
unfolding in_place_of
in_place_chain {s = s} f (entry_here {es = ys}) h (step e r) = h.chain s ys e r
in_place_chain {a = a} f (entry_later {es = ys} {i = i} q) h (step {n = n} e r) =
    step (entry_before (in_place_of i f ys) e (λ x y. absurd (in_place_some f q h.some x))) (in_place_chain {a = a + n} f q h r)

-- ---- entries come behind the last

pub append_chain : {P E a : ℕ} {s : Status} {es : List Piece} (E' : ℕ) (new : List Piece) → (new ≡ [] → ⊥)
    → (Border P E → (s : Status) → ChainFrom P E' s E new) → ChainFrom P E s a es → ChainFrom P E' s a (es ++ new)
append_chain {s = s} E' new h g (stop q b) = rw q (g (rw q at b) s)
append_chain E' new h g (step {es = es} e r) =
    step (entry_before (es ++ new) e (λ q. absurd (append-ne-nil_of_right_ne-nil es h q))) (append_chain E' new h g r)

module _ (P : ℕ) (pos : 0 < P) where
  -- ---- bytes that the large rule gives

  -- q bytes at b are those of new, the last of which has the status u
  pub record Grant (b q : ℕ) (new : List Piece) (u : Status) : Type 0 where
    pub page : P ≤ q
    pub some : (ys : List Piece) → new ++ ys ≡ [] → ⊥
    pub chain : (E : ℕ) (s : Status) (ys : List Piece) → ChainFrom P E u (b + q) ys → ChainFrom P E s b (new ++ ys)
    pub inside : ¬ Border P (b + q) → u ≡ Live Large
    pub not_large : u ≡ Free Large → ⊥

  pub grant_large : {b s : ℕ} → Border P b → P ≤ s → Grant b s (large_piece s b) (Live Large)
  unfolding large_piece
  grant_large {b} {s} bo h =
      record {
        page = h;
        some = λ ys q. cons≢nil q;
        chain = λ E s ys r. step (entry_live whole (λ nb. absurd (nb bo))) r;
        inside = λ nb. refl;
        not_large = live_free;
      }
    where
      whole : Whole P Large b s
      whole = record { some = omega arith; small = λ q. absurd (large_small q refl); aligned = λ q. bo; whole = λ q. h }

  -- the rest of a page behind a small piece at its start
  page_rest : {E b s : ℕ} {k : Class} (ys : List Piece) → Border P b → Small k → 0 < s → s < P
      → ChainFrom P E (Free k) (b + P) ys → ChainFrom P E (Live k) (b + s) (free k (b + s) (b + P) ++ ys)
  page_rest {E} {b} {s} {k} ys bo t p h r =
      free_chain k (b + s) (b + P) ys (omega arith) entry (λ m. r) (λ i. absurd (omega arith))
    where
      entry : b + s < b + P → Entry P (Live k) (b + s) (b + P - (b + s)) (Free k) ys
      entry m =
          entry_free (omega arith)
          (λ q. record { under = omega arith; in_page = omega (arith, down_most P pos {a = b + s} bo (omega arith)) })
          (λ nb. refl) alone_live (λ q e. absurd (small_large t e))

  pub grant_page : {b s : ℕ} {k : Class} → Border P b → Small k → 0 < s → s < P → Grant b P (small_page P k s b) (Free k)
  unfolding small_page
  grant_page {b} {s} {k} bo t p h =
      record {
        page = omega arith;
        some = λ ys q. cons≢nil q;
        chain = λ E u ys r. step (entry_live whole (λ nb. absurd (nb bo))) (page_rest ys bo t p h r);
        inside = λ nb. absurd (nb (border_next P pos bo));
        not_large = λ q. small_large t (cc);
      }
    where
      whole : Whole P k b s
      whole =
          record {
            some = p;
            small = λ q. record { under = h; in_page = omega (arith, down_of P pos bo) };
            aligned = λ q. bo;
            whole = λ q. absurd (small_large t q);
          }

  -- a free large entry ends at a border
  large_ends : {E a : ℕ} {es : List Piece} → ChainFrom P E (Free Large) a es → Border P a
  large_ends r = go (after P pos large r) refl
    where
      go : {c : Class} {e : ℕ} {ps : List Piece} → Next P pos c e ps → c ≡ Large → Border P e
      go (at_border s b) q = b
      go (at_live s nb e) q = absurd (small_large s q)
      go (large_none b) q = b
      go (large_next b l e) q = b

  -- the remainder behind them is kind 6
  pub remainder : {E b q : ℕ} {new : List Piece} {u : Status} (e : ℕ) (ys : List Piece) → Grant b q new u → b + q ≤ e
      → (ys ≡ [] → e < b + q + P) → ChainFrom P E (Free Large) e ys → ChainFrom P E u (b + q) (free Large (b + q) e ++ ys)
  remainder {E} {b} {q} {new} {u} e ys g l h r =
      free_chain Large (b + q) e ys l entry (λ m. r) (λ i. chain_border u (large_ends r) g.not_large r)
    where
      entry : b + q < e → Entry P u (b + q) (e - (b + q)) (Free Large) ys
      entry m =
          entry_free (omega arith) (λ t. absurd (large_small t refl)) (λ nb. ap class_of (g.inside nb))
          (record { small = λ nb x. not_free (rw (g.inside nb) at x); large = λ x z. g.not_large x })
          (λ z i. omega (arith, h z))

  -- ---- the large rule in a free large entry

  module _ (E q a z : ℕ) {new : List Piece} {u : Status} (g : Grant (up P a) q new u) (room : up P a + q ≤ a + z) where
    -- what lies after the bytes given, and the entries behind
    abbrev after_given : List Piece → List Piece
    after_given ys = free Large (up P a + q) (a + z) ++ ys

    given : (s : Status) (ys : List Piece) → (ys ≡ [] → z < P) → ChainFrom P E (Free Large) (a + z) ys
        → ChainFrom P E s (up P a) (new ++ after_given ys)
    given s ys h r = g.chain E s (after_given ys) (remainder (a + z) ys g room (λ e. omega (arith, h e, up_ge P pos a)) r)

    -- what lies before them
    front : {s : Status} {ys : List Piece} → a < up P a → Entry P s a z (Free Large) ys
        → Entry P s a (up P a - a) (Free Large) (new ++ after_given ys)
    front {ys = ys} l e =
        entry_free (omega arith) (λ t. absurd (large_small t refl)) e.family (alone_before e)
        (λ x y. absurd (g.some (after_given ys) x))

    around_given : (s : Status) (ys : List Piece) → Entry P s a z (Free Large) ys → ChainFrom P E (Free Large) (a + z) ys
        → ChainFrom P E s a (free Large a (up P a) ++ (new ++ after_given ys))
    around_given s ys e r =
        let h : ys ≡ [] → z < P = λ x. e.cut x refl in
        free_chain Large a (up P a) (new ++ after_given ys) (up_ge P pos a)
        (λ l. front l e) (λ l. given (Free Large) ys h r) (λ i. given s ys h r)

    pub into_large_lem : Replaces P E (into_large (up P a) q new (piece a z (Free Large))) (piece a z (Free Large))
    unfolding into_large
    into_large_lem =
        record {
          some = λ ys x. append-ne-nil_of_right_ne-nil (free Large a (up P a)) (g.some (after_given ys)) (simp append_assoc at x);
          chain = λ s ys e r. rw (append_assoc, append_assoc) (around_given s ys e r);
        }

  -- ---- the large rule at the end

  pub at_end_lem : {E q a : ℕ} {s : Status} {new es : List Piece} {u : Status} → (Border P E → Grant E q new u) → ChainFrom P E s a es
      → ChainFrom P (E + up P q) s a (at_end P E q new es).entries
  unfolding at_end
  at_end_lem {E} {q} {new = new} {u = u} g r =
      append_chain (E + up P q) (new ++ rest) (λ x. (g (chain_border_end r)).some rest x) (λ b s. (g b).chain (E + up P q) s rest (last b)) r
    where
      rest : List Piece
      rest = free Large (E + q) (E + up P q)

      last : Border P E → ChainFrom P (E + up P q) u (E + q) rest
      last b =
          rw (← append-nil rest)
          (remainder (E + up P q) [] (g b) (omega (arith, up_ge P pos q)) (λ x. omega (arith, up_lt P pos q))
          (stop refl (border_sum b (up_border P pos q))))

  -- ---- bytes from the start of a free entry on become live

  -- the rest of the entry behind them
  pub rest_behind : {E a s z : ℕ} {k : Class} {u : Status} (ys : List Piece) → s ≤ z → Entry P u a z (Free k) ys
      → ChainFrom P E (Free k) (a + z) ys → ChainFrom P E (Live k) (a + s) (free k (a + s) (a + z) ++ ys)
  rest_behind {E} {a} {s} {z} {k} ys l e r =
      free_chain k (a + s) (a + z) ys (omega arith) entry (λ m. r) (λ i. chain_live r)
    where
      page : down P a ≤ down P (a + s)
      page = down_most P pos (down_border P pos a) (omega (arith, down_le P pos a))

      entry : a + s < a + z → Entry P (Live k) (a + s) (a + z - (a + s)) (Free k) ys
      entry m =
          entry_free (omega arith)
          (λ q. record { under = omega (arith, (e.small q).under); in_page = omega (arith, (e.small q).in_page, page) })
          (λ nb. refl) alone_live (λ q h. omega (arith, e.cut q (ap Free h)))

  pub into_small_lem : {E a s z : ℕ} {k : Class} → Small k → 0 < s → s ≤ z
      → Replaces P E (into_small k s (piece a z (Free k))) (piece a z (Free k))
  unfolding into_small
  into_small_lem {E} {a} {s} {z} {k} t p l =
      record {
        some = λ ys x. cons≢nil x;
        chain = λ u ys e r. step (entry_live (shorter (e.small t)) e.family) (rest_behind ys l e r);
      }
    where
      shorter : Within P a z → Whole P k a s
      shorter w =
          record {
            some = p;
            small = λ q. record { under = omega (arith, w.under); in_page = omega (arith, w.in_page) };
            aligned = λ q. absurd (small_large t q);
            whole = λ q. absurd (small_large t q);
          }
