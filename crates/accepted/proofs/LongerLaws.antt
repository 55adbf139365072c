-- A live piece of a sound table, made longer or shorter.
--
--   Stands b n m tl es     n bytes at b of class m are a live entry of es, with the entries tl behind it
--   found_stands           a piece that was found stands there
--   More m b n k tl        k bytes more are free of its class behind it, or it is a large piece at the file's end
--   longer                 where an extend finds room there is More, and the longer piece is as its class demands
--   more_reach             and its page ends within M
--   less_whole             what remains of a shortened piece is as its class demands
--   room_more, room_less   so the live pieces stay good (`resize_good` of rules' ChangeLaws)
--
-- Assumes nothing.
use Prim.Native.Nat.{ℕ, suc, ◌+◌, ◌-◌, ◌≤◌, ◌<◌}
use mathlib.Core.Bool.{true, not, ◌&&◌}
use mathlib.Core.List.{List, [], ◌∷◌}
use mathlib.Core.Path.{◌≡◌, refl, sym, ap, subst}
use native.Mathlib.Numerals.{add-one}
use native.Mathlib.Omega.{arith}
use lib.Dec.{leb, ltb}
use lib.ListN.{drop}
use borrow.Author.Tests.{ltb-true, leb-true}
use Rattle.find.specs.Find.{FoundAt}
use Rattle.pages.proofs.Numbers.{split, and_left, and_right, not_both}
use Rattle.pages.proofs.PageLaws.{true_border, down_le, down_border, down_in, border_next}
use Rattle.pages.specs.Pages.{borderb, down, up, Border}
use Rattle.pieces.proofs.PieceLaws.{View, small, large, view, large_small, small_large}
use Rattle.pieces.specs.Pieces.{piece, smallb, Small, metadata, raw, EntryIs, entry_here, entry_later}
use Rattle.pieces.specs.declared.Class.TheVariants.{Large}
use Rattle.pieces.specs.declared.Class.{Class}
use Rattle.pieces.specs.declared.Piece.{Piece}
use Rattle.pieces.specs.declared.Status.TheVariants.{Live, Free}
use Rattle.pieces.specs.declared.Status.{Status}
use Rattle.rules.proofs.ChangeLaws.{Room, less, last, more, further}
use Rattle.pieces.proofs.WordLaws.{entry_is, drop_entries}
use Rattle.space.specs.Outcomes.{SoundSpace, entries_of}
use Rattle.room.specs.Room.{small_roomb, large_roomb, room_behindb, remainsb}
use Rattle.space.specs.Giving.{entries_behind}
use Rattle.space.specs.declared.Space.{Space}
use Rattle.table.proofs.Chain.{Entry, ChainFrom, stop, step}
use Rattle.table.proofs.ChainLaws.{chain_le}
use Rattle.table.specs.Fill.{Within, Whole}

-- ---- where it stands

pub data Stands (b n : ℕ) (m : Class) (tl : List Piece) : List Piece → Type 0 where
  stands_here : Stands b n m tl (piece b n (Live m) ∷ tl)
  stands_later : {x : Piece} {es : List Piece} → Stands b n m tl es → Stands b n m tl (x ∷ es)

entry_stands : {es : List Piece} {i : ℕ} {x : Piece} {m : Class} → EntryIs es i x → x.status ≡ Live m
    → Stands x.address x.size m (drop (suc i) es) es
entry_stands {x = x} {m = m} (entry_here {es = es}) q =
    subst (λ (t : Status). Stands x.address x.size m es (piece x.address x.size t ∷ es)) (sym q) stands_here
entry_stands (entry_later e) q = stands_later (entry_stands e q)

module _ (sp : Space) (w : List ℕ) (s : SoundSpace sp w) (a z i : ℕ) (x : Piece) (f : FoundAt a z (entries_of sp w) i x) where
  pub found_stands : Stands a z f.named.class (entries_behind sp w i) (entries_of sp w)
  found_stands =
      let m : Class = f.named.class in
      let d : drop (suc i) (entries_of sp w) ≡ entries_behind sp w i =
      rw (← (add-one i)) (drop_entries w (i + 1) sp.count (omega (arith, (entry_is w sp.count f.entry).0))) in
      let h = entry_stands f.entry f.named.live in
      let h1 = subst (λ (tl : List Piece). Stands x.address x.size m tl (entries_of sp w)) d h in
      let h2 = subst (λ (v : ℕ). Stands v x.size m (entries_behind sp w i) (entries_of sp w)) f.named.address h1 in
      subst (λ (v : ℕ). Stands a v m (entries_behind sp w i) (entries_of sp w)) f.named.size h2

module _ (P : ℕ) (pos : 0 < P) where
  -- the rest of the chain from the piece on
  pub record From (E b n : ℕ) (m : Class) (tl : List Piece) : Type 0 where
    pub status : Status
    pub entry : Entry P status b n (Live m) tl
    pub rest : ChainFrom P E (Live m) (b + n) tl

  pub from : {E b n a : ℕ} {m : Class} {s : Status} {tl es : List Piece} → ChainFrom P E s a es → Stands b n m tl es → From E b n m tl
  from (step {s = s} y r) stands_here = record { status = s; entry = y; rest = r }
  from (step y r) (stands_later i) = from r i
  from {E = E} {b = b} {n = n} {m = m} {tl = tl} (stop {s = s} {a = a} _ _) x7 = elim x7 [ ]

  -- ---- shorter

  pub room_less : {b n z : ℕ} {m : Class} {tl es : List Piece} → z ≤ n → Stands b n m tl es → Room P pos b n z m es
  room_less l stands_here = less l
  room_less l (stands_later i) = further (room_less l i)

  small_less : {E b n : ℕ} {m : Class} {tl : List Piece} (k : ℕ) → Small m → k < n → From E b n m tl → Whole P m b (n - k)
  small_less k t l f =
      let v = f.entry.small t in
      record {
        some = omega arith;
        small = λ u. record { under = omega (arith, v.under); in_page = omega (arith, v.in_page) };
        aligned = λ q. absurd (small_large t q);
        whole = λ q. absurd (small_large t q);
      }

  pub less_whole : {E b n : ℕ} {m : Class} {tl : List Piece} (k : ℕ) → View m → remainsb P m n k ≡ true → From E b n m tl → Whole P m b (n - k)
  unfolding remainsb
  less_whole {n = n} k (small metadata) e f = small_less k metadata (ltb-true k n e) f
  less_whole {n = n} k (small raw) e f = small_less k raw (ltb-true k n e) f
  less_whole {n = n} k large e f =
      let g : P + k ≤ n = leb-true (P + k) n e in
      record { some = omega arith; small = λ t. absurd (large_small t refl); aligned = λ q. f.entry.aligned refl; whole = λ q. omega arith }

  -- ---- longer

  pub data More (m : Class) (b n k : ℕ) : List Piece → Type 0 where
    at_last : m ≡ Large → More m b n k []
    free_behind : {x f : ℕ} {c : Class} {es : List Piece} → c ≡ m → k ≤ f → More m b n k (piece x f (Free c) ∷ es)

  pub room_more : {b n k : ℕ} {m : Class} {tl es : List Piece} → More m b n k tl → Stands b n m tl es → Room P pos b n (n + k) m es
  room_more (at_last q) stands_here = last
  room_more {n = n} {k = k} (free_behind {f = f} q l) stands_here = let g : n + k ≤ n + f = omega arith in more q g
  room_more m (stands_later i) = further (room_more m i)

  pub more_reach : {E b n k : ℕ} {m : Class} {tl : List Piece} (M : ℕ) → ChainFrom P E (Live m) (b + n) tl → More m b n k tl
      → ((e : ℕ) → e ≤ E → up P e ≤ M) → (tl ≡ [] → up P (b + n + k) ≤ M) → up P (b + n + k) ≤ M
  more_reach M r (at_last q) within h = h refl
  more_reach {b = b} {n = n} {k = k} M (step y r) (free_behind q l) within h = within (b + n + k) (omega (arith, chain_le r))

  same_page : {b n f k : ℕ} → Within P b n → ¬ Border P (b + n) → Within P (b + n) f → k ≤ f → b + (n + k) ≤ down P b + P
  same_page {b} {n} {f} {k} v nb w l =
      let d : down P (b + n) ≡ down P b =
      down_in P pos {x = down P b} {y = b + n} (down_border P pos b) (omega (arith, down_le P pos b))
      (split (down P b + P) (b + n)
      (λ g. let e : down P b + P ≡ b + n = omega (arith, v.in_page) in absurd (nb (rw e at (border_next P pos (down_border P pos b)))))
      (λ g. g)) in
      omega (arith, w.in_page)

  -- what an extend's test says
  pub record Longer (m : Class) (b n k : ℕ) (tl : List Piece) : Type 0 where
    pub room : More m b n k tl
    pub whole : Whole P m b (n + k)

  small_longer : {E b n : ℕ} {m : Class} {tl : List Piece} (k : ℕ) → Small m → From E b n m tl → small_roomb P (b + n) n k tl ≡ true → Longer m b n k tl
  unfolding small_roomb
  small_longer {b = b} {n = n} {m = m} k t f h = go f.rest h
    where
      inside : {x g : ℕ} {c : Class} {es : List Piece} → m ≡ c → ¬ Border P (b + n) → Within P (b + n) g → k ≤ g → n + k < P
          → Longer m b n k (piece x g (Free c) ∷ es)
      inside q nb v l u =
          record {
            room = free_behind (sym q) l;
            whole = record {
              some = omega (arith, f.entry.some);
              small = λ c. record { under = u; in_page = same_page (f.entry.small t) nb v l };
              aligned = λ e. absurd (small_large t e);
              whole = λ e. absurd (small_large t e);
            };
          }

      go : {E : ℕ} {tl : List Piece} → ChainFrom P E (Live m) (b + n) tl → small_roomb P (b + n) n k tl ≡ true → Longer m b n k tl
      go (stop e bo) i = absurd (not_both i refl)
      go (step {t = Live c} {n = g} y r) i =
          absurd (not_both (and_left _ (ltb (n + k) P) (and_right (not (borderb P (b + n))) _ i)) refl)
      go (step {t = Free c} {n = g} y r) i =
          let i1 : not (borderb P (b + n)) ≡ true = and_left (not (borderb P (b + n))) (leb k g && ltb (n + k) P) i in
          let i2 : (leb k g && ltb (n + k) P) ≡ true = and_right (not (borderb P (b + n))) (leb k g && ltb (n + k) P) i in
          let nb : ¬ Border P (b + n) = λ bo. not_both i1 (ap not (true_border bo)) in
          let q : m ≡ c = y.family nb in
          let enough = leb-true k g (and_left (leb k g) (ltb (n + k) P) i2) in
          inside q nb (y.small (rw q at t)) enough (ltb-true (n + k) P (and_right (leb k g) (ltb (n + k) P) i2))

  large_free : (c : Class) → not (smallb c) ≡ true → c ≡ Large
  large_free c h = go (view c) h
    where
      go : {c : Class} → View c → not (smallb c) ≡ true → c ≡ Large
      go (small metadata) i = absurd (not_both i refl)
      go (small raw) i = absurd (not_both i refl)
      go large i = refl

  more_large : {E b n : ℕ} {tl : List Piece} (k : ℕ) → ChainFrom P E (Live Large) (b + n) tl → large_roomb k tl ≡ true → More Large b n k tl
  unfolding large_roomb
  more_large k (stop e bo) h = at_last refl
  more_large k (step {t = Live c} y r) h = absurd (not_both h refl)
  more_large k (step {t = Free c} {n = g} y r) h =
      free_behind (large_free c (and_left (not (smallb c)) (leb k g) h)) (leb-true k g (and_right (not (smallb c)) (leb k g) h))

  large_longer : {E b n : ℕ} {tl : List Piece} (k : ℕ) → From E b n Large tl → large_roomb k tl ≡ true → Longer Large b n k tl
  large_longer {n = n} k f h =
      record {
        room = more_large k f.rest h;
        whole = record {
          some = omega (arith, f.entry.some);
          small = λ t. absurd (large_small t refl);
          aligned = λ q. f.entry.aligned refl;
          whole = λ q. omega (arith, f.entry.whole refl);
        };
      }

  pub longer : {E b n : ℕ} {m : Class} {tl : List Piece} (k : ℕ) → View m → From E b n m tl → room_behindb P m (b + n) n k tl ≡ true → Longer m b n k tl
  unfolding room_behindb
  longer k (small metadata) f h = small_longer k metadata f h
  longer k (small raw) f h = small_longer k raw f h
  longer k large f h = large_longer k f h
