-- Shortening is taking bytes from a live piece: the statement `Shortening` of specs/Statements.antt, over chains.
--
-- In this order: what remains is a piece where it stood; the cut part becomes free behind it, as in a release; `shortened_chain`.
use Prim.Native.Nat.{ℕ, ◌+◌, ◌-◌, ◌≤◌, ◌<◌}
use mathlib.Core.Bool.{true}
use mathlib.Core.List.{List, ◌∷◌, reverse_aux, Memᴰ}
use mathlib.Core.Path.{◌≡◌, refl, sym, ap, ◌∙◌}
use native.Mathlib.Omega.{arith}
use Rattle.literal.proofs.ChangedChains.{nearest, Upto, add}
use Rattle.literal.proofs.MergeLaws.{Open}
use Rattle.literal.proofs.NamedPiece.{reached, resized}
use Rattle.literal.proofs.Release.{freed_at_lem}
use Rattle.literal.specs.Resizing.{shorter, cut_part, after_shortening_at, after_shortening}
use Rattle.literal.specs.Statements.{FileOf, ShorteningIn}
use Rattle.literal.specs.Steps.{becomes_free}
use Rattle.pages.proofs.PageLaws.{down_le, down_border, down_most}
use Rattle.pages.specs.Pages.{down}
use Rattle.pieces.proofs.PieceLaws.{View, small, large, view}
use Rattle.pieces.specs.Pieces.{piece}
use Rattle.pieces.specs.declared.Class.{Class}
use Rattle.pieces.specs.declared.Piece.{Piece}
use Rattle.pieces.specs.declared.Status.TheVariants.{Live}
use Rattle.pieces.specs.declared.Status.{Status}
use Rattle.room.specs.Conditions.{Remains}
use Rattle.rules.proofs.RemoveLaws.{named_size}
use Rattle.rules.specs.Editing.{Name, names, resize}
use Rattle.table.proofs.Chain.{Entry, ChainFrom, Chain}
use Rattle.table.proofs.ChainLaws.{entry_live}
use Rattle.table.specs.Fill.{lives, Whole}

module _ (P : ℕ) (pos : 0 < P) where
  -- ---- what remains

  some_remains : {c : Class} {z k : ℕ} → View c → Remains P c z k → k < z
  some_remains (small s) h = omega (arith, h.small s)
  some_remains large h = omega (arith, h.large refl)

  shorter_whole : {a z k : ℕ} {c : Class} {s : Status} {es : List Piece} → Entry P s a z (Live c) es → Remains P c z k → Whole P c a (z - k)
  shorter_whole {c = c} e h =
      record {
        some = omega (arith, some_remains (view c) h);
        small = λ s. record { under = omega (arith, (e.small s).under); in_page = omega (arith, (e.small s).in_page) };
        aligned = λ q. e.aligned (ap Live q);
        whole = λ q. omega (arith, h.large q);
      }

  -- ---- the cut part

  -- what remains is the nearest entry before it
  cut_open : {E a z k : ℕ} {c : Class} {ls ys : List Piece} → Upto P a ls → Entry P (nearest ls) a z (Live c) ys
      → ChainFrom P E (Live c) (a + z) ys → 1 ≤ k → Remains P c z k
      → Open P E (lives (reverse_aux ls (piece a (z - k) (Live c) ∷ ys)))
      (becomes_free (shorter k (piece a z (Live c)) ∷ ls) (cut_part k (piece a z (Live c))) ys)
  cut_open {a = a} {z = z} {k = k} {c = c} {ys = ys} u e r p h =
      record {
        upto = add {es = ys} u (entry_live (shorter_whole e h) e.family);
        former = Live c;
        chain = rw ends r;
        some = p;
        in_page = λ s. omega (arith, (e.small s).in_page, page, ends);
        left = λ nb. refl;
        right = λ nb. refl;
        others = refl;
      }
    where
      ends : a + (z - k) + k ≡ a + z
      ends = omega (arith, some_remains (view c) h)

      page : down P a ≤ down P (a + (z - k))
      page = down_most P pos (down_border P pos a) (omega (arith, down_le P pos a))

  shortened_at : {E a z k : ℕ} {c : Class} {ls ys : List Piece} → Upto P a ls → Entry P (nearest ls) a z (Live c) ys
      → ChainFrom P E (Live c) (a + z) ys → 1 ≤ k → Remains P c z k
      → FileOf P (after_shortening_at P E k ls (piece a z (Live c)) ys) (lives (reverse_aux ls (piece a (z - k) (Live c) ∷ ys)))
  unfolding after_shortening_at
  shortened_at {a = a} {z = z} {k = k} {c = c} {ls = ls} {ys = ys} u e r p h =
      let x : Piece = piece a z (Live c) in
      freed_at_lem P pos (shorter k x ∷ ls) (cut_part k x) ys (cut_open u e r p h)

  pub shortened_chain : {E k : ℕ} {c : Class} {x : Piece} {es : List Piece} (n : Name) → Chain P E es → Memᴰ x es → x.status ≡ Live c
      → names n x ≡ true → 1 ≤ k → Remains P c x.size k → ShorteningIn P E n k es
  unfolding after_shortening
  shortened_chain {E} {k} {x = x} {es = es} n t i q h p b =
      let r = reached n t i q h in
      let g = ap (λ (z : ℕ). resize n (z - k) (lives es)) (sym (named_size n x h)) ∙ resized pos t r h (x.size - k) in
      rw (r.walked (after_shortening_at P E k), g) (shortened_at r.upto r.entry r.chain p b)
