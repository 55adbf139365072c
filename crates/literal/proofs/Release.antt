-- Releasing is removing a live piece: the statement `Releasing` of specs/Statements.antt, over chains.
--
-- In this order: the cut at the end of the file; the freed entry put back between its neighbours; `freed_at_lem`, a piece that becomes free, of
-- which it is known what a release or a shortening knows (Open); the named piece; `released_chain`.
use Prim.Native.Nat.{ℕ, ◌+◌, ◌-◌, ◌*◌, ◌≤◌, ◌<◌}
use mathlib.Core.Bool.{Bool, true, false, cond, not, ◌&&◌}
use mathlib.Core.List.{List, [], append-nil, reverse_aux, Memᴰ, cons≢nil}
use mathlib.Core.Path.{◌≡◌, refl, sym, ◌∙◌}
use native.Mathlib.Omega.{arith}
use lib.Dec.{eqb}
use borrow.Author.Tests.{eqb-true, eq-eqb}
use Rattle.literal.proofs.ChangedChains.{nearest, Upto, upto_chain, lives_around, lives_free_last, file_of_chain}
use Rattle.literal.proofs.MergeLaws.{chain_free, Open, merged_open, Settled, emptied_merged}
use Rattle.literal.proofs.NamedPiece.{reached, removed}
use Rattle.literal.specs.Steps.{Freed, becomes_free, merged, emptied, whole_pages, cut_file, kept_file, cut, freed_at, after_releasing}
use Rattle.pages.proofs.Numbers.{not_both}
use Rattle.pages.proofs.PageLaws.{down_le, down_lt, down_border, up_in, up_border, up_ge, up_lt, border_difference}
use Rattle.pages.specs.Pages.{down, up, Border}
use Rattle.pieces.proofs.PieceLaws.{large_small}
use Rattle.pieces.specs.Pieces.{piece, smallb}
use Rattle.pieces.specs.declared.Class.TheVariants.{SmallMetadata, SmallRaw, Large}
use Rattle.pieces.specs.declared.Class.{Class}
use Rattle.pieces.specs.declared.Piece.{Piece}
use Rattle.pieces.specs.declared.Status.TheVariants.{Live, Free}
use Rattle.rules.specs.Editing.{Name, names}
use Rattle.table.proofs.Chain.{Entry, ChainFrom, stop, step, Chain}
use Rattle.table.proofs.ChainLaws.{entry_free, free_chain, chain_border_end, chain_end, chain_last}
use Rattle.table.specs.Fill.{lives, free}
use Rattle.literal.specs.Statements.{FileOf, ReleasingIn}

not_small : (k : Class) → not (smallb k) ≡ true → k ≡ Large
not_small SmallMetadata h = absurd (not_both h refl)
not_small SmallRaw h = absurd (not_both h refl)
not_small Large h = refl

module _ (P : ℕ) (pos : 0 < P) where
  -- ---- the cut

  -- without the whole pages that z bytes from a to a border contain, what is left ends at the first border not below a
  cut_border : (a z : ℕ) → Border P (a + z) → a + z - whole_pages P z * P ≡ up P a
  unfolding down
  cut_border a z b =
      let l : down P z ≤ z = down_le P pos z in
      let m : z < down P z + P = down_lt P pos z in
      let x : ℕ = a + z - down P z in
      let e : a + z ≡ down P z + x = omega arith in
      sym (up_in P pos (border_difference x (down_border P pos z) (rw e at b)) (omega arith) (omega arith))

  module _ {E : ℕ} {ps : List Piece} {f : Freed} (h : Settled P pos E ps f) where
    abbrev known : Open P E ps f
    known = h.merged.known

    -- kind 6 that ended at E and has lost its whole pages
    cut_chain : f.class ≡ Large → Chain P (up P f.address) (reverse_aux f.before (free Large f.address (up P f.address)))
    cut_chain k =
        upto_chain known.upto
        (rw (← append-nil (free Large f.address (up P f.address)))
        (free_chain Large f.address (up P f.address) [] (up_ge P pos f.address) part (λ l. stop refl end) (λ i. stop refl end)))
        (λ x y. h.merged.before.large y k)
      where
        end : Border P (up P f.address)
        end = up_border P pos f.address

        part : f.address < up P f.address → Entry P (nearest f.before) f.address (up P f.address - f.address) (Free Large) []
        part l =
            entry_free (omega arith) (λ s. absurd (large_small s refl)) (λ nb. known.left nb ∙ k)
            (rw k at h.merged.before) (λ x y. omega (arith, up_lt P pos f.address))

    cut_lives : f.rest ≡ [] → lives (reverse_aux f.before (free Large f.address (up P f.address))) ≡ ps
    cut_lives r = lives_free_last f.before Large f.address (up P f.address) ∙ (rw r at known.others)

    cut_done : f.class ≡ Large → f.address + f.size ≡ E → FileOf P (cut_file P E f) ps
    cut_done k e =
        let r : f.rest ≡ [] = chain_end known.chain e in
        let b : Border P (f.address + f.size) = rw (← e) at (chain_border_end known.chain) in
        let u : E - whole_pages P f.size * P ≡ up P f.address = rw (← e) (cut_border f.address f.size b) in
        rw u (file_of_chain ps pos (cut_chain k) (cut_lives r))

    -- ---- the freed entry between its neighbours

    kept_entry : (f.class ≡ Large → f.address + f.size ≡ E → ⊥)
        → Entry P (nearest f.before) f.address f.size (Free f.class) f.rest
    kept_entry n =
        entry_free known.some (λ s. record { under = h.under s; in_page = known.in_page s }) known.left h.merged.before
        (λ x k. absurd (n k (chain_last known.chain x)))

    kept_done : (f.class ≡ Large → f.address + f.size ≡ E → ⊥) → FileOf P (kept_file E f) ps
    unfolding lives
    kept_done n =
        file_of_chain ps pos
        (upto_chain known.upto (step (kept_entry n) (chain_free known.chain known.right h.merged.behind)) (λ x y. cons≢nil x))
        (lives_around f.before _ ∙ (sym (lives_around f.before f.rest) ∙ known.others))

  cut_settled : {E : ℕ} {ps : List Piece} (f : Freed) → Settled P pos E ps f → FileOf P (cut P E f) ps
  unfolding cut
  cut_settled {E} {ps} f h = go (not (smallb f.class)) (eqb (f.address + f.size) E) refl refl
    where
      go : (s t : Bool) → not (smallb f.class) ≡ s → eqb (f.address + f.size) E ≡ t
          → FileOf P (cond (s && t) (cut_file P E f) (kept_file E f)) ps
      go true true x y = cut_done h (not_small f.class x) (eqb-true (f.address + f.size) E y)
      go true false x y = kept_done h (λ k q. not_both (eq-eqb (f.address + f.size) E q) y)
      go false t x y = kept_done h (λ k q. not_both (rw k) x)

  -- ---- a piece becomes free

  pub freed_at_lem : {E : ℕ} {ps : List Piece} (ls : List Piece) (x : Piece) (ys : List Piece) → Open P E ps (becomes_free ls x ys)
      → FileOf P (freed_at P E ls x ys) ps
  unfolding freed_at
  freed_at_lem ls x ys o =
      let f : Freed = becomes_free ls x ys in
      cut_settled (emptied P (merged P f)) (emptied_merged P pos (merged P f) (merged_open P pos f o))

  -- ---- the named piece

  released_at : {E a z : ℕ} {k : Class} {ls ys : List Piece} → Upto P a ls → Entry P (nearest ls) a z (Live k) ys
      → ChainFrom P E (Live k) (a + z) ys → FileOf P (freed_at P E ls (piece a z (Live k)) ys) (lives (reverse_aux ls ys))
  released_at {a = a} {z = z} {k = k} {ls = ls} {ys = ys} u e r =
      freed_at_lem ls (piece a z (Live k)) ys (record {
        upto = u;
        former = Live k;
        chain = r;
        some = e.some;
        in_page = λ s. (e.small s).in_page;
        left = e.family;
        right = λ nb. refl;
        others = refl;
      })

  pub released_chain : {E : ℕ} {k : Class} {x : Piece} {es : List Piece} (n : Name) → Chain P E es → Memᴰ x es → x.status ≡ Live k
      → names n x ≡ true → ReleasingIn P E n es
  unfolding after_releasing
  released_chain {E} n c m q h =
      let r = reached n c m q h in
      rw (r.walked (freed_at P E), removed pos c r h) (released_at r.upto r.entry r.chain)
