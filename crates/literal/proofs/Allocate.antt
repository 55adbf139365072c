-- Allocating is inserting a live piece: the statement `Allocating` of specs/Statements.antt, over chains.
--
-- In this order: a table with one more live piece is determined by it; live pieces of what the rules write; what was chosen; the large rule at
-- the place that was chosen, for any grant; a large and a small request; `allocated_chain`.
use Prim.Native.Nat.{ℕ, suc, ◌+◌, ◌≤◌, ◌<◌}
use mathlib.Core.Bool.{true}
use mathlib.Core.List.{List, [], ◌∷◌, ◌++◌, append-nil, append_assoc}
use mathlib.Core.Path.{◌≡◌, refl, sym, ap, subst, ◌∙◌}
use native.Mathlib.Omega.{arith}
use lib.ListN.{take, drop}
use Rattle.choose.proofs.BestLaws.{best_place, fits_small, fits_large}
use Rattle.choose.specs.Choose.{fits_in, best, Best, FitsLarge}
use Rattle.choose.specs.Place.{in_large, in_small, as_page, large_place_for, small_place_for, place_for, place_address}
use Rattle.std.specs.Prelude.{Some, None}
use Rattle.choose.specs.Choose.{Chosen}
use Rattle.choose.specs.declared.place.Place.{Place}
use Rattle.literal.proofs.AllocateLaws.{in_place_split, Replaces, in_place_chain, Grant, grant_large, grant_page, into_large_lem, at_end_lem, into_small_lem}
use Rattle.literal.proofs.ChangedChains.{lives_only_free, file_of_chain}
use Rattle.literal.specs.Steps.{in_place_of, into_large, at_end, large_rule, large_piece, into_small, small_page, after_allocating_small, after_allocating}
use Rattle.pages.proofs.PageLaws.{borders, up_border}
use Rattle.pages.specs.Pages.{up, Border}
use Rattle.pieces.proofs.PieceLaws.{entry_split}
use Rattle.pieces.specs.Pieces.{piece, behind, Small, metadata, raw, EntryIs}
use Rattle.pieces.specs.declared.Class.TheVariants.{SmallMetadata, SmallRaw, Large}
use Rattle.pieces.specs.declared.Class.{Class}
use Rattle.pieces.specs.declared.Piece.{Piece}
use Rattle.pieces.specs.declared.Status.TheVariants.{Live, Free}
use Rattle.pieces.specs.declared.Status.{Status}
use Rattle.rules.proofs.InsertLaws.{insert_at}
use Rattle.rules.specs.Editing.{insert}
use Rattle.table.proofs.Canon.{canonical}
use Rattle.table.proofs.Chain.{Chain}
use Rattle.table.proofs.LivesLaws.{lives_free_append, lives_append}
use Rattle.table.proofs.Literal.{rules_of}
use Rattle.table.specs.Fill.{lives, free, Good}
use Rattle.literal.specs.Statements.{Request, FileOf, AllocatingIn}

-- ---- one more live piece

-- the live pieces old, and p put between ps and qs
inserted : {P E : ℕ} {new : List Piece} (old : List Piece) (p : Piece) (ps qs : List Piece) → 0 < P → Chain P E new
    → lives new ≡ ps ++ (p ∷ qs) → old ≡ ps ++ qs → FileOf P (record { entries = new; end = E }) (insert p old)
inserted {P} old p ps qs pos c e f =
    let g : Good P (ps ++ (p ∷ qs)) = rw e at (canonical pos c).2 in
    file_of_chain (insert p old) pos c (e ∙ (sym (insert_at P pos ps p qs g) ∙ ap (insert p) (sym f)))

-- ---- the live pieces of what the rules write

lives_large : (b q : ℕ) (new : List Piece) (x p : Piece) (ys : List Piece) → ((zs : List Piece) → lives (new ++ zs) ≡ p ∷ lives zs)
    → lives (into_large b q new x ++ ys) ≡ p ∷ lives ys
unfolding into_large
lives_large b q new x p ys h =
    rw (append_assoc, append_assoc, lives_free_append)
    (h (free Large (b + q) (behind x) ++ ys) ∙ ap (λ (l : List Piece). p ∷ l) (lives_free_append Large (b + q) (behind x) ys))

lives_large_piece : (s b : ℕ) (ys : List Piece) → lives (large_piece s b ++ ys) ≡ piece b s (Live Large) ∷ lives ys
unfolding large_piece lives
lives_large_piece s b ys = refl

lives_small_page : (P : ℕ) (k : Class) (s b : ℕ) (ys : List Piece) → lives (small_page P k s b ++ ys) ≡ piece b s (Live k) ∷ lives ys
unfolding small_page lives
lives_small_page P k s b ys = rw lives_free_append

lives_into_small : (k : Class) (s : ℕ) (x : Piece) (ys : List Piece) → lives (into_small k s x ++ ys) ≡ piece x.address s (Live k) ∷ lives ys
unfolding into_small lives
lives_into_small k s x ys = rw lives_free_append

-- one free entry is replaced by entries with one live piece
replaced : {P E a z : ℕ} {c : Class} {es : List Piece} {i : ℕ} (f : Piece → List Piece) (p : Piece) → 0 < P → Chain P E es
    → EntryIs es i (piece a z (Free c)) → Replaces P E (f (piece a z (Free c))) (piece a z (Free c))
    → ((ys : List Piece) → lives (f (piece a z (Free c)) ++ ys) ≡ p ∷ lives ys)
    → FileOf P (record { entries = in_place_of i f es; end = E }) (insert p (lives es))
unfolding lives
replaced {es = es} {i = i} f p pos c at r h =
    inserted (lives es) p (lives (take i es)) (lives (drop (suc i) es)) pos (in_place_chain f at r c)
    (ap lives (in_place_split f at) ∙ (lives_append (take i es) _ ∙ ap (λ (l : List Piece). lives (take i es) ++ l) (h (drop (suc i) es))))
    (ap lives (entry_split at) ∙ lives_append (take i es) _)

-- ---- what was chosen

entry_as : {es : List Piece} {i : ℕ} {x : Piece} {t : Status} → x.status ≡ t → EntryIs es i x → EntryIs es i (piece x.address x.size t)
entry_as {es} {i} {x} q e = subst (λ (v : Status). EntryIs es i (piece x.address x.size v)) q e

module _ (P : ℕ) (pos : 0 < P) where
  room_large : {s : ℕ} {x : Piece} → FitsLarge P s x → up P x.address + s ≤ behind x
  room_large {x = x} h = omega (arith, h.room, (borders P x.address pos).up_only h.start h.border)

  -- ---- the large rule, for a request of q bytes that become new, with the one live piece p

  module _ {E : ℕ} {es : List Piece} (c : Chain P E es) (q : ℕ) (new : ℕ → List Piece) (p : ℕ → Piece) (u : Status)
      (grant : (b : ℕ) → Border P b → Grant P pos b q (new b) u) (one : (b : ℕ) (ys : List Piece) → lives (new b ++ ys) ≡ p b ∷ lives ys) where
    rule_at_end : FileOf P (at_end P E q (new E) es) (insert (p E) (lives es))
    unfolding at_end lives
    rule_at_end = inserted (lives es) (p E) (lives es) [] pos (at_end_lem P pos (grant E) c) now (sym (append-nil (lives es)))
      where
        rest : List Piece
        rest = free Large (E + q) (E + up P q)

        only : lives (new E ++ rest) ≡ p E ∷ []
        only = one E rest ∙ ap (λ (l : List Piece). p E ∷ l) (lives_only_free Large (E + q) (E + up P q))

        now : lives (es ++ (new E ++ rest)) ≡ lives es ++ (p E ∷ [])
        now = lives_append es (new E ++ rest) ∙ ap (λ (l : List Piece). lives es ++ l) only

    rule_placed : (r : Chosen) → Best (λ x. fits_in P Large q x ≡ true) es r
        → FileOf P (large_rule P E q new es (in_large P r)) (insert (p (place_address E (in_large P r))) (lives es))
    unfolding large_rule
    rule_placed None h = rule_at_end
    rule_placed (Some (i, x)) h =
        let f : FitsLarge P q x = fits_large P pos q x h.fitting in
        let b : ℕ = up P x.address in
        replaced (into_large b q (new b)) (p b) pos c (entry_as f.free h.entry)
        (into_large_lem P pos E q x.address x.size (grant b (up_border P pos x.address)) (room_large f))
        (λ ys. lives_large b q (new b) (piece x.address x.size (Free Large)) (p b) ys (one b))

  -- ---- a large and a small request

  chosen : {E : ℕ} {es : List Piece} → Chain P E es → (k : Class) (s : ℕ) → Best (λ x. fits_in P k s x ≡ true) es (best (fits_in P k s) 0 None es)
  chosen {E} {es} c k s = let h = rules_of P pos c in (best_place (fits_in P k s) E 0 es h.filled h.tiling).is

  large_chain : {E s : ℕ} {es : List Piece} → Chain P E es → P ≤ s → AllocatingIn P E Large s es
  unfolding after_allocating place_for large_place_for
  large_chain {E} {s} {es} c h =
      rule_placed c s (large_piece s) (λ b. piece b s (Live Large)) (Live Large) (λ b bo. grant_large P pos bo h) (lives_large_piece s)
      (best (fits_in P Large s) 0 None es) (chosen c Large s)

  module _ {E s : ℕ} {k : Class} {es : List Piece} (c : Chain P E es) (t : Small k) (some : 0 < s) (less : s < P) where
    abbrev SmallDone : Place → Type 0
    SmallDone q = FileOf P (after_allocating_small P E k s es q) (insert (piece (place_address E q) s (Live k)) (lives es))

    page_rule : (r : Chosen) → Best (λ x. fits_in P Large P x ≡ true) es r
        → FileOf P (large_rule P E P (small_page P k s) es (in_large P r)) (insert (piece (place_address E (in_large P r)) s (Live k)) (lives es))
    page_rule =
        rule_placed c P (small_page P k s) (λ b. piece b s (Live k)) (Free k) (λ b bo. grant_page P pos bo t some less) (lives_small_page P k s)

    page_placed : (r : Chosen) → Best (λ x. fits_in P Large P x ≡ true) es r → SmallDone (as_page (in_large P r))
    unfolding after_allocating_small large_rule
    page_placed None h = page_rule None h
    page_placed (Some (i, x)) h = page_rule (Some (i, x)) h

    small_placed : (q : Place) → SmallDone q → (r : Chosen) → Best (λ x. fits_in P k s x ≡ true) es r → SmallDone (in_small q r)
    unfolding after_allocating_small
    small_placed q d None h = d
    small_placed q d (Some (i, x)) h =
        let f = fits_small P k t s x h.fitting in
        replaced (into_small k s) (piece x.address s (Live k)) pos c (entry_as f.free h.entry)
        (into_small_lem P pos t some f.room) (lives_into_small k s (piece x.address x.size (Free k)))

    small_chain : SmallDone (small_place_for P k s es)
    unfolding small_place_for large_place_for
    small_chain =
        small_placed (as_page (large_place_for P P es)) (page_placed (best (fits_in P Large P) 0 None es) (chosen c Large P))
        (best (fits_in P k s) 0 None es) (chosen c k s)

  pub allocated_chain : {E : ℕ} {k : Class} {s : ℕ} {es : List Piece} → Chain P E es → Request P k s → AllocatingIn P E k s es
  unfolding after_allocating place_for
  allocated_chain {k = SmallMetadata} c r = small_chain c metadata r.some (r.small metadata)
  allocated_chain {k = SmallRaw} c r = small_chain c raw r.some (r.small raw)
  allocated_chain {k = Large} c r = large_chain c (r.large refl)
