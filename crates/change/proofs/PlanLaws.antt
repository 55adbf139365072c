-- Laws of a plan: what it replaces, and with what, gives the table and the end of the new live pieces.
--
--   closing_next, closing_none    what closes before a live piece, and before nothing
--   end_behind_next, -none        the end, likewise
--   between                       what stands between two live pieces, and that it is what a plan puts in
--   sums                          what a sound table's entries leave of the numbers of 64 bits
--   plan_filled, plan_ends        the table and the end, for any new pieces between the two live ones
--   planned_for                   the whole: a plan to put in what stands between is `Planned`
--   planned_without, -with        so are `plan_without` and `plan_with`
--   plan_without_lem, plan_with_lem  the plans, as the code makes them
--
-- Assumes nothing.
use Prim.Native.Nat.{ℕ, zero, suc, ◌+◌, ◌-◌, ◌≤◌, ◌<◌, ◌^◌}
use mathlib.Core.List.{List, [], ◌∷◌, ◌++◌, append_assoc}
use mathlib.Core.Path.{◌≡◌, refl, sym, ap, ◌∙◌}
use native.Mathlib.Omega.{arith}
use lib.ListN.{length, length-append}
use borrow.Author.Tests.{lt-ltb, le-ltb}
use Rattle.change.proofs.AroundLaws.{former_is, NextIs, next_is}
use Rattle.change.specs.Change.{former_step, former_of, next_of, closing_gap, end_behind, plan_of, plan_without, plan_with, PlanFits, Planned}
use Rattle.change.specs.declared.around.Former.{Former}
use Rattle.change.specs.declared.plan.Plan.{Plan}
use Rattle.edit.proofs.NewLaws.{gap_entries_lem, tail_entries}
use Rattle.edit.specs.New.{gap_of, tail_of, gap_entries, new_entries}
use Rattle.edit.specs.declared.gap.Gap.{Gap}
use Rattle.edit.specs.declared.new.New.TheVariants.{Without, With}
use Rattle.edit.specs.declared.new.New.{New}
use Rattle.pages.proofs.Numbers.{split}
use Rattle.pages.proofs.PageLaws.{page_pos}
use Rattle.pages.specs.Pages.{up}
use Rattle.pieces.proofs.WordLaws.{length_entries, entries_next, entries_none, entries_parts}
use Rattle.pieces.specs.Pieces.{behind, class_of}
use Rattle.pieces.specs.Words.{entry_at, entries, EndsFit}
use Rattle.pieces.specs.declared.Class.{Class}
use Rattle.pieces.specs.declared.Piece.{Piece}
use Rattle.pieces.specs.declared.Status.TheVariants.{Live, Free}
use Rattle.pieces.specs.declared.Status.{Status}
use Rattle.rules.proofs.SpliceLaws.{StartsLive, starts_none, starts_live, splice}
use Rattle.rules.specs.Between.{front_from, last_class, closing, lives_with}
use Rattle.table.proofs.Canon.{canonical}
use Rattle.table.proofs.Chain.{Chain}
use Rattle.table.proofs.Literal.{chain_of}
use Rattle.table.proofs.LivesLaws.{lives_append}
use Rattle.table.proofs.TilingLaws.{ends_below, ends_fit}
use Rattle.table.specs.Fill.{lives, fill, last_end, end_of}

-- ---- what closes, as the code finds it

pub closing_next : (P : ℕ) (k : Class) (a : ℕ) (w : List ℕ) (to n : ℕ) (y : Piece) → to < n → y ≡ entry_at w to
    → closing_gap P k a (entries w to (n - to)) ≡ gap_of P k a y.address (class_of y.status)
unfolding closing_gap
closing_next P k a w to n y lt is = rw (entries_next w n to lt, ← is)

pub closing_none : (P : ℕ) (k : Class) (a : ℕ) (w : List ℕ) (to n : ℕ) → n ≤ to → closing_gap P k a (entries w to (n - to)) ≡ tail_of P k a
unfolding closing_gap
closing_none P k a w to n le = rw (entries_none w n to le)

pub end_behind_next : (P E a to n : ℕ) → to < n → end_behind P E a to n ≡ E
unfolding end_behind
end_behind_next P E a to n h = rw (lt-ltb to n h)

pub end_behind_none : (P E a to n : ℕ) → n ≤ to → end_behind P E a to n ≡ up P a
unfolding end_behind
end_behind_none P E a to n h = rw (le-ltb to n h)

-- ---- the ends of lists of live pieces

last_end_append : (a : ℕ) (ps qs : List Piece) → last_end a (ps ++ qs) ≡ last_end (last_end a ps) qs
unfolding last_end
last_end_append a [] qs = refl
last_end_append a (p ∷ ps) qs = last_end_append (behind p) ps qs

-- where live pieces follow, what is before them has no say in the end
last_end_live : (a b : ℕ) {es : List Piece} → StartsLive es → (es ≡ [] → ⊥) → last_end a (lives es) ≡ last_end b (lives es)
unfolding last_end lives
last_end_live a b starts_none some = absurd (some refl)
last_end_live a b starts_live some = refl

-- ---- what a plan puts in

-- the pieces ps with what is free around them, behind a piece of class k that ends at a and before the entries es
abbrev between : ℕ → Class → ℕ → List Piece → List Piece → List Piece
between P k a ps es = front_from P k a ps ++ closing P (last_class k ps) (last_end a ps) es

closing_entries : (P : ℕ) (k : Class) (a : ℕ) (es : List Piece) → gap_entries (closing_gap P k a es) ≡ closing P k a es
unfolding closing_gap closing
closing_entries P k a [] = tail_entries P k a
closing_entries P k a (y ∷ es) = gap_entries_lem P k a y.address (class_of y.status)

between_none : (P : ℕ) (k : Class) (a : ℕ) (es : List Piece) → new_entries (Without (closing_gap P k a es)) ≡ between P k a [] es
unfolding new_entries front_from last_class last_end
between_none P k a es = closing_entries P k a es

between_one : (P : ℕ) (k : Class) (a : ℕ) (x : Piece) (es : List Piece)
    → new_entries (With (gap_of P k a x.address (class_of x.status)) x (closing_gap P (class_of x.status) (behind x) es))
    ≡ between P k a (x ∷ []) es
unfolding new_entries front_from last_class last_end
between_one P k a x es =
    rw (gap_entries_lem P k a x.address (class_of x.status), closing_entries P (class_of x.status) (behind x) es) (simp append_assoc)

module _ {P E n i j : ℕ} {w : List ℕ} (h : PlanFits P E n i j w) where
  abbrev f : Former
  f = former_of w i

  abbrev t : ℕ
  t = next_of w j (n - j)

  abbrev xs : List Piece
  xs = entries w 0 f.from

  abbrev ys : List Piece
  ys = entries w t (n - t)

  pub chain : Chain P E (entries w 0 n)
  chain = chain_of P (page_pos h.page) h.border h.rules

  next_at : NextIs w j (n - j) t
  next_at = next_is w j (n - j)

  whole : j + (n - j) ≡ n
  whole = omega (arith, h.high)

  pub from_to : f.from ≤ t
  from_to = omega (arith, (former_is w i).le, h.low, next_at.ge)

  pub to_n : t ≤ n
  to_n = omega (arith, next_at.le, h.high)

  starts : StartsLive ys
  starts = rw whole at next_at.starts

  same : (ps : List Piece) → lives_with w n i j ps ≡ lives xs ++ (ps ++ lives ys)
  same ps =
      let e : lives (entries w j (n - j)) ≡ lives ys = rw whole at next_at.same in
      rw ((former_is w i).same, e)

  parts : Chain P E (xs ++ (entries w f.from (t - f.from) ++ ys))
  parts = rw (entries_parts w f.from t n from_to to_n) at chain

  plan_filled : (ps : List Piece) → xs ++ (between P f.class f.end ps ys ++ ys) ≡ fill P (lives_with w n i j ps)
  plan_filled ps =
      let g = splice P (page_pos h.page) xs (entries w f.from (t - f.from)) ys ps (former_is w i).live starts parts in
      rw (same ps, append_assoc) (sym (rw ((former_is w i).class_is, (former_is w i).end_is) at g))

  -- ---- the end: where live pieces follow it stays

  end_parts : (ps qs : List Piece) → last_end 0 (ps ++ (qs ++ lives ys)) ≡ last_end (last_end (last_end 0 ps) qs) (lives ys)
  end_parts ps qs = last_end_append 0 ps (qs ++ lives ys) ∙ last_end_append (last_end 0 ps) qs (lives ys)

  none_follow : (ps : List Piece) → n ≤ t → last_end 0 (lives xs ++ (ps ++ lives ys)) ≡ last_end f.end ps
  unfolding lives last_end
  none_follow ps l = end_parts (lives xs) ps ∙ rw (entries_none w n t l, (former_is w i).end_is)

  some_follow : (ps : List Piece) → t < n → up P (last_end 0 (lives xs ++ (ps ++ lives ys))) ≡ E
  unfolding end_of
  some_follow ps l =
      let mid : List Piece = entries w f.from (t - f.from) in
      let some : ys ≡ [] → ⊥ = λ e. omega (arith, sym (length_entries w t (n - t)) ∙ ap length e) in
      let old : lives (entries w 0 n) ≡ lives xs ++ (lives mid ++ lives ys) =
      rw (entries_parts w f.from t n from_to to_n, lives_append xs (mid ++ ys), lives_append mid ys) in
      let e : E ≡ up P (last_end 0 (lives xs ++ (lives mid ++ lives ys))) = rw old at (canonical (page_pos h.page) chain).1 in
      sym (e ∙ ap (up P) (end_parts (lives xs) (lives mid) ∙ (last_end_live _ _ starts some ∙ sym (end_parts (lives xs) ps))))

  pub plan_ends : (ps : List Piece) → end_behind P E (last_end f.end ps) t n ≡ end_of P (lives_with w n i j ps)
  unfolding end_of
  plan_ends ps =
      rw (same ps)
      (split n t
      (λ l. end_behind_none P E (last_end f.end ps) t n l ∙ ap (up P) (sym (none_follow ps l)))
      (λ l. end_behind_next P E (last_end f.end ps) t n l ∙ sym (some_follow ps l)))

  -- ---- sums

  pub plan_ends_fit : EndsFit w i
  plan_ends_fit k l = ends_fit w h.rules.tiling (omega (arith, page_pos h.page, h.file)) k (omega (arith, h.low, h.high))

  former_below : (k : ℕ) → k ≤ n → (former_of w k).end ≤ E
  unfolding former_of
  former_below zero l = omega arith
  former_below (suc k) l = go (entry_at w k).status (former_below k (omega arith))
    where
      go : (s : Status) → (former_of w k).end ≤ E → (former_step k (entry_at w k) s (former_of w k)).end ≤ E
      go (Live c) r = ends_below w h.rules.tiling k (omega arith)
      go (Free c) r = r

  pub former_sum : f.end + P ≤ 2 ^ 64
  former_sum = omega (arith, former_below i (omega (arith, h.low, h.high)), h.file)

  -- ---- the whole

  planned_for : (ps : List Piece) (new : New) → new_entries new ≡ between P f.class f.end ps ys
      → Planned P n w (lives_with w n i j ps) (plan_of P E n f.from t new (last_end f.end ps))
  planned_for ps new is =
      let all : xs ++ (new_entries new ++ ys) ≡ fill P (lives_with w n i j ps) = rw is (plan_filled ps) in
      let size = simp (length-append, length_entries) at (ap length all) in
      record { low = from_to; high = to_n; count = omega arith; ends = plan_ends ps; filled = all }

  pub planned_without : Planned P n w (lives_with w n i j []) (plan_without P E n i j w)
  unfolding plan_without last_end
  planned_without = planned_for [] _ (between_none P f.class f.end ys)

  pub planned_with : (x : Piece) → Planned P n w (lives_with w n i j (x ∷ [])) (plan_with P E n i j w x)
  unfolding plan_with last_end
  planned_with x = planned_for (x ∷ []) _ (between_one P f.class f.end x ys)

-- ---- the plans, as the code makes them

-- a plan of what was found is a plan of what is there
module _ {P E n i j : ℕ} {w : List ℕ} (h : PlanFits P E n i j w) (fr : Former) (to : ℕ) (ef : fr ≡ former_of w i) (et : to ≡ next_of w j (n - j)) where
  pub found_sum : fr.end + P ≤ 2 ^ 64
  found_sum = omega (arith, ap (λ (v : Former). v.end) ef, former_sum h)

  pub found_low : fr.from ≤ to
  found_low = omega (arith, ap (λ (v : Former). v.from) ef, from_to h)

  pub found_high : to ≤ n
  found_high = omega (arith, to_n h)

  pub plan_without_lem : (g : Gap) (r : Plan) → g ≡ closing_gap P fr.class fr.end (entries w to (n - to))
      → r ≡ plan_of P E n fr.from to (Without g) fr.end → r ≡ plan_without P E n i j w
  unfolding plan_without
  plan_without_lem g r eg er = rw (← ef, ← et, ← eg) er

  pub plan_with_lem : (x : Piece) (k : Class) (front rear : Gap) (r : Plan) → k ≡ class_of x.status
      → front ≡ gap_of P fr.class fr.end x.address k → rear ≡ closing_gap P k (behind x) (entries w to (n - to))
      → r ≡ plan_of P E n fr.from to (With front x rear) (behind x) → r ≡ plan_with P E n i j w x
  unfolding plan_with
  plan_with_lem x k front rear r ek eg ec er = rw (← ef, ← et, ← ek, ← eg, ← ec) er
