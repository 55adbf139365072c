-- Laws of the state: one step by the walk's numbers is one step of the local test of `table`.
--
-- In this order: what is left of the page; what the state says; one entry, by its status; one step.
--
-- Assumes nothing.
use Prim.Native.Nat.{ℕ, ◌+◌, ◌≤◌, ◌<◌}
use mathlib.Core.Bool.{Bool, true, false, cond, not, ◌&&◌, ◌||◌, and-true, and-false}
use mathlib.Core.Path.{◌≡◌, refl, sym, ◌∙◌}
use native.Mathlib.Omega.{arith}
use lib.Dec.{leb, ltb, eqb}
use borrow.Author.Tests.{leb-true, ltb-true, eq-eqb, ne_eqb}
use Rattle.pages.proofs.Numbers.{split, leb_same, and_left, and_right, not_both}
use Rattle.pages.proofs.PageLaws.{dec_border, true_border, false_border}
use Rattle.pages.proofs.PageLaws.{left_down, left_of, left_full, left_within, left_exact, left_beyond}
use Rattle.pages.specs.Pages.{borderb, down, left}
use Rattle.pieces.proofs.PieceLaws.{kind_true, kind_of_lem, status_kind, kind_status}
use Rattle.pieces.specs.Pieces.{class_of, smallb, freeb, same_class, large_freeb, kind_of, kindb, status_of}
use Rattle.pieces.specs.Words.{piece_of}
use Rattle.pieces.specs.declared.Class.TheVariants.{SmallMetadata, SmallRaw, Large}
use Rattle.pieces.specs.declared.Words.{Words}
use Rattle.pieces.specs.declared.Status.TheVariants.{Live, Free}
use Rattle.pieces.specs.declared.Status.{Status}
use Rattle.table.specs.Local.{withinb, shapeb, besideb, cutb, entryb}
use Rattle.walk.proofs.StepLaws.{behind_within, behind_exact, behind_beyond}
use Rattle.walk.specs.Walk.{at_border, behind_free_large, border_stateb, state_of, small_followsb, live_largeb, free_large_followsb, free_largeb, large_rulesb}
use Rattle.walk.specs.Walk.{within_left, left_behind, walk_behind, walk_at, step_if, small_entryb, large_entryb, stepb, stepped}
use Rattle.std.specs.Prelude.{Some, None}
use Rattle.walk.specs.declared.Walk.{Walk}

-- ---- what is left of the page

module _ (P : ℕ) (pos : 0 < P) (a : ℕ) where
  within_left_lem : (z : ℕ) → within_left P (left P a) z ≡ withinb P a z
  within_left_lem z =
      let e : leb z (left P a) ≡ leb (a + z) (down P a + P) =
      leb_same z (left P a) (a + z) (down P a + P) (λ h. omega (arith, left_down P pos a)) (λ h. omega (arith, left_down P pos a)) in
      rw e

  border_left : eqb (left P a) P ≡ borderb P a
  border_left =
      elim (dec_border P a) [
        | yes b ↦ eq-eqb (left P a) P (left_of P pos b) ∙ sym (true_border b)
        | no nb ↦ ne_eqb (left P a) P (λ e. nb (left_full P pos e)) ∙ sym (false_border P a nb)
      ]

  left_behind_lem : (z : ℕ) → left_behind P (left P a) z ≡ left P (a + z)
  left_behind_lem z =
      split (left P a) z
      (λ h. split z (left P a)
      (λ k. let e : z ≡ left P a = omega arith in behind_exact P (left P a) z e ∙ sym (left_exact P pos a z e))
      (λ k. behind_beyond P (left P a) z h (λ e. omega arith) ∙ sym (left_beyond P pos a z h)))
      (λ h. behind_within P (left P a) z h ∙ sym (left_within P pos a z h))

-- ---- what the state says

-- besideb, at a border or inside a page
abbrev beside_of : Bool → Status → Status → Bool
beside_of b s t = cond b (not (large_freeb s && large_freeb t)) (same_class (class_of s) (class_of t) && not (freeb s && freeb t))

-- by cases: whether it stands at a border, and whether a free large entry may follow
state_says : (b : Bool) (s : Status)
    → (border_stateb (state_of b (kind_of s)) ≡ b) × (free_large_followsb (state_of b (kind_of s)) ≡ beside_of b s (Free Large))
unfolding state_of
state_says true (Live SmallMetadata) = (refl, refl)
state_says true (Live SmallRaw) = (refl, refl)
state_says true (Live Large) = (refl, refl)
state_says true (Free SmallMetadata) = (refl, refl)
state_says true (Free SmallRaw) = (refl, refl)
state_says true (Free Large) = (refl, refl)
state_says false (Live SmallMetadata) = (refl, refl)
state_says false (Live SmallRaw) = (refl, refl)
state_says false (Live Large) = (refl, refl)
state_says false (Free SmallMetadata) = (refl, refl)
state_says false (Free SmallRaw) = (refl, refl)
state_says false (Free Large) = (refl, refl)

pub state_most : (b : Bool) (s : Status) → state_of b (kind_of s) ≤ behind_free_large
unfolding state_of
state_most true s = go (eqb (kind_of s) (kind_of (Free Large)))
  where
    go : (t : Bool) → cond t behind_free_large at_border ≤ behind_free_large
    go true = omega arith
    go false = omega arith
state_most false s = omega (arith, (kind_of_lem s).largest)

-- ---- one entry, by its status

small_not : (t : Status) → smallb (class_of t) ≡ true → large_freeb t ≡ false
small_not (Live c) h = refl
small_not (Free c) h = rw h

small_follows : (b : Bool) (s t : Status) → smallb (class_of t) ≡ true → small_followsb (state_of b (kind_of s)) (kind_of t) ≡ beside_of b s t
unfolding small_followsb state_of
small_follows true s t h = rw (status_kind t, h, (state_says true s).0, small_not t h, and-false (large_freeb s))
small_follows false s t h = rw (status_kind t, h, (state_says false s).0, status_kind s)

small_large : (P st : ℕ) (t : Status) (z : ℕ) (last : Bool) → smallb (class_of t) ≡ true → large_rulesb P st (kind_of t) z last ≡ false
unfolding large_rulesb
small_large P st (Live SmallMetadata) z last h = refl
small_large P st (Live SmallRaw) z last h = refl
small_large P st (Live Large) z last h = absurd (not_both h refl)
small_large P st (Free SmallMetadata) z last h = refl
small_large P st (Free SmallRaw) z last h = refl
small_large P st (Free Large) z last h = absurd (not_both h refl)

small_shape : (P : ℕ) (t : Status) (a z : ℕ) → smallb (class_of t) ≡ true → shapeb P t a z ≡ withinb P a z
unfolding shapeb
small_shape P (Live SmallMetadata) a z h = refl
small_shape P (Live SmallRaw) a z h = refl
small_shape P (Live Large) a z h = absurd (not_both h refl)
small_shape P (Free SmallMetadata) a z h = refl
small_shape P (Free SmallRaw) a z h = refl
small_shape P (Free Large) a z h = absurd (not_both h refl)

cut_other : (P : ℕ) (t : Status) (z : ℕ) (last : Bool) → large_freeb t ≡ false → cutb P t z last ≡ true
unfolding cutb
cut_other P t z last h = rw (h, and-false last)

cut_free : (P z : ℕ) (last : Bool) → cutb P (Free Large) z last ≡ (not last || ltb z P)
unfolding cutb
cut_free P z last = rw (and-true last)

-- the rules of `table` for an entry of z bytes and status t at a, behind one of status s
abbrev rulesb : ℕ → Status → ℕ → Status → ℕ → Bool → Bool
rulesb P s a t z last = shapeb P t a z && (besideb P s a t && cutb P t z last)

-- the state behind an entry of status s that ends at a
abbrev state_at : ℕ → ℕ → Status → ℕ
state_at P a s = state_of (borderb P a) (kind_of s)

module _ (P : ℕ) (s : Status) (a z : ℕ) (last : Bool) where
  rules_small : (t : Status) → smallb (class_of t) ≡ true → rulesb P s a t z last ≡ (withinb P a z && small_followsb (state_at P a s) (kind_of t))
  unfolding besideb
  rules_small t h =
      rw (small_shape P t a z h, cut_other P t z last (small_not t h), small_follows (borderb P a) s t h, and-true (beside_of (borderb P a) s t))

  rules_live : rulesb P s a (Live Large) z last ≡ live_largeb P (state_at P a s) z
  unfolding live_largeb shapeb besideb
  rules_live = rw (cut_other P (Live Large) z last refl, (state_says (borderb P a) s).0) (go (borderb P a))
    where
      go : (b : Bool) → ((b && leb P z) && (beside_of b s (Live Large) && true)) ≡ (leb P z && b)
      go true = rw (and-false (large_freeb s))
      go false = sym (and-false (leb P z))

  rules_free : rulesb P s a (Free Large) z last ≡ free_largeb P (state_at P a s) z last
  unfolding free_largeb shapeb besideb
  rules_free = rw (cut_free P z last, (state_says (borderb P a) s).1)

-- ---- one step

-- the order in which `stepb` tests, and that of `entryb`: within the file, at its place, some bytes, then what is asked of its class
small_order : (r q o w f : Bool) → (r && (q && cond f (o && w) (o && (r && false)))) ≡ (q && (o && (r && (w && f))))
small_order r false o w f = and-false r
small_order r true false w true = and-false r
small_order r true false w false = and-false r
small_order false true true w f = refl
small_order true true true w true = sym (and-true w)
small_order true true true w false = sym (and-false w)

large_order : (r q o g : Bool) → (r && (q && (o && (r && g)))) ≡ (q && (o && (r && g)))
large_order true q o g = refl
large_order false false o g = refl
large_order false true false g = refl
large_order false true true g = refl

-- what `stepb` and `entryb` test of an entry of z bytes and status t at a, where q tells whether it says that place
module _ (P : ℕ) (pos : 0 < P) (E : ℕ) (s : Status) (a z : ℕ) (last q : Bool) where
  abbrev here : Walk
  here = walk_at P a s

  abbrev within : Bool
  within = leb (a + z) E

  Tests : Status → Type 0
  Tests t =
      (within && (q && cond (small_followsb here.state (kind_of t)) (small_entryb P here z) (large_entryb P E here z (kind_of t) last)))
      ≡ (q && (leb 1 z && (within && rulesb P s a t z last)))

  tests_small : (t : Status) → smallb (class_of t) ≡ true → Tests t
  unfolding Tests
  tests_small t h =
      rw (
        border_left P pos a,
        within_left_lem P pos a z,
        small_large P (state_at P a s) t z last h,
        rules_small P s a z last t h,
      ) (small_order within q (leb 1 z) (withinb P a z) (small_followsb (state_at P a s) (kind_of t)))

  tests_large : (t : Status) → small_followsb (state_at P a s) (kind_of t) ≡ false
      → rulesb P s a t z last ≡ large_rulesb P (state_at P a s) (kind_of t) z last → Tests t
  unfolding Tests
  tests_large t f g = rw (border_left P pos a, f, g) (large_order within q (leb 1 z) (large_rulesb P (state_at P a s) (kind_of t) z last))

  tests : (t : Status) → Tests t
  unfolding small_followsb status_of large_rulesb
  tests (Live SmallMetadata) = tests_small (Live SmallMetadata) refl
  tests (Live SmallRaw) = tests_small (Live SmallRaw) refl
  tests (Live Large) = tests_large (Live Large) refl (rules_live P s a z last)
  tests (Free SmallMetadata) = tests_small (Free SmallMetadata) refl
  tests (Free SmallRaw) = tests_small (Free SmallRaw) refl
  tests (Free Large) = tests_large (Free Large) refl (rules_free P s a z last)

-- a step by the walk's numbers that ends within the file is the kind with the test of the entry
module _ (P : ℕ) (pos : 0 < P) (E : ℕ) (s : Status) (a : ℕ) (u : Words) (last : Bool) where
  pub step_entry : (leb (a + u.size) E && stepb P E (walk_at P a s) u last) ≡ (kindb u.kind && entryb P E s a (piece_of u) last)
  unfolding stepb entryb Tests
  step_entry = go (kindb u.kind) refl
    where
      go : (k : Bool) → kindb u.kind ≡ k
          → (leb (a + u.size) E && stepb P E (walk_at P a s) u last) ≡ (kindb u.kind && entryb P E s a (piece_of u) last)
      go true e =
          rw e (rw (kind_status u.kind (kind_true u.kind e)) at (tests P pos E s a u.size last (eqb u.address a) (status_of u.kind)))
      go false e = rw (e, and-false (eqb u.address a), and-false (leb (a + u.size) E))

  -- a small entry grows the walk by less than a page, and a large one ends within the file
  pub step_grows : (m : ℕ) → a ≤ E + m → stepb P E (walk_at P a s) u last ≡ true → a + u.size ≤ E + m + P
  unfolding stepb
  step_grows m h e =
      go (small_followsb (walk_at P a s).state u.kind) (and_right (kindb u.kind) _ (and_right (eqb u.address a) _ e))
    where
      go : (f : Bool) → cond f (small_entryb P (walk_at P a s) u.size) (large_entryb P E (walk_at P a s) u.size u.kind last) ≡ true
          → a + u.size ≤ E + m + P
      go true t =
          let under = ltb-true u.size P (and_left (ltb u.size P) _ (and_right (leb 1 u.size) _ t)) in
          omega arith
      go false t =
          let within = leb-true (a + u.size) E (and_left (leb (a + u.size) E) _ (and_right (leb 1 u.size) _ t)) in
          omega arith

  pub record Went (next : Walk) : Type 0 where
    pub holds : stepb P E (walk_at P a s) u last ≡ true
    pub is : next ≡ walk_at P (a + u.size) (status_of u.kind)

  pub went : (next : Walk) → stepped P E (walk_at P a s) u last ≡ Some next → Went next
  unfolding stepb
  went next e = go (stepb P E (walk_at P a s) u last) refl e
    where
      go : (t : Bool) → stepb P E (walk_at P a s) u last ≡ t → step_if t P (walk_at P a s) u.size u.kind ≡ Some next → Went next
      go true h q =
          let kind = kind_status u.kind (kind_true u.kind (and_left (kindb u.kind) _ (and_right (eqb u.address a) _ h))) in
          let on : next ≡ walk_behind P (a + u.size) (left_behind P (left P a) u.size) u.kind = cc in
          record { holds = h; is = on ∙ rw (left_behind_lem P pos a u.size, kind) }
      go false h q = let z : ◌≡◌ {A = ℕ} 0 1 = cc in absurd (omega arith)

  pub broke : stepped P E (walk_at P a s) u last ≡ None → stepb P E (walk_at P a s) u last ≡ false
  broke e = go (stepb P E (walk_at P a s) u last) refl e
    where
      go : (t : Bool) → stepb P E (walk_at P a s) u last ≡ t → step_if t P (walk_at P a s) u.size u.kind ≡ None
          → stepb P E (walk_at P a s) u last ≡ false
      go true h q = let z : ◌≡◌ {A = ℕ} 0 1 = cc in absurd (omega arith)
      go false h q = h
