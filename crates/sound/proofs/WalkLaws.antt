-- Laws of the walk: what is to be tested from an entry on stays the same from turn to turn.
--
-- In this order: what is left to test; a turn of the loop.
--
-- Assumes nothing.
use Prim.Native.Nat.{ℕ, zero, suc, ◌+◌, ◌-◌, ◌*◌, ◌≤◌, ◌<◌}
use mathlib.Core.Bool.{Bool, true, false, ◌&&◌, and-false}
use mathlib.Core.List.{List, [], ◌∷◌}
use mathlib.Core.Path.{◌≡◌, refl, sym, ap, ◌∙◌}
use native.Mathlib.Numerals.{add-one}
use native.Mathlib.Omega.{arith}
use lib.Dec.{leb, eqb}
use borrow.Author.Tests.{le-leb, lt-leb, eq-eqb, ne_eqb}
use Rattle.pages.proofs.Numbers.{split, and-false as second_fails}
use Rattle.pages.proofs.PageLaws.{page_pos, down_le, left_down}
use Rattle.pages.specs.Pages.{largest_page, left}
use Rattle.pieces.proofs.WordLaws.{entry_said, entries_next, entries_none}
use Rattle.pieces.specs.Pieces.{kindb, status_of}
use Rattle.pieces.specs.Words.{kind_at, words_at, piece_of, entry_at, entries}
use Rattle.pieces.specs.declared.Class.TheVariants.{Large}
use Rattle.pieces.specs.declared.Piece.{Piece}
use Rattle.pieces.specs.declared.Words.{Words}
use Rattle.pieces.specs.declared.Status.TheVariants.{Live}
use Rattle.pieces.specs.declared.Status.{Status}
use Rattle.table.specs.Local.{entryb, noneb, chainb, kindsb}
use Rattle.walk.proofs.StateLaws.{state_most, step_entry, step_grows, went, broke}
use Rattle.walk.specs.Walk.{walk_at, Walked, stepb, stepped, WalkFits}
use Rattle.std.specs.Prelude.{Some, None}
use Rattle.walk.specs.declared.Walk.{Walk}

-- ---- what is left to test

last_entry : (w : List ℕ) (n i : ℕ) → i < n → noneb (entries w (i + 1) (n - (i + 1))) ≡ eqb (i + 1) n
last_entry w n i h =
    split n (i + 1)
    (λ l. rw (entries_none w n (i + 1) l, eq-eqb (i + 1) n (omega arith)))
    (λ l. rw (entries_next w n (i + 1) l, ne_eqb (i + 1) n (λ e. omega arith)))

-- behind the end no entries hold
chain_past : (P E : ℕ) (s : Status) (a : ℕ) (es : List Piece) → E < a → chainb P E s a es ≡ false
unfolding chainb entryb
chain_past P E s a [] h = ne_eqb a E (λ e. omega arith)
chain_past P E s a (x ∷ es) h =
    rw (lt-leb (a + x.size) E (omega arith), and-false (leb 1 x.size), and-false (eqb x.address a))

pairs : (j k l m : Bool) → ((j && k) && (l && m)) ≡ ((j && l) && (k && m))
pairs false k l m = refl
pairs true true l m = refl
pairs true false true m = refl
pairs true false false m = refl

-- what is to be tested from entry i on, behind an entry of status s that ends at a
abbrev pub rest : ℕ → ℕ → List ℕ → ℕ → ℕ → Status → ℕ → Bool
rest P E w n i s a = kindsb w i (n - i) && chainb P E s a (entries w i (n - i))

module _ (P E : ℕ) (w : List ℕ) (n i : ℕ) (s : Status) (a : ℕ) where
  rest_end : n ≤ i → rest P E w n i s a ≡ eqb a E
  unfolding kindsb chainb
  rest_end h = let e : n - i ≡ 0 = omega arith in rw (entries_none w n i h, e)

  module _ (u : Words) (is : u ≡ words_at w i) (h : i < n) where
    rest_next : rest P E w n i s a
        ≡ ((kindb u.kind && entryb P E s a (piece_of u) (eqb (i + 1) n)) && rest P E w n (i + 1) (status_of u.kind) (a + u.size))
    unfolding kindsb chainb
    rest_next =
        let e : n - i ≡ suc (n - (i + 1)) = omega arith in
        let kind : kind_at w i ≡ u.kind = ap (λ (t : Words). t.kind) (sym is) in
        let kinds : kindsb w i (n - i) ≡ (kindb u.kind && kindsb w (i + 1) (n - (i + 1))) = rw (e, kind, add-one i) in
        rw (kinds, entries_next w n i h, last_entry w n i h, entry_said w i u is) (pairs (kindb u.kind) _ _ _)

    module _ (pos : 0 < P) where
      abbrev test : Bool
      test = kindb u.kind && entryb P E s a (piece_of u) (eqb (i + 1) n)

      rest_fails : test ≡ false → rest P E w n i s a ≡ false
      rest_fails t = rest_next ∙ rw t

      -- a step that goes on leaves the rest to be tested; where it ends behind the end, neither holds
      rest_on : stepb P E (walk_at P a s) u (eqb (i + 1) n) ≡ true → rest P E w n i s a ≡ rest P E w n (i + 1) (status_of u.kind) (a + u.size)
      rest_on e =
          split (a + u.size) E
          (λ l. let t : test ≡ true = sym (step_entry P pos E s a u (eqb (i + 1) n)) ∙ rw (le-leb (a + u.size) E l, e) in rest_next ∙ rw t)
          (λ l. let t : test ≡ false = sym (step_entry P pos E s a u (eqb (i + 1) n)) ∙ rw (lt-leb (a + u.size) E l) in
          rest_fails t ∙ sym (second_fails (kindsb w (i + 1) (n - (i + 1))) (chain_past P E _ (a + u.size) _ l)))

      rest_broken : stepb P E (walk_at P a s) u (eqb (i + 1) n) ≡ false → rest P E w n i s a ≡ false
      rest_broken e = rest_fails (sym (step_entry P pos E s a u (eqb (i + 1) n)) ∙ rw (e, and-false (leb (a + u.size) E)))

-- ---- a turn of the loop

-- the status of the entry before entry i; before the first it is live large
unfoldable pub status_before : List ℕ → ℕ → Status
status_before w zero = Live Large
status_before w (suc i) = (entry_at w i).status

-- the test of all entries
abbrev pub entriesb : ℕ → ℕ → ℕ → List ℕ → Bool
entriesb P E n w = kindsb w 0 n && chainb P E (Live Large) 0 (entries w 0 n)

-- the walk v stands before entry i as it should, no further behind the end than i pages, and what is left to test is the whole test
pub record Standing (P E n : ℕ) (w : List ℕ) (v : Walk) (i : ℕ) : Type 0 where
  pub among : i ≤ n
  pub near : v.at ≤ E + i * largest_page
  pub carried : v ≡ walk_at P v.at (status_before w i)
  pub same : rest P E w n i (status_before w i) v.at ≡ entriesb P E n w

pub standing_start : (P E n : ℕ) (w : List ℕ) → Standing P E n w (walk_at P 0 (Live Large)) 0
unfolding status_before
standing_start P E n w =
    let e : n - 0 ≡ n = omega arith in
    record { among = omega arith; near = omega arith; carried = refl; same = rw e }

module _ {P E n : ℕ} {w : List ℕ} (ranges : WalkFits P E n w) {v : Walk} {i : ℕ} (stands : Standing P E n w v i) where
  abbrev a : ℕ
  a = v.at

  abbrev s : Status
  s = status_before w i

  pub standing_walked : i < n → Walked P v
  standing_walked h =
      let pos = page_pos ranges.page in
      record {
        page = pos;
        room = omega (arith, ranges.page.largest, ranges.end, ranges.count, stands.near);
        within = omega (arith, ap (λ (t : Walk). t.left) stands.carried, left_down P pos a, down_le P pos a);
        state = rw (ap (λ (t : Walk). t.state) stands.carried) (state_most (eqb (left P a) P) s);
      }

  pub standing_end : n ≤ i → eqb a E ≡ entriesb P E n w
  standing_end h = sym (rest_end P E w n i s a h) ∙ stands.same

  module _ (h : i < n) (u : Words) (is : u ≡ words_at w i) where
    pub standing_on : (next : Walk) → stepped P E v u (eqb (i + 1) n) ≡ Some next → Standing P E n w next (i + 1)
    unfolding status_before
    standing_on next e =
        let pos = page_pos ranges.page in
        let g = went P pos E s a u (eqb (i + 1) n) next (ap (λ (t : Walk). stepped P E t u (eqb (i + 1) n)) (sym stands.carried) ∙ e) in
        let at : next.at ≡ a + u.size = ap (λ (t : Walk). t.at) g.is in
        let status : status_of u.kind ≡ status_before w (i + 1) = rw add-one (sym (ap (λ (x : Piece). x.status) (entry_said w i u is))) in
        let grown = step_grows P pos E s a u (eqb (i + 1) n) (i * largest_page) stands.near g.holds in
        record {
          among = omega arith;
          near = omega (arith, ranges.page.largest);
          carried = g.is ∙ rw (at, status);
          same = rw (at, ← status) (sym (rest_on P E w n i s a u is h pos g.holds) ∙ stands.same);
        }

    pub standing_broken : stepped P E v u (eqb (i + 1) n) ≡ None → entriesb P E n w ≡ false
    standing_broken e =
        let pos = page_pos ranges.page in
        let b = broke P pos E s a u (eqb (i + 1) n) (ap (λ (t : Walk). stepped P E t u (eqb (i + 1) n)) (sym stands.carried) ∙ e) in
        sym stands.same ∙ rest_broken P E w n i s a u is h pos b
