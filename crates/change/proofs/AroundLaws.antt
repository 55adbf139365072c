-- Laws of the live pieces on the two sides of a place.
--
-- In this order: lists that end in a live piece; the former live piece (FormerIs, `former_is`) and a turn of the walk to it; the next one
-- (NextIs, `next_is`) and a turn of the walk to it.
--
-- Assumes nothing.
use Prim.Native.Nat.{ℕ, zero, suc, ◌+◌, ◌-◌, ◌≤◌, ◌<◌}
use mathlib.Core.Bool.{true, false, cond}
use mathlib.Core.List.{List, [], ◌∷◌, ◌++◌, append-nil}
use mathlib.Core.Path.{◌≡◌, refl, sym, ap, ◌∙◌}
use native.Mathlib.Numerals.{add-one}
use native.Mathlib.Omega.{arith}
use Rattle.change.specs.Change.{former_step, former_of, next_of}
use Rattle.change.specs.declared.around.Former.{Former}
use Rattle.pieces.proofs.WordLaws.{entries_snoc}
use Rattle.pieces.specs.Pieces.{piece, behind, class_of, freeb}
use Rattle.pieces.specs.Words.{entry_at, entries}
use Rattle.pieces.specs.declared.Class.TheVariants.{Large}
use Rattle.pieces.specs.declared.Class.{Class}
use Rattle.pieces.specs.declared.Piece.{Piece}
use Rattle.pieces.specs.declared.Status.TheVariants.{Live, Free}
use Rattle.pieces.specs.declared.Status.{Status}
use Rattle.rules.proofs.SpliceLaws.{EndsLive, ends_none, ends_live, ends_free, StartsLive, starts_none, starts_live}
use Rattle.rules.specs.Between.{last_class}
use Rattle.table.proofs.LivesLaws.{lives_live, lives_free}
use Rattle.table.proofs.LivesLaws.{lives_append}
use Rattle.table.specs.Fill.{lives, last_end}

-- ---- a live piece behind a list

live_piece : (x : Piece) {c : Class} → x.status ≡ Live c → x ≡ piece x.address x.size (Live c)
live_piece x e = ap (λ (t : Status). piece x.address x.size t) e

ends_snoc : (xs : List Piece) (a z : ℕ) (c : Class) → EndsLive (xs ++ (piece a z (Live c) ∷ []))
ends_snoc [] a z c = ends_live ends_none
ends_snoc (x ∷ xs) a z c = go x.status refl xs (ends_snoc xs a z c)
  where
    go : (t : Status) → x.status ≡ t → (ys : List Piece) → EndsLive (ys ++ (piece a z (Live c) ∷ []))
        → EndsLive (x ∷ (ys ++ (piece a z (Live c) ∷ [])))
    go (Live m) e ys h = rw (live_piece x e) (ends_live h)
    go (Free m) e [] h = rw (ap (λ (t : Status). piece x.address x.size t) e) (ends_free h)
    go (Free m) e (y ∷ ys) h = rw (ap (λ (t : Status). piece x.address x.size t) e) (ends_free h)

pub class_snoc : (k : Class) (ps : List Piece) (x : Piece) → last_class k (ps ++ (x ∷ [])) ≡ class_of x.status
unfolding last_class
class_snoc k [] x = refl
class_snoc k (p ∷ ps) x = class_snoc (class_of p.status) ps x

pub end_snoc : (a : ℕ) (ps : List Piece) (x : Piece) → last_end a (ps ++ (x ∷ [])) ≡ behind x
unfolding last_end
end_snoc a [] x = refl
end_snoc a (p ∷ ps) x = end_snoc (behind p) ps x

-- ---- the former live piece

pub record FormerIs (w : List ℕ) (i : ℕ) (f : Former) : Type 0 where
  pub le : f.from ≤ i
  pub live : EndsLive (entries w 0 f.from)
  pub class_is : last_class Large (lives (entries w 0 f.from)) ≡ f.class
  pub end_is : last_end 0 (lives (entries w 0 f.from)) ≡ f.end
  pub same : lives (entries w 0 i) ≡ lives (entries w 0 f.from)

former_here : (w : List ℕ) (i : ℕ) (c : Class) → (entry_at w i).status ≡ Live c
    → FormerIs w (suc i) (record { from = suc i; class = c; end = behind (entry_at w i) })
unfolding lives
former_here w i c e =
    let x : Piece = entry_at w i in
    let xs : List Piece = entries w 0 i in
    let s : entries w 0 (suc i) ≡ xs ++ (x ∷ []) = entries_snoc w i in
    let l : lives (xs ++ (x ∷ [])) ≡ lives xs ++ (x ∷ []) = lives_append xs (x ∷ []) ∙ ap (λ (v : List Piece). lives xs ++ v) (lives_live x [] e) in
    record {
      le = omega arith;
      live = rw (s, live_piece x e) (ends_snoc xs x.address x.size c);
      class_is = rw (s, l) (class_snoc Large (lives xs) x ∙ ap class_of e);
      end_is = rw (s, l) (end_snoc 0 (lives xs) x);
      same = refl;
    }

former_before : (w : List ℕ) (i : ℕ) (c : Class) (f : Former) → (entry_at w i).status ≡ Free c → FormerIs w i f → FormerIs w (suc i) f
unfolding lives
former_before w i c f e h =
    let x : Piece = entry_at w i in
    let l : lives (entries w 0 (suc i)) ≡ lives (entries w 0 i) =
    rw (entries_snoc w i, lives_append (entries w 0 i) (x ∷ []), lives_free x [] e) (append-nil (lives (entries w 0 i))) in
    record { le = omega (arith, h.le); live = h.live; class_is = h.class_is; end_is = h.end_is; same = l ∙ h.same }

pub former_is : (w : List ℕ) (i : ℕ) → FormerIs w i (former_of w i)
unfolding former_of entries lives last_class last_end
former_is w zero = record { le = omega arith; live = ends_none; class_is = refl; end_is = refl; same = refl }
former_is w (suc i) = go (entry_at w i).status refl (former_is w i)
  where
    go : (t : Status) → (entry_at w i).status ≡ t → FormerIs w i (former_of w i) → FormerIs w (suc i) (former_step i (entry_at w i) t (former_of w i))
    go (Live c) e h = former_here w i c e
    go (Free c) e h = former_before w i c (former_of w i) e h

-- a turn of the walk down
former_step_lem : (w : List ℕ) (i : ℕ) (x : Piece) (t : Status) → 0 < i → x ≡ entry_at w (i - 1) → x.status ≡ t
    → former_of w i ≡ former_step (i - 1) x t (former_of w (i - 1))
unfolding former_of
former_step_lem w zero x t h is e = absurd (omega arith)
former_step_lem w (suc i) x t h is e =
    let k : suc i - 1 ≡ i = omega arith in
    rw (← e, is, k)

pub former_live : (w : List ℕ) (i : ℕ) (x : Piece) (c : Class) → 0 < i → x ≡ entry_at w (i - 1) → x.status ≡ Live c
    → former_of w i ≡ record { from = i; class = c; end = behind x }
former_live w i x c h is e =
    let k : suc (i - 1) ≡ i = omega arith in
    former_step_lem w i x (Live c) h is e ∙ ap (λ (j : ℕ). record { from = j; class = c; end = behind x }) k

pub former_free : (w : List ℕ) (i : ℕ) (x : Piece) (c : Class) → 0 < i → x ≡ entry_at w (i - 1) → x.status ≡ Free c
    → former_of w i ≡ former_of w (i - 1)
former_free w i x c h is e = former_step_lem w i x (Free c) h is e

-- ---- the next live piece

pub record NextIs (w : List ℕ) (j k t : ℕ) : Type 0 where
  pub ge : j ≤ t
  pub le : t ≤ j + k
  pub starts : StartsLive (entries w t (j + k - t))
  pub same : lives (entries w j k) ≡ lives (entries w t (j + k - t))

next_here : (w : List ℕ) (j k : ℕ) (c : Class) → (entry_at w j).status ≡ Live c → NextIs w j (suc k) j
unfolding entries
next_here w j k c e =
    let m : j + suc k - j ≡ suc k = omega arith in
    record {
      ge = omega arith;
      le = omega arith;
      starts = rw (m, live_piece (entry_at w j) e) starts_live;
      same = rw m;
    }

next_later : (w : List ℕ) (j k : ℕ) (c : Class) (t : ℕ) → (entry_at w j).status ≡ Free c → NextIs w (suc j) k t → NextIs w j (suc k) t
unfolding entries
next_later w j k c t e h =
    let m : j + suc k - t ≡ suc j + k - t = omega arith in
    record {
      ge = omega (arith, h.ge);
      le = omega (arith, h.le);
      starts = rw m h.starts;
      same = lives_free (entry_at w j) (entries w (suc j) k) e ∙ rw m h.same;
    }

pub next_is : (w : List ℕ) (j k : ℕ) → NextIs w j k (next_of w j k)
unfolding next_of entries
next_is w j zero =
    let m : j + 0 - j ≡ 0 = omega arith in
    record { ge = omega arith; le = omega arith; starts = rw m starts_none; same = rw m }
next_is w j (suc k) = go (entry_at w j).status refl (next_is w (suc j) k)
  where
    go : (t : Status) → (entry_at w j).status ≡ t → NextIs w (suc j) k (next_of w (suc j) k) → NextIs w j (suc k) (cond (freeb t) (next_of w (suc j) k) j)
    go (Live c) e h = next_here w j k c e
    go (Free c) e h = next_later w j k c (next_of w (suc j) k) e h

-- a turn of the walk up
module _ (w : List ℕ) (n t : ℕ) (x : Piece) (is : x ≡ entry_at w t) (lt : t < n) where
  pub next_stop : freeb x.status ≡ false → next_of w t (n - t) ≡ t
  unfolding next_of
  next_stop e =
      let m : n - t ≡ suc (n - (t + 1)) = omega arith in
      let f : freeb (entry_at w t).status ≡ false = sym (ap (λ (y : Piece). freeb y.status) is) ∙ e in
      rw (m, f)

  pub next_on : freeb x.status ≡ true → next_of w t (n - t) ≡ next_of w (t + 1) (n - (t + 1))
  unfolding next_of
  next_on e =
      let m : n - t ≡ suc (n - (t + 1)) = omega arith in
      let f : freeb (entry_at w t).status ≡ true = sym (ap (λ (y : Piece). freeb y.status) is) ∙ e in
      rw (m, f, add-one t)

pub next_none : (w : List ℕ) (n t : ℕ) → n ≤ t → next_of w t (n - t) ≡ t
unfolding next_of
next_none w n t h = let m : n - t ≡ 0 = omega arith in rw m
