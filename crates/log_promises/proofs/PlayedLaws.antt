-- Laws of records that are played: how many agree before the first one that does not.
--
--   First P m             m is the first number without the property P
--   first_le, first_most, first_is   a number is not above m, where all below it have P; not below it, where it has not P; and m, where both hold
--   first_next            the first one, by the test of 0 and by the first one behind it
--   agreed f rs           how many of the records rs agree
--   agreed_cons, full_cons   it of one record more; all of them agree
--   agreed_first          it is the first record that does not agree
--   played_left           records that all agree leave what specs/Logs.antt says
--   left_append           what two lists of records leave
--   agreed_full, agreed_front   how many of two lists agree, where all of the first do; how many of the first, by how many of both
--
-- Not here: laws of blocks and of the judgement (Judging).
use Prim.Native.Nat.{ℕ, zero, suc, ◌+◌, ◌≤◌, ◌<◌, min}
use mathlib.Core.Bool.{Bool, true, false, cond}
use mathlib.Core.List.{List, [], ◌∷◌, ◌++◌}
use mathlib.Core.Logic.{◌↔◌}
use mathlib.Core.Path.{◌≡◌, refl, sym}
use native.Mathlib.Nat.{zero-add}
use native.Mathlib.Omega.{arith}
use lib.ListN.{length}
use Rattle.log_blocks.specs.declared.records.Record.{Record}
use Rattle.log_play.specs.Playing.{File, heard, agreesb, one_more, played}
use Rattle.log_promises.specs.Logs.{left_by, AgreesFrom}
use Rattle.pages.proofs.Numbers.{split, not_both}

-- ---- the first number without a property

pub record First (P : ℕ → Type 0) (m : ℕ) : Type 0 where
  pub before : (r : ℕ) → r < m → P r
  pub stops : P m → ⊥

pub first_le : {P : ℕ → Type 0} {m : ℕ} → First P m → (n : ℕ) → ((r : ℕ) → r < n → P r) → n ≤ m
first_le {m = m} first n all = split n m (λ h. h) (λ h. absurd (first.stops (all m h)))

pub first_most : {P : ℕ → Type 0} {m : ℕ} → First P m → (n : ℕ) → (P n → ⊥) → m ≤ n
first_most {m = m} first n none = split m n (λ h. h) (λ h. absurd (none (first.before n h)))

pub first_is : {P : ℕ → Type 0} {m : ℕ} → First P m → (n : ℕ) → ((r : ℕ) → r < n → P r) → (P n → ⊥) → m ≡ n
first_is first n all none = omega (arith, first_le first n all, first_most first n none)

-- by the test t of the number 0, and by the numbers behind it
pub first_next : {P Q : ℕ → Type 0} {m : ℕ} (t : Bool) → P 0 ↔ (t ≡ true) → ((r : ℕ) → P (suc r) ↔ Q r) → First Q m → First P (cond t (suc m) 0)
first_next false start next first = record { before = λ r h. absurd (omega arith); stops = λ p. not_both (start.0 p) refl }
first_next {P} {Q} {m} true start next first = record { before = go; stops = λ p. first.stops ((next m).0 p) }
  where
    go : (r : ℕ) → r < suc m → P r
    go zero h = start.1 refl
    go (suc r) h = (next r).1 (first.before r (omega arith))

-- ---- records

abbrev pub agreed : File → List Record → ℕ
agreed f rs = (played f rs).agreed

agreed_cons : (f : File) (r : Record) (rs : List Record) → agreed f (r ∷ rs) ≡ cond (agreesb r (heard r f)) (suc (agreed (heard r f).file rs)) 0
unfolding played
agreed_cons f r rs = go (agreesb r (heard r f))
  where
    go : (t : Bool) → (cond t (one_more (played (heard r f).file rs)) (record { agreed = 0; file = (heard r f).file })).agreed
        ≡ cond t (suc (agreed (heard r f).file rs)) 0
    go true = refl
    go false = refl

pub agreed_first : (f : File) (rs : List Record) → First (AgreesFrom f rs) (agreed f rs)
unfolding played left_by
agreed_first f [] = record { before = λ r h. absurd (omega arith); stops = λ a. omega (arith, a.0) }
agreed_first f (r ∷ rs) =
    rw (agreed_cons f r rs)
    (first_next (agreesb r (heard r f)) ((λ a. a.1), (λ e. (omega arith, e)))
    (λ k. ((λ a. (omega (arith, a.0), a.1)), (λ a. (omega (arith, a.0), a.1))))
    (agreed_first (heard r f).file rs))

-- all of them agree: the first one does, and all others do
full_cons : (f : File) (r : Record) (rs : List Record) → suc (length rs) ≤ agreed f (r ∷ rs)
    → (agreesb r (heard r f) ≡ true) × (length rs ≤ agreed (heard r f).file rs)
full_cons f r rs h = go (agreesb r (heard r f)) (rw (agreed_cons f r rs) at h)
  where
    go : {a n : ℕ} (t : Bool) → suc n ≤ cond t (suc a) 0 → (t ≡ true) × (n ≤ a)
    go true h = (refl, omega arith)
    go false h = absurd (omega arith)

pub played_left : (f : File) (rs : List Record) → length rs ≤ agreed f rs → (played f rs).file ≡ left_by f rs
unfolding played left_by
played_left f [] h = refl
played_left f (r ∷ rs) h = let c = full_cons f r rs h in rw c.0 (played_left (heard r f).file rs c.1)

pub left_append : (f : File) (rs ss : List Record) → left_by f (rs ++ ss) ≡ left_by (left_by f rs) ss
unfolding left_by
left_append f [] ss = refl
left_append f (r ∷ rs) ss = left_append (heard r f).file rs ss

pub agreed_full : (f : File) (rs ss : List Record) → length rs ≤ agreed f rs → agreed f (rs ++ ss) ≡ length rs + agreed (left_by f rs) ss
unfolding left_by
agreed_full f [] ss h = sym (zero-add _)
agreed_full f (r ∷ rs) ss h =
    let c = full_cons f r rs h in
    rw (agreed_cons f r (rs ++ ss), c.0, agreed_full (heard r f).file rs ss c.1) (omega arith)

pub agreed_front : (f : File) (rs ss : List Record) → agreed f rs ≡ min (agreed f (rs ++ ss)) (length rs)
unfolding played
agreed_front f [] ss = omega arith
agreed_front f (r ∷ rs) ss =
    rw (agreed_cons f r rs, agreed_cons f r (rs ++ ss)) (go _ (length rs) (agreesb r (heard r f)) (agreed_front (heard r f).file rs ss))
  where
    go : {a : ℕ} (b n : ℕ) (t : Bool) → a ≡ min b n → cond t (suc a) 0 ≡ min (cond t (suc b) 0) (suc n)
    go b n true e = omega arith
    go b n false e = omega arith
