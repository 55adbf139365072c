-- Laws of new entries that are told by a few numbers.
--
-- In this order: the entries of a gap and of a tail are those that two live pieces determine; how many entries are free, a gap's (gap_most at
-- most), new; pieces put one after the other.
use mathlib.Core.Path.{◌≡◌, refl, sym, ◌∙◌}
use mathlib.Core.List.{List, [], ◌∷◌, ◌++◌, append-nil}
use Prim.Native.Nat.{ℕ, ◌+◌, ◌-◌, ◌*◌, ◌≤◌, ◌<◌}
use native.Mathlib.Nat.{add-zero}
use native.Mathlib.Omega.{arith}
use lib.ListN.{length, length-append}
use borrow.Author.Tests.{lt-ltb, le-ltb}
use Rattle.pages.proofs.Numbers.{split}
use Rattle.pages.specs.Pages.{up}
use Rattle.pieces.proofs.WordLaws.{laid_none, laid_append}
use Rattle.pieces.specs.Pieces.{piece}
use Rattle.pieces.specs.Words.{entry_words, laid}
use Rattle.pieces.specs.declared.Class.TheVariants.{Large}
use Rattle.pieces.specs.declared.Class.{Class}
use Rattle.pieces.specs.declared.Piece.{Piece}
use Rattle.pieces.specs.declared.Status.TheVariants.{Free}
use Rattle.table.proofs.GapLaws.{free_none, free_here, free_cons}
use Rattle.table.specs.Fill.{free, gap, tail}
use Rattle.edit.specs.New.{gap_of, tail_of, gap_entries, new_entries, free_count, Put}
use Rattle.edit.specs.declared.gap.Gap.{Gap}
use Rattle.edit.specs.declared.new.New.TheVariants.{Without, With}
use Rattle.edit.specs.declared.new.New.{New}

-- ---- what the entries are

pub gap_entries_lem : (P : ℕ) (k : Class) (a b : ℕ) (m : Class) → gap_entries (gap_of P k a b m) ≡ gap P k a b m
unfolding gap_entries gap_of gap
gap_entries_lem P k a b m = refl

pub tail_entries : (P : ℕ) (k : Class) (a : ℕ) → gap_entries (tail_of P k a) ≡ tail P k a
unfolding gap_entries tail_of
tail_entries P k a = let b : ℕ = up P a in rw (free_here Large b, free_here k b) (append-nil (free k a b))

-- ---- how many they are

pub count_some : (a b : ℕ) → a < b → free_count a b ≡ 1
unfolding free_count
count_some a b h = rw (lt-ltb a b h)

pub count_none : (a b : ℕ) → b ≤ a → free_count a b ≡ 0
unfolding free_count
count_none a b h = rw (le-ltb a b h)

count_most : (a b : ℕ) → free_count a b ≤ 1
count_most a b = split b a (λ h. omega (arith, count_none a b h)) (λ h. omega (arith, count_some a b h))

pub counted_most : (a b r : ℕ) → r ≡ free_count a b → r ≤ 1
counted_most a b r is = omega (arith, count_most a b)

pub free_length : (c : Class) (a b : ℕ) → length (free c a b) ≡ free_count a b
free_length c a b =
    split b a (λ h. rw (free_none c a b h, count_none a b h)) (λ h. rw (free_cons c a b h, count_some a b h))

pub gap_length : (g : Gap) → length (gap_entries g) ≡ free_count g.a g.lo + free_count g.lo g.hi + free_count g.hi g.b
unfolding gap_entries
gap_length g =
    simp length-append (omega (arith, free_length g.k g.a g.lo, free_length Large g.lo g.hi, free_length g.m g.hi g.b))

-- the most entries of a gap
abbrev pub gap_most : ℕ
gap_most = 3

pub gap_most_lem : (g : Gap) → length (gap_entries g) ≤ gap_most
gap_most_lem g = omega (arith, gap_length g, count_most g.a g.lo, count_most g.lo g.hi, count_most g.hi g.b)

pub with_length : (front : Gap) (x : Piece) (rear : Gap)
    → length (new_entries (With front x rear)) ≡ length (gap_entries front) + 1 + length (gap_entries rear)
unfolding new_entries
with_length front x rear = simp length-append (omega arith)

pub new_most : (x : New) → length (new_entries x) ≤ gap_most + 1 + gap_most
unfolding new_entries
new_most (Without g) = omega (arith, gap_most_lem g)
new_most (With front x rear) = omega (arith, with_length front x rear, gap_most_lem front, gap_most_lem rear)

-- ---- one after the other

pub put_none : (w : List ℕ) (i : ℕ) (c : Class) (a b : ℕ) → b ≤ a → Put w i (free c a b) i w
put_none w i c a b h = rw (free_none c a b h) (record { behind = sym (add-zero i); words = sym (laid_none w i) })

pub put_one : {w : List ℕ} {i : ℕ} {x : Piece} {v : List ℕ} → v ≡ laid w i (x ∷ []) → Put w i (x ∷ []) (i + 1) v
put_one is = record { behind = refl; words = is }

pub put_some : (w : List ℕ) (i : ℕ) (c : Class) (a b : ℕ) (v : List ℕ) → a < b → v ≡ laid w i (piece a (b - a) (Free c) ∷ [])
    → Put w i (free c a b) (i + 1) v
put_some w i c a b v h is = rw (free_cons c a b h) (put_one is)

pub put_behind : (w : List ℕ) (i : ℕ) (c : Class) (a b r : ℕ) (v : List ℕ) → Put w i (free c a b) r v → r ≡ i + free_count a b
put_behind w i c a b r v p = omega (arith, p.behind, free_length c a b)

-- the second stand where the first end
pub put_append : {w : List ℕ} {i : ℕ} {xs : List Piece} {r : ℕ} {v : List ℕ} {ys : List Piece} {s : ℕ} {u : List ℕ}
    → r * entry_words ≤ length w → Put w i xs r v → Put v r ys s u → Put w i (xs ++ ys) s u
put_append {w = w} {i = i} {xs = xs} {ys = ys} fits p q =
    record {
      behind = rw length-append (omega (arith, p.behind, q.behind));
      words = q.words ∙ rw (p.behind, p.words) (laid_append w i xs ys (rw p.behind at fits));
    }
