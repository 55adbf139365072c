-- The four lists of a summary are one thing: of the free sections that have a key, a number of each is gathered, by a sum or by the larger.
--
--   Gathers op            the operation op gathers numbers in any grouping, and 0 adds nothing: gathers-sum, gathers-max
--   gathered op f xs      the numbers f of xs, gathered
--   has_key key i x        the test whether x is a free section with key i
--   tally op key f i es   gathered over those of es
--   keyed op key f n es   the tallies of the keys below n
--
--   numbers_keyed, bytes_keyed, largest_keyed, decades_keyed      the four lists are such
--
-- In this order: lists of n numbers in a row (each, row); a manager's number and its sections (per-at, sections-keyed); entries in two parts
-- (append); one entry more (section, other); bounds of sums (few); bytes and largest by themselves; the summary of no entries (no-entries).
--
-- Not here: laws of lists (lib.ListN, lib.Seq).
use Prim.Native.Nat.{ℕ, zero, suc, ◌+◌, ◌≤◌, ◌<◌, max}
use mathlib.Core.Bool.{Bool, true, false, cond, ◌&&◌}
use mathlib.Core.List.{List, [], ◌∷◌, ◌++◌}
use mathlib.Core.Path.{◌≡◌, refl, sym, ap, ◌∙◌}
use native.Mathlib.Nat.{add-zero, zero-add, zero-max, max-zero}
use native.Mathlib.Omega.{arith}
use lib.Dec.{eqb}
use lib.IntN.{pos}
use lib.ListN.{length, get_or, set, length-set}
use lib.Seq.{ext_get_or, get_or-set_same, get_or-set_other}
use borrow.Author.Tests.{eq-eqb, ne_eqb}
use Rattle.pages.proofs.Numbers.{split}
use Rattle.pieces.specs.Pieces.{class_of, free_of, manager_of}
use Rattle.pieces.specs.declared.Class.TheVariants.{SmallMetadata, SmallRaw, Large}
use Rattle.pieces.specs.declared.Class.{Class}
use Rattle.pieces.specs.declared.Piece.{Piece}
use Rattle.pieces.specs.declared.Status.TheVariants.{Live, Free}
use Rattle.pieces.specs.declared.Status.{Status}
use Rattle.sections.specs.Sections.{sections}
use Rattle.totals.specs.Summary.{managers, per_manager, bytes, largest, numbers_of, bytes_of, largest_of}
use Rattle.totals.specs.Summary.{sectionb, decade_of, kept, each_from, decades, decades_of, summary_of, no_totals}

-- ---- what gathers

pub record Gathers (op : ℕ → ℕ → ℕ) : Type 0 where
  pub none_left : (a : ℕ) → op 0 a ≡ a
  pub none_right : (a : ℕ) → op a 0 ≡ a
  pub assoc : (a b c : ℕ) → op (op a b) c ≡ op a (op b c)

pub gathers_sum : Gathers ◌+◌
gathers_sum = record { none_left = zero-add; none_right = add-zero; assoc = λ a b c. omega arith }

pub gathers_max : Gathers max
gathers_max = record { none_left = zero-max; none_right = max-zero; assoc = λ a b c. omega arith }

unfoldable pub gathered : (ℕ → ℕ → ℕ) → (Piece → ℕ) → List Piece → ℕ
gathered op f [] = 0
gathered op f (x ∷ xs) = op (f x) (gathered op f xs)

abbrev pub one : Piece → ℕ
one x = 1

abbrev pub size_of : Piece → ℕ
size_of x = x.size

length_gathered : (xs : List Piece) → length xs ≡ gathered ◌+◌ one xs
unfolding gathered
length_gathered [] = refl
length_gathered (x ∷ xs) = omega (arith, length_gathered xs)

bytes_gathered : (xs : List Piece) → bytes xs ≡ gathered ◌+◌ size_of xs
unfolding gathered bytes
bytes_gathered [] = refl
bytes_gathered (x ∷ xs) = rw (bytes_gathered xs)

largest_gathered : (xs : List Piece) → largest xs ≡ gathered max size_of xs
unfolding gathered largest
largest_gathered [] = refl
largest_gathered (x ∷ xs) = rw (largest_gathered xs)

-- ---- n numbers in a row

each_same : (f g : ℕ → ℕ) (d n : ℕ) → ((i : ℕ) → f i ≡ g i) → each_from f d n ≡ each_from g d n
unfolding each_from
each_same f g d zero h = refl
each_same f g d (suc n) h = rw (h d, each_same f g (suc d) n h)

pub length_each : (f : ℕ → ℕ) (d n : ℕ) → length (each_from f d n) ≡ n
unfolding each_from
length_each f d zero = refl
length_each f d (suc n) = ap suc (length_each f (suc d) n)

each_at : (f : ℕ → ℕ) (d n i : ℕ) → i < n → get_or (each_from f d n) i 0 ≡ f (d + i)
unfolding each_from
each_at f d zero i h = absurd (omega arith)
each_at f d (suc n) zero h = rw add-zero
each_at f d (suc n) (suc i) h = let e : d + suc i ≡ suc d + i = omega arith in rw e (each_at f (suc d) n i (omega arith))

each_beyond : (f : ℕ → ℕ) (d n i : ℕ) → n ≤ i → get_or (each_from f d n) i 0 ≡ 0
unfolding each_from
each_beyond f d zero i h = refl
each_beyond f d (suc n) zero h = absurd (omega arith)
each_beyond f d (suc n) (suc i) h = each_beyond f (suc d) n i (omega arith)

-- those from 0 on
pub row_at : (f : ℕ → ℕ) (n i : ℕ) → i < n → get_or (each_from f 0 n) i 0 ≡ f i
row_at f n i h = each_at f 0 n i h ∙ ap f (zero-add i)

-- one of them changes
row_set : (f g : ℕ → ℕ) (n i v : ℕ) → i < n → g i ≡ v → ((j : ℕ) → (j ≡ i → ⊥) → g j ≡ f j)
    → each_from g 0 n ≡ set (each_from f 0 n) i v
row_set f g n i v l e h =
    ext_get_or 0 (each_from g 0 n) (set (each_from f 0 n) i v) (simp (length-set, length_each)) at
  where
    other : (j : ℕ) → j < n → (j ≡ i → ⊥) → get_or (each_from g 0 n) j 0 ≡ get_or (set (each_from f 0 n) i v) j 0
    other j m ne = row_at g n j m ∙ h j ne ∙ sym (get_or-set_other (each_from f 0 n) i j v 0 ne ∙ row_at f n j m)

    same : (j : ℕ) → j ≡ i → get_or (each_from g 0 n) j 0 ≡ get_or (set (each_from f 0 n) i v) j 0
    same j q = rw q (row_at g n i l ∙ e ∙ sym (get_or-set_same (each_from f 0 n) i v 0 (rw length_each l)))

    at : (j : ℕ) → j < length (each_from g 0 n) → get_or (each_from g 0 n) j 0 ≡ get_or (set (each_from f 0 n) i v) j 0
    at j m =
        let k : j < n = rw length_each at m in
        split j i (λ a. split i j (λ b. same j (omega arith)) (λ b. other j k (λ q. omega arith))) (λ a. other j k (λ q. omega arith))

-- ---- the tallies

abbrev pub has_key : (Piece → ℕ) → ℕ → Piece → Bool
has_key key i x = sectionb x.status && eqb (key x) i

abbrev pub tally : (ℕ → ℕ → ℕ) → (Piece → ℕ) → (Piece → ℕ) → ℕ → List Piece → ℕ
tally op key f i es = gathered op f (kept (has_key key i) es)

abbrev pub keyed : (ℕ → ℕ → ℕ) → (Piece → ℕ) → (Piece → ℕ) → ℕ → List Piece → List ℕ
keyed op key f n es = each_from (λ i. tally op key f i es) 0 n

abbrev pub manager : Piece → ℕ
manager x = manager_of (class_of x.status)

abbrev pub decade : Piece → ℕ
decade x = decade_of x.size

pub per_at : (f : Class → ℕ) (k : Class) → get_or (per_manager f) (manager_of k) 0 ≡ f k
per_at f SmallMetadata = refl
per_at f SmallRaw = refl
per_at f Large = refl

pub free_key : (k : Class) (s : Status) → free_of k s ≡ (sectionb s && eqb (manager_of (class_of s)) (manager_of k))
free_key k (Live c) = refl
free_key SmallMetadata (Free SmallMetadata) = refl
free_key SmallMetadata (Free SmallRaw) = refl
free_key SmallMetadata (Free Large) = refl
free_key SmallRaw (Free SmallMetadata) = refl
free_key SmallRaw (Free SmallRaw) = refl
free_key SmallRaw (Free Large) = refl
free_key Large (Free SmallMetadata) = refl
free_key Large (Free SmallRaw) = refl
free_key Large (Free Large) = refl

-- a manager's sections are the free sections with its key
pub sections_keyed : (k : Class) (es : List Piece) → sections k es ≡ kept (has_key manager (manager_of k)) es
unfolding sections kept
sections_keyed k [] = refl
sections_keyed k (x ∷ es) = rw (free_key k x.status, sections_keyed k es)

module _ (op : ℕ → ℕ → ℕ) (f : Piece → ℕ) (of : List Piece → ℕ) (is : (xs : List Piece) → of xs ≡ gathered op f xs) where
  per_keyed : (es : List Piece) → per_manager (λ k. of (sections k es)) ≡ keyed op manager f managers es
  unfolding each_from
  per_keyed es = rw (at SmallMetadata, at SmallRaw, at Large)
    where
      at : (k : Class) → of (sections k es) ≡ tally op manager f (manager_of k) es
      at k = is (sections k es) ∙ ap (gathered op f) (sections_keyed k es)

pub numbers_keyed : (es : List Piece) → numbers_of es ≡ keyed ◌+◌ manager one managers es
unfolding numbers_of
numbers_keyed es = per_keyed ◌+◌ one length length_gathered es

pub bytes_keyed : (es : List Piece) → bytes_of es ≡ keyed ◌+◌ manager size_of managers es
unfolding bytes_of
bytes_keyed es = per_keyed ◌+◌ size_of bytes bytes_gathered es

pub largest_keyed : (es : List Piece) → largest_of es ≡ keyed max manager size_of managers es
unfolding largest_of
largest_keyed es = per_keyed max size_of largest largest_gathered es

pub decades_keyed : (es : List Piece) → decades_of es ≡ keyed ◌+◌ decade one decades es
unfolding decades_of
decades_keyed es = each_same _ _ 0 decades (λ d. length_gathered (kept (has_key decade d) es))

-- ---- in two parts

kept_append : (t : Piece → Bool) (es fs : List Piece) → kept t (es ++ fs) ≡ kept t es ++ kept t fs
unfolding kept
kept_append t [] fs = refl
kept_append t (x ∷ es) fs = go (t x) (kept_append t es fs)
  where
    go : (b : Bool) → kept t (es ++ fs) ≡ kept t es ++ kept t fs
        → cond b (x ∷ kept t (es ++ fs)) (kept t (es ++ fs)) ≡ cond b (x ∷ kept t es) (kept t es) ++ kept t fs
    go true e = rw e
    go false e = e

module _ (op : ℕ → ℕ → ℕ) (g : Gathers op) (f : Piece → ℕ) where
  gathered_append : (xs ys : List Piece) → gathered op f (xs ++ ys) ≡ op (gathered op f xs) (gathered op f ys)
  unfolding gathered
  gathered_append [] ys = sym (g.none_left (gathered op f ys))
  gathered_append (x ∷ xs) ys = ap (op (f x)) (gathered_append xs ys) ∙ sym (g.assoc (f x) (gathered op f xs) (gathered op f ys))

module _ (op : ℕ → ℕ → ℕ) (g : Gathers op) (key f : Piece → ℕ) where
  pub tally_append : (i : ℕ) (es fs : List Piece) → tally op key f i (es ++ fs) ≡ op (tally op key f i es) (tally op key f i fs)
  tally_append i es fs =
      ap (gathered op f) (kept_append (has_key key i) es fs) ∙ gathered_append op g f (kept (has_key key i) es) (kept (has_key key i) fs)

  pub length_keyed : (n : ℕ) (es : List Piece) → length (keyed op key f n es) ≡ n
  length_keyed n es = length_each (λ i. tally op key f i es) 0 n

  pub keyed_at : (n i : ℕ) (es : List Piece) → i < n → get_or (keyed op key f n es) i 0 ≡ tally op key f i es
  keyed_at n i es h = row_at (λ j. tally op key f j es) n i h

  pub keyed_append : (n i : ℕ) (es fs : List Piece) → i < n
      → get_or (keyed op key f n (es ++ fs)) i 0 ≡ op (get_or (keyed op key f n es) i 0) (get_or (keyed op key f n fs) i 0)
  keyed_append n i es fs h = rw (keyed_at n i es h, keyed_at n i fs h) (keyed_at n i (es ++ fs) h ∙ tally_append i es fs)

  -- ---- one entry more

  module _ (x : Piece) (es : List Piece) where
    tally_one : (i : ℕ) → tally op key f i (es ++ (x ∷ [])) ≡ op (tally op key f i es) (cond (has_key key i x) (f x) 0)
    unfolding kept gathered
    tally_one i = tally_append i es (x ∷ []) ∙ ap (op (tally op key f i es)) (go (has_key key i x))
      where
        go : (b : Bool) → gathered op f (cond b (x ∷ []) []) ≡ cond b (f x) 0
        go true = g.none_right (f x)
        go false = refl

    tally_none : (i : ℕ) → has_key key i x ≡ false → tally op key f i (es ++ (x ∷ [])) ≡ tally op key f i es
    tally_none i h = tally_one i ∙ rw h (g.none_right (tally op key f i es))

    pub keyed_other : (n : ℕ) → sectionb x.status ≡ false → keyed op key f n (es ++ (x ∷ [])) ≡ keyed op key f n es
    keyed_other n h = each_same _ _ 0 n (λ i. tally_none i (rw h))

    pub keyed_section : (n i : ℕ) → sectionb x.status ≡ true → i ≡ key x → i < n
        → keyed op key f n (es ++ (x ∷ [])) ≡ set (keyed op key f n es) i (op (get_or (keyed op key f n es) i 0) (f x))
    keyed_section n i h e l =
        row_set (λ j. tally op key f j es) (λ j. tally op key f j (es ++ (x ∷ []))) n i _ l at other
      where
        at : tally op key f i (es ++ (x ∷ [])) ≡ op (get_or (keyed op key f n es) i 0) (f x)
        at =
            let t : has_key key i x ≡ true = rw (h, eq-eqb (key x) i (sym e)) in
            tally_one i ∙ rw (t, keyed_at n i es l)

        other : (j : ℕ) → (j ≡ i → ⊥) → tally op key f j (es ++ (x ∷ [])) ≡ tally op key f j es
        other j ne = tally_none j (rw (h, ne_eqb (key x) j (λ q. ne (sym (e ∙ q)))))

-- ---- bounds of sums

kept_few : (f : Piece → ℕ) (t : Piece → Bool) (es : List Piece) → gathered ◌+◌ f (kept t es) ≤ gathered ◌+◌ f es
unfolding kept gathered
kept_few f t [] = omega arith
kept_few f t (x ∷ es) = go (t x) (kept_few f t es)
  where
    go : (b : Bool) → gathered ◌+◌ f (kept t es) ≤ gathered ◌+◌ f es
        → gathered ◌+◌ f (cond b (x ∷ kept t es) (kept t es)) ≤ f x + gathered ◌+◌ f es
    go true h = omega arith
    go false h = omega arith

keyed_few : (key f : Piece → ℕ) (n i : ℕ) (es : List Piece) → get_or (keyed ◌+◌ key f n es) i 0 ≤ gathered ◌+◌ f es
keyed_few key f n i es =
    split n i (λ h. rw (each_beyond (λ j. tally ◌+◌ key f j es) 0 n i h) (omega arith))
    (λ h. rw (row_at (λ j. tally ◌+◌ key f j es) n i h) (kept_few f (has_key key i) es))

pub keyed_count : (key : Piece → ℕ) (n i : ℕ) (es : List Piece) → get_or (keyed ◌+◌ key one n es) i 0 ≤ length es
keyed_count key n i es = rw (length_gathered es) (keyed_few key one n i es)

pub keyed_bytes : (n i : ℕ) (es : List Piece) → get_or (keyed ◌+◌ manager size_of n es) i 0 ≤ bytes es
keyed_bytes n i es = rw (bytes_gathered es) (keyed_few manager size_of n i es)

-- ---- bytes and largest, by themselves

pub bytes_append : (es fs : List Piece) → bytes (es ++ fs) ≡ bytes es + bytes fs
bytes_append es fs =
    rw (bytes_gathered (es ++ fs), bytes_gathered es, bytes_gathered fs) (gathered_append ◌+◌ gathers_sum size_of es fs)

pub largest_append : (es fs : List Piece) → largest (es ++ fs) ≡ max (largest es) (largest fs)
largest_append es fs =
    rw (largest_gathered (es ++ fs), largest_gathered es, largest_gathered fs) (gathered_append max gathers_max size_of es fs)

pub largest_one : (es : List Piece) (x : Piece) → largest (es ++ (x ∷ [])) ≡ max (largest es) x.size
unfolding largest
largest_one es x = largest_append es (x ∷ []) ∙ rw max-zero

-- ---- no entries

pub no_entries : no_totals ≡ summary_of (pos 0) []
unfolding numbers_of bytes_of largest_of decades_of sections bytes largest kept each_from
no_entries = refl
