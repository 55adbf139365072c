-- Laws of a change, as the summary sees it.
--
--   Exchanging xs ys zs i ts     the loop over a list has passed i numbers: ts is what the list is now
--
-- In this order: the loop over one list; one list of the summary, whose numbers are sums (exchange); the largest section (beside); the whole.
--
-- Not here: laws of the four lists (totals' TallyLaws).
use Prim.Native.Nat.{ℕ, ◌+◌, ◌-◌, ◌^◌, ◌≤◌, ◌<◌, max}
use mathlib.Core.List.{List, ◌++◌}
use mathlib.Core.Path.{◌≡◌, refl, sym, ap, ◌∙◌}
use native.Mathlib.Omega.{arith}
use lib.ListN.{length, get_or, set, length-set}
use lib.Seq.{ext_get_or, get_or-set_same, get_or-set_other}
use Rattle.pages.proofs.Numbers.{split}
use Rattle.pieces.proofs.WordLaws.{length_entries}
use Rattle.pieces.specs.Pieces.{manager_of}
use Rattle.pieces.specs.Words.{count_in, entries_in}
use Rattle.pieces.specs.declared.Class.{Class}
use Rattle.pieces.specs.declared.Piece.{Piece}
use Rattle.sections.proofs.SectionLaws.{sections_append}
use Rattle.sections.specs.Sections.{sections}
use Rattle.running.specs.Replacing.{exchanged, Exchangeable, Beside, Replaces}
use Rattle.totals.proofs.AgreeLaws.{agrees_summary}
use Rattle.totals.proofs.TallyLaws.{length_each, row_at, gathers_sum, one, size_of, manager, decade, keyed, length_keyed, keyed_append, keyed_count}
use Rattle.totals.proofs.TallyLaws.{keyed_bytes, numbers_keyed, bytes_keyed, decades_keyed, per_at, largest_append}
use Rattle.totals.specs.Summary.{managers, decades, largest, numbers_of, bytes_of, largest_of, decades_of, summary_of}
use Rattle.totals.specs.declared.Summary.{Summary}

length_exchanged : (xs ys zs : List ℕ) → length (exchanged xs ys zs) ≡ length xs
unfolding exchanged
length_exchanged xs ys zs = length_each _ 0 (length xs)

exchanged_at : (xs ys zs : List ℕ) (i : ℕ) → i < length xs → get_or (exchanged xs ys zs) i 0 ≡ get_or xs i 0 - get_or ys i 0 + get_or zs i 0
unfolding exchanged
exchanged_at xs ys zs i h = row_at _ (length xs) i h

-- ---- the loop

pub record Exchanging (xs ys zs : List ℕ) (i : ℕ) (ts : List ℕ) : Type 0 where
  pub kept : length ts ≡ length xs
  pub done : (j : ℕ) → j < i → j < length xs → get_or ts j 0 ≡ get_or (exchanged xs ys zs) j 0
  pub left : (j : ℕ) → i ≤ j → get_or ts j 0 ≡ get_or xs j 0

pub exchanging_none : (xs ys zs : List ℕ) → Exchanging xs ys zs 0 xs
exchanging_none xs ys zs = record { kept = refl; done = λ j h l. absurd (omega arith); left = λ j h. refl }

module _ (xs ys zs : List ℕ) (i : ℕ) (ts : List ℕ) (g : Exchanging xs ys zs i ts) where
  pub exchanging_all : length xs ≤ i → ts ≡ exchanged xs ys zs
  exchanging_all h =
      ext_get_or 0 ts (exchanged xs ys zs) (g.kept ∙ sym (length_exchanged xs ys zs))
      (λ j l. let m : j < length xs = omega (arith, g.kept) in g.done j (omega arith) m)

  module _ (x : Exchangeable xs ys zs) (h : i < length ts) where
    among : i < length xs
    among = omega (arith, g.kept)

    pub exchanging_below : get_or ys i 0 ≤ get_or ts i 0
    exchanging_below = rw (g.left i (omega arith)) (x.below i among)

    -- what the next number becomes
    abbrev v : ℕ
    v = get_or ts i 0 - get_or ys i 0 + get_or zs i 0

    pub exchanging_fits : v < 2 ^ 64
    exchanging_fits = rw (g.left i (omega arith)) (x.fits i among)

    pub exchanging_next : Exchanging xs ys zs (i + 1) (set ts i v)
    exchanging_next = record { kept = simp length-set g.kept; done = done; left = left }
      where
        here : v ≡ get_or (exchanged xs ys zs) i 0
        here = rw (g.left i (omega arith)) (sym (exchanged_at xs ys zs i among))

        done : (j : ℕ) → j < i + 1 → j < length xs → get_or (set ts i v) j 0 ≡ get_or (exchanged xs ys zs) j 0
        done j l m =
            split i j
            (λ k. let e : j ≡ i = omega arith in rw e (get_or-set_same ts i v 0 h ∙ here))
            (λ k. get_or-set_other ts i j v 0 (λ q. omega arith) ∙ g.done j k m)

        left : (j : ℕ) → i + 1 ≤ j → get_or (set ts i v) j 0 ≡ get_or xs j 0
        left j l = get_or-set_other ts i j v 0 (λ q. omega arith) ∙ g.left j (omega arith)

-- ---- one list, whose numbers are sums

module _ (key f : Piece → ℕ) (m : ℕ) (A W L B : List Piece) where
  abbrev of : List Piece → List ℕ
  of es = keyed ◌+◌ key f m es

  long : (es : List Piece) → length (of es) ≡ m
  long es = length_keyed ◌+◌ gathers_sum key f m es

  three_at : (X : List Piece) (i : ℕ) → i < m → get_or (of (A ++ (X ++ B))) i 0 ≡ get_or (of A) i 0 + (get_or (of X) i 0 + get_or (of B) i 0)
  three_at X i h =
      keyed_append ◌+◌ gathers_sum key f m i A (X ++ B) h
      ∙ ap (λ (k : ℕ). get_or (of A) i 0 + k) (keyed_append ◌+◌ gathers_sum key f m i X B h)

  exchange_at : (i : ℕ) → i < m → get_or (of (A ++ (W ++ B))) i 0 - get_or (of W) i 0 + get_or (of L) i 0 ≡ get_or (of (A ++ (L ++ B))) i 0
  exchange_at i h = omega (arith, three_at W i h, three_at L i h)

  exchange : exchanged (of (A ++ (W ++ B))) (of W) (of L) ≡ of (A ++ (L ++ B))
  exchange =
      let old : List ℕ = of (A ++ (W ++ B)) in
      ext_get_or 0 (exchanged old (of W) (of L)) (of (A ++ (L ++ B)))
      (length_exchanged old (of W) (of L) ∙ long (A ++ (W ++ B)) ∙ sym (long (A ++ (L ++ B))))
      (λ i l. let k : i < length old = omega (arith, length_exchanged old (of W) (of L)) in
      exchanged_at old (of W) (of L) i k ∙ exchange_at i (omega (arith, long (A ++ (W ++ B)))))

  exchangeable : ((i : ℕ) → get_or (of (A ++ (L ++ B))) i 0 < 2 ^ 64) → Exchangeable (of (A ++ (W ++ B))) (of W) (of L)
  exchangeable small =
      let e : length (of (A ++ (W ++ B))) ≡ m = long (A ++ (W ++ B)) in
      record {
        taken_long = long W ∙ sym e;
        added_long = long L ∙ sym e;
        below = λ i h. omega (arith, e, three_at W i (omega arith));
        fits = λ i h. rw (exchange_at i (omega arith)) (small i);
      }

-- ---- the largest section

module _ (k : Class) (A W L B : List Piece) where
  abbrev largest_in : List Piece → ℕ
  largest_in es = largest (sections k es)

  largest_three : (X : List Piece) → largest_in (A ++ (X ++ B)) ≡ max (max (largest_in A) (largest_in B)) (largest_in X)
  largest_three X =
      let a = ap largest (sections_append k A (X ++ B)) ∙ largest_append (sections k A) (sections k (X ++ B)) in
      let b = ap largest (sections_append k X B) ∙ largest_append (sections k X) (sections k B) in
      omega (arith, a, b)

  beside : Beside (largest_in (A ++ (W ++ B))) (largest_in W) (largest_in L) (largest_in (A ++ (L ++ B)))
  beside = record { rest = max (largest_in A) (largest_in B); before_it = largest_three W; after_it = largest_three L }

-- ---- the whole

-- a list over a change: it can be exchanged, and becomes ts
pub record Becomes (xs ys zs ts : List ℕ) : Type 0 where
  pub can : Exchangeable xs ys zs
  pub is : exchanged xs ys zs ≡ ts

module _ {given was is : Summary} {w : List ℕ} (r : Replaces given was is w) where
  given_of : given ≡ summary_of given.moved (r.front ++ (r.gone ++ r.back))
  given_of = agrees_summary given (r.front ++ (r.gone ++ r.back)) r.agreed

  module _ (key f : Piece → ℕ) (m : ℕ) (of : List Piece → List ℕ) (is_keyed : (es : List Piece) → of es ≡ keyed ◌+◌ key f m es) where
    becomes : ((i : ℕ) → get_or (keyed ◌+◌ key f m (entries_in w)) i 0 < 2 ^ 64)
        → Becomes (of (r.front ++ (r.gone ++ r.back))) (of r.gone) (of r.laid) (of (entries_in w))
    becomes small =
        rw (r.stands, is_keyed (r.front ++ (r.gone ++ r.back)), is_keyed r.gone, is_keyed r.laid, is_keyed (r.front ++ (r.laid ++ r.back)))
        (record {
          can = exchangeable key f m r.front r.gone r.laid r.back (rw r.stands at small);
          is = exchange key f m r.front r.gone r.laid r.back;
        })

  small_count : (key : Piece → ℕ) (m i : ℕ) → get_or (keyed ◌+◌ key one m (entries_in w)) i 0 < 2 ^ 64
  small_count key m i = omega (arith, r.countable.few, keyed_count key m i (entries_in w), length_entries w 0 (count_in w))

  small_bytes : (i : ℕ) → get_or (keyed ◌+◌ manager size_of managers (entries_in w)) i 0 < 2 ^ 64
  small_bytes i = omega (arith, r.countable.fits, keyed_bytes managers i (entries_in w))

  pub sections_become : Becomes given.sections was.sections is.sections (numbers_of (entries_in w))
  sections_become =
      rw (given_of, r.was_gone, r.is_laid) (becomes manager one managers numbers_of numbers_keyed (small_count manager managers))

  pub bytes_become : Becomes given.bytes was.bytes is.bytes (bytes_of (entries_in w))
  bytes_become = rw (given_of, r.was_gone, r.is_laid) (becomes manager size_of managers bytes_of bytes_keyed small_bytes)

  pub decades_become : Becomes given.decades was.decades is.decades (decades_of (entries_in w))
  decades_become = rw (given_of, r.was_gone, r.is_laid) (becomes decade one decades decades_of decades_keyed (small_count decade decades))

  pub largest_beside : (k : Class)
      → Beside (get_or given.largest (manager_of k) 0) (get_or was.largest (manager_of k) 0) (get_or is.largest (manager_of k) 0)
      (largest (sections k (entries_in w)))
  unfolding largest_of
  largest_beside k =
      let at : (es : List Piece) → get_or (largest_of es) (manager_of k) 0 ≡ largest (sections k es) = λ es. per_at (λ j. largest (sections j es)) k in
      rw (given_of, r.was_gone, r.is_laid, r.stands, at (r.front ++ (r.gone ++ r.back)), at r.gone, at r.laid)
      (beside k r.front r.gone r.laid r.back)
