-- `summary_of` is what specs/Described.antt says of a summary, and nothing else is.
--
-- In this order: a decade and its sizes (decade-in, in-decade, decade-by-power); what is counted of the entries that pass a test (how-many, bytes-are, largest-is), and
-- that it is one number (-unique); the statements.
--
use Prim.Native.Nat.{ℕ, zero, suc, ◌+◌, ◌*◌, ◌^◌, ◌≤◌, ◌<◌, min, max}
use mathlib.Core.Bool.{Bool, true, false, cond}
use mathlib.Core.List.{List, [], ◌∷◌, Memᴰ}
use mathlib.Core.Path.{◌≡◌, refl, sym, ap, ◌∙◌}
use native.Mathlib.Nat.{pow-suc, pow-le-pow_right, add-zero}
use native.Mathlib.Omega.{arith}
use lib.Dec.{eqb}
use lib.ListN.{length, get_or}
use lib.Seq.{ext_get_or}
use borrow.Author.Tests.{eqb-true, eq-eqb}
use Rattle.pages.proofs.Numbers.{split, and_left, and_right, both, not_both}
use Rattle.pieces.specs.Pieces.{IsFree, is_free, manager_of}
use Rattle.pieces.specs.declared.Class.TheVariants.{SmallMetadata, SmallRaw, Large}
use Rattle.pieces.specs.declared.Class.{Class}
use Rattle.pieces.specs.declared.Piece.{Piece}
use Rattle.pieces.specs.declared.Status.TheVariants.{Live, Free}
use Rattle.pieces.specs.declared.Status.{Status}
use Rattle.sections.proofs.OrderLaws.{free_of_test, test_free_of}
use Rattle.sections.specs.Sections.{sections}
use Rattle.totals.proofs.AgreeLaws.{agrees_summary, summary_agrees}
use Rattle.totals.proofs.DecadeLaws.{decade_few, edges_none, edges_more}
use Rattle.totals.proofs.TallyLaws.{manager, decade, has_key, free_key, per_at, sections_keyed, row_at, length_each}
use Rattle.totals.specs.Described.{Section, InDecade, SectionIn, HowMany, no_entry, counted, not_counted, BytesAre, no_bytes, added, not_added}
use Rattle.totals.specs.Described.{LargestIs, none_has, one_has, SummaryRight, OneSummary, AgreementRight}
use Rattle.totals.specs.Summary.{managers, bytes, largest, numbers_of, bytes_of, largest_of, sectionb, ten, last_decade, edges_reached, decade_of}
use Rattle.totals.specs.Summary.{kept, decades, decades_of}

-- ---- a decade and its sizes

-- of n edges from 10^j on a size reaches r: so it reaches the last of these, and not the next
record Reaches (n j z r : ℕ) : Type 0 where
  last : (q : ℕ) → r ≡ suc q → ten ^ (j + q) ≤ z
  next : r < n → z < ten ^ (j + r)

reaches : (n j z : ℕ) → Reaches n j z (edges_reached n (ten ^ j) z)
unfolding edges_reached
reaches zero j z = record { last = λ q e. absurd (omega arith); next = λ h. absurd (omega arith) }
reaches (suc n) j z = split (ten ^ j) z (more (rw (pow-suc ten j) at (reaches n (suc j) z))) none
  where
    none : z < ten ^ j → Reaches (suc n) j z (edges_reached (suc n) (ten ^ j) z)
    none h =
        rw (edges_none (suc n) (ten ^ j) z h)
        (record { last = λ q e. absurd (omega arith); next = λ l. rw add-zero h })

    more : Reaches n (suc j) z (edges_reached n (ten ^ j * ten) z) → ten ^ j ≤ z → Reaches (suc n) j z (edges_reached (suc n) (ten ^ j) z)
    more r h = rw (edges_more n (ten ^ j) z h) (record { last = last; next = next })
      where
        last : (q : ℕ) → suc (edges_reached n (ten ^ j * ten) z) ≡ suc q → ten ^ (j + q) ≤ z
        last zero e = rw add-zero h
        last (suc q) e = let f : j + suc q ≡ suc j + q = omega arith in rw f (r.last q (omega arith))

        next : suc (edges_reached n (ten ^ j * ten) z) < suc n → z < ten ^ (j + suc (edges_reached n (ten ^ j * ten) z))
        next l =
            let k : ℕ = edges_reached n (ten ^ j * ten) z in
            let f : j + suc k ≡ suc j + k = omega arith in
            rw f (r.next (omega arith))

decade_in : (z : ℕ) → InDecade (decade_of z) z
unfolding decade_of
decade_in z = record { least = least; below = below }
  where
    r : Reaches last_decade 1 z (edges_reached last_decade ten z)
    r = reaches last_decade 1 z

    least : 1 ≤ edges_reached last_decade ten z → ten ^ edges_reached last_decade ten z ≤ z
    least h = go (edges_reached last_decade ten z) h (λ q. r.last q)
      where
        go : (k : ℕ) → 1 ≤ k → ((q : ℕ) → k ≡ suc q → ten ^ (1 + q) ≤ z) → ten ^ k ≤ z
        go zero l f = absurd (omega arith)
        go (suc q) l f = let e : 1 + q ≡ suc q = omega arith in rw e at (f q refl)

    below : edges_reached last_decade ten z < last_decade → z < ten ^ suc (edges_reached last_decade ten z)
    below h =
        let e : 1 + edges_reached last_decade ten z ≡ suc (edges_reached last_decade ten z) = omega arith in
        rw e at (r.next h)

not_lower : {c d z : ℕ} → c < d → d ≤ last_decade → InDecade c z → InDecade d z → ⊥
not_lower {c} {d} {z} h l a b =
    let some : 0 < ten = omega arith in
    let up : suc c ≤ d = omega arith in
    let m : ten ^ suc c ≤ ten ^ d = pow-le-pow_right some up in
    let n : c < last_decade = omega arith in
    let o : 1 ≤ d = omega arith in
    omega (arith, a.below n, b.least o)

in_decade : {d z : ℕ} → d ≤ last_decade → InDecade d z → decade_of z ≡ d
in_decade {d} {z} l h =
    split (decade_of z) d
    (λ a. split d (decade_of z) (λ b. omega arith) (λ b. absurd (not_lower b l (decade_in z) h)))
    (λ a. absurd (not_lower a (decade_few z) h (decade_in z)))

-- the decade by the power of ten that a size reaches, if it has a byte
pub decade_by_power : (z r : ℕ) → ten ^ r ≤ max z 1 → max z 1 < ten * ten ^ r → min r last_decade ≡ decade_of z
decade_by_power z r low high = split r last_decade up_to_last beyond
  where
    some_bytes : (d : ℕ) → 1 ≤ d → ten ^ d ≤ max z 1 → ten ^ d ≤ z
    some_bytes d l h =
        let some : 0 < ten = omega arith in
        let p : ten ^ 1 ≤ ten ^ d = pow-le-pow_right some l in
        omega arith

    up_to_last : r ≤ last_decade → min r last_decade ≡ decade_of z
    up_to_last l =
        let is : min r last_decade ≡ r = omega arith in
        let below : z < ten ^ suc r = rw (pow-suc ten r) (omega arith) in
        is ∙ sym (in_decade l (record { least = λ some. some_bytes r some low; below = λ _. below }))

    beyond : last_decade < r → min r last_decade ≡ decade_of z
    beyond l =
        let is : min r last_decade ≡ last_decade = omega arith in
        let some : 0 < ten = omega arith in
        let lower : last_decade ≤ r = omega arith in
        let p : ten ^ last_decade ≤ ten ^ r = pow-le-pow_right some lower in
        is ∙ sym (in_decade (omega arith) (record { least = λ some. some_bytes last_decade some (omega arith); below = λ q. absurd (omega arith) }))

-- ---- the entries that pass a test

module _ {Q : Piece → Type 0} (x : Piece) (es : List Piece) where
  with_one : {z : ℕ} → Q x → LargestIs Q es z → LargestIs Q (x ∷ es) (max x.size z)
  with_one {z} q (none_has f e) = one_has x (Memᴰ.head refl) q (omega arith) most
    where
      most : (y : Piece) → Memᴰ y (x ∷ es) → Q y → y.size ≤ max x.size z
      most y (Memᴰ.head i) r = omega (arith, ap (λ (p : Piece). p.size) i)
      most y (Memᴰ.tail i) r = absurd (f y i r)
  with_one {z} q (one_has w i r e g) = split z x.size first other
    where
      most : (y : Piece) → Memᴰ y (x ∷ es) → Q y → y.size ≤ max x.size z
      most y (Memᴰ.head j) p = omega (arith, ap (λ (p : Piece). p.size) j)
      most y (Memᴰ.tail j) p = omega (arith, g y j p)

      first : z ≤ x.size → LargestIs Q (x ∷ es) (max x.size z)
      first l = one_has x (Memᴰ.head refl) q (omega arith) most

      other : x.size < z → LargestIs Q (x ∷ es) (max x.size z)
      other l = one_has w (Memᴰ.tail i) r (omega arith) most

  without : {z : ℕ} → (Q x → ⊥) → LargestIs Q es z → LargestIs Q (x ∷ es) z
  without {z} n (none_has f e) = none_has none e
    where
      none : (y : Piece) → Memᴰ y (x ∷ es) → Q y → ⊥
      none y (Memᴰ.head i) r = n (rw i at r)
      none y (Memᴰ.tail i) r = f y i r
  without {z} n (one_has w i r e g) = one_has w (Memᴰ.tail i) r e most
    where
      most : (y : Piece) → Memᴰ y (x ∷ es) → Q y → y.size ≤ z
      most y (Memᴰ.head j) p = absurd (n (rw j at p))
      most y (Memᴰ.tail j) p = g y j p

module _ (Q : Piece → Type 0) (t : Piece → Bool) (to : (x : Piece) → t x ≡ true → Q x) (from : (x : Piece) → Q x → t x ≡ true) where
  not_so : (x : Piece) → t x ≡ false → Q x → ⊥
  not_so x e q = not_both (from x q) e

  how_many : (es : List Piece) → HowMany Q es (length (kept t es))
  unfolding kept
  how_many [] = no_entry
  how_many (x ∷ es) = go (t x) refl (how_many es)
    where
      go : (b : Bool) → t x ≡ b → HowMany Q es (length (kept t es)) → HowMany Q (x ∷ es) (length (cond b (x ∷ kept t es) (kept t es)))
      go true e h = counted (to x e) h
      go false e h = not_counted (not_so x e) h

  bytes_are : (es : List Piece) → BytesAre Q es (bytes (kept t es))
  unfolding kept bytes
  bytes_are [] = no_bytes
  bytes_are (x ∷ es) = go (t x) refl (bytes_are es)
    where
      go : (b : Bool) → t x ≡ b → BytesAre Q es (bytes (kept t es)) → BytesAre Q (x ∷ es) (bytes (cond b (x ∷ kept t es) (kept t es)))
      go true e h = added (to x e) h
      go false e h = not_added (not_so x e) h

  largest_is : (es : List Piece) → LargestIs Q es (largest (kept t es))
  unfolding kept largest
  largest_is [] = none_has (λ x i q. elim i [ ]) refl
  largest_is (x ∷ es) = go (t x) refl (largest_is es)
    where
      go : (b : Bool) → t x ≡ b → LargestIs Q es (largest (kept t es)) → LargestIs Q (x ∷ es) (largest (cond b (x ∷ kept t es) (kept t es)))
      go true e h = with_one x es (to x e) h
      go false e h = without x es (not_so x e) h

how_many_unique : {Q : Piece → Type 0} {es : List Piece} {m n : ℕ} → HowMany Q es m → HowMany Q es n → m ≡ n
how_many_unique no_entry no_entry = refl
how_many_unique (counted q a) (counted r b) = ap suc (how_many_unique a b)
how_many_unique (counted q a) (not_counted r b) = absurd (r q)
how_many_unique (not_counted q a) (counted r b) = absurd (q r)
how_many_unique (not_counted q a) (not_counted r b) = how_many_unique a b

bytes_unique : {Q : Piece → Type 0} {es : List Piece} {m n : ℕ} → BytesAre Q es m → BytesAre Q es n → m ≡ n
bytes_unique no_bytes no_bytes = refl
bytes_unique (added {x = x} q a) (added r b) = ap (λ (k : ℕ). x.size + k) (bytes_unique a b)
bytes_unique (added q a) (not_added r b) = absurd (r q)
bytes_unique (not_added q a) (added r b) = absurd (q r)
bytes_unique (not_added q a) (not_added r b) = bytes_unique a b

largest_unique : {Q : Piece → Type 0} {es : List Piece} {y z : ℕ} → LargestIs Q es y → LargestIs Q es z → y ≡ z
largest_unique (none_has f a) (none_has g b) = a ∙ sym b
largest_unique (none_has f a) (one_has x i q e g) = absurd (f x i q)
largest_unique (one_has x i q e f) (none_has g b) = absurd (g x i q)
largest_unique (one_has x i q e f) (one_has w j r d g) = omega (arith, f w j r, g x i q)

-- ---- the tests

module _ (k : Class) where
  abbrev of_manager : Piece → Bool
  of_manager x = has_key manager (manager_of k) x

  to_section : (x : Piece) → of_manager x ≡ true → Section k x
  to_section x h = free_of_test k x.status (free_key k x.status ∙ h)

  from_section : (x : Piece) → Section k x → of_manager x ≡ true
  from_section x q = sym (free_key k x.status) ∙ test_free_of k x.status q

free_section : (s : Status) → sectionb s ≡ true → IsFree s
free_section (Live c) h = absurd (not_both h refl)
free_section (Free c) h = is_free

section_free : {s : Status} → IsFree s → sectionb s ≡ true
section_free is_free = refl

module _ (d : ℕ) (few : d < decades) where
  to_decade : (x : Piece) → has_key decade d x ≡ true → SectionIn d x
  to_decade x h =
      let e : decade_of x.size ≡ d = eqb-true (decade_of x.size) d (and_right (sectionb x.status) (eqb (decade x) d) h) in
      record {
        free = free_section x.status (and_left (sectionb x.status) (eqb (decade x) d) h);
        size = rw e at (decade_in x.size);
      }

  from_decade : (x : Piece) → SectionIn d x → has_key decade d x ≡ true
  from_decade x h = both _ _ (section_free h.free) (eq-eqb _ _ (in_decade (omega arith) h.size))

-- ---- the statements

pub summary_right : SummaryRight
unfolding numbers_of bytes_of largest_of decades_of
summary_right m es =
    record {
      long_sections = refl;
      long_bytes = refl;
      long_largest = refl;
      long_decades = length_each (λ d. length (kept (has_key decade d) es)) 0 decades;
      sections = sections_of;
      bytes = bytes_of_lem;
      largest = largest_of_lem;
      in_decades = in_decades;
    }
  where
    sections_of : (k : Class) → HowMany (Section k) es (get_or (numbers_of es) (manager_of k) 0)
    sections_of k = rw (per_at (λ j. length (sections j es)) k, sections_keyed k es) (how_many _ _ (to_section k) (from_section k) es)

    bytes_of_lem : (k : Class) → BytesAre (Section k) es (get_or (bytes_of es) (manager_of k) 0)
    bytes_of_lem k = rw (per_at (λ j. bytes (sections j es)) k, sections_keyed k es) (bytes_are _ _ (to_section k) (from_section k) es)

    largest_of_lem : (k : Class) → LargestIs (Section k) es (get_or (largest_of es) (manager_of k) 0)
    largest_of_lem k = rw (per_at (λ j. largest (sections j es)) k, sections_keyed k es) (largest_is _ _ (to_section k) (from_section k) es)

    in_decades : (d : ℕ) → d < decades → HowMany (SectionIn d) es (get_or (decades_of es) d 0)
    in_decades d h =
        rw (row_at (λ i. length (kept (has_key decade i) es)) decades d h) (how_many _ _ (to_decade d h) (from_decade d h) es)

-- lists of a number for each manager that have the same numbers
same_managers : (xs ys : List ℕ) → length xs ≡ managers → length ys ≡ managers
    → ((k : Class) → get_or xs (manager_of k) 0 ≡ get_or ys (manager_of k) 0) → xs ≡ ys
same_managers xs ys a b h = ext_get_or 0 xs ys (a ∙ sym b) (λ i l. at i (omega arith))
  where
    at : (i : ℕ) → i < managers → get_or xs i 0 ≡ get_or ys i 0
    at zero l = h SmallMetadata
    at (suc zero) l = h SmallRaw
    at (suc (suc zero)) l = h Large
    at (suc (suc (suc i))) l = absurd (omega arith)

pub one_summary : OneSummary
one_summary es s h =
    let r = summary_right s.moved es in
    let a : s.sections ≡ numbers_of es =
    same_managers _ _ h.long_sections r.long_sections (λ k. how_many_unique (h.sections k) (r.sections k)) in
    let b : s.bytes ≡ bytes_of es = same_managers _ _ h.long_bytes r.long_bytes (λ k. bytes_unique (h.bytes k) (r.bytes k)) in
    let c : s.largest ≡ largest_of es =
    same_managers _ _ h.long_largest r.long_largest (λ k. largest_unique (h.largest k) (r.largest k)) in
    let d : s.decades ≡ decades_of es =
    ext_get_or 0 s.decades (decades_of es) (h.long_decades ∙ sym r.long_decades)
    (λ i l. let k : i < decades = omega (arith, h.long_decades) in how_many_unique (h.in_decades i k) (r.in_decades i k)) in
    rw (← a, ← b, ← c, ← d)

pub agreement_right : AgreementRight
agreement_right es s = (λ h. rw (agrees_summary s es h) (summary_right s.moved es), λ h. summary_agrees s es (one_summary es s h))
