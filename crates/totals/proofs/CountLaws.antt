-- Laws of counting over the words of a table.
--
--   Counted w i S B L D       the four lists are those of the first i entries of the words w
--
-- In this order: where the count starts; the whole; what fits; one entry more, a free section or a live piece. Then which entries can be counted:
-- a part of those that can (part_countable), a part of a sound table, and all of one (countable_part, countable_sound).
--
-- Not here: laws of the four lists (TallyLaws).
use Prim.Native.Nat.{ℕ, ◌+◌, ◌-◌, ◌*◌, ◌^◌, ◌≤◌, ◌<◌, max}
use mathlib.Core.Bool.{true, false}
use mathlib.Core.List.{List, [], ◌∷◌, ◌++◌}
use mathlib.Core.Path.{◌≡◌, refl, sym, ap, ◌∙◌}
use native.Mathlib.Numerals.{add-one}
use native.Mathlib.Omega.{arith}
use lib.IntN.{pos}
use lib.ListN.{length, get_or, set, replicate}
use Rattle.pieces.proofs.WordLaws.{length_entries, entry_said, entries_parts, entries_halves, entries_snoc}
use Rattle.pieces.proofs.WordLaws.{part_count, part_kind, part_entries}
use Rattle.pieces.specs.Pieces.{class_of, freeb, manager_of, Kind, status_of}
use Rattle.pieces.specs.Words.{entry_words, words_of, words_at, piece_of, entries, count_in}
use Rattle.pieces.specs.declared.Class.TheVariants.{SmallMetadata, SmallRaw, Large}
use Rattle.pieces.specs.declared.Class.{Class}
use Rattle.pieces.specs.declared.Piece.{Piece}
use Rattle.pieces.specs.declared.Words.{Words}
use Rattle.table.proofs.Theorems.{count_fits}
use Rattle.table.specs.Sound.{Tiles, tiled, tile, Sound}
use Rattle.totals.proofs.DecadeLaws.{decade_few}
use Rattle.totals.proofs.TallyLaws.{gathers_sum, gathers_max, one, size_of, manager, decade, keyed, keyed_section, keyed_other}
use Rattle.totals.proofs.TallyLaws.{numbers_keyed, bytes_keyed, largest_keyed, decades_keyed, keyed_count, keyed_bytes}
use Rattle.totals.proofs.TallyLaws.{bytes_append, gathered}
use Rattle.totals.specs.Counting.{Countable}
use Rattle.totals.specs.Summary.{managers, decades, bytes, decade_of, each_from, kept, summary_of}
use Rattle.totals.specs.declared.Summary.{Summary}

pub record Counted (w : List ℕ) (i : ℕ) (S B L D : List ℕ) : Type 0 where
  pub sections : S ≡ keyed ◌+◌ manager one managers (entries w 0 i)
  pub bytes : B ≡ keyed ◌+◌ manager size_of managers (entries w 0 i)
  pub largest : L ≡ keyed max manager size_of managers (entries w 0 i)
  pub decades : D ≡ keyed ◌+◌ decade one decades (entries w 0 i)

pub counted_none : (w : List ℕ) → Counted w 0 (replicate managers 0) (replicate managers 0) (replicate managers 0) (replicate decades 0)
unfolding each_from kept gathered entries
counted_none w = record { sections = refl; bytes = refl; largest = refl; decades = refl }

pub counted_all : {w : List ℕ} {i : ℕ} {S B L D : List ℕ} → Counted w i S B L D
    → ◌≡◌ {A = Summary} (record { sections = S; bytes = B; largest = L; decades = D; moved = pos 0 }) (summary_of (pos 0) (entries w 0 i))
counted_all {w} {i} h =
    let es : List Piece = entries w 0 i in
    rw (numbers_keyed es, bytes_keyed es, largest_keyed es, decades_keyed es, h.sections, h.bytes, h.largest, h.decades)

pub manager_few : (c : Class) → manager_of c < managers
manager_few SmallMetadata = omega arith
manager_few SmallRaw = omega arith
manager_few Large = omega arith

module _ {w : List ℕ} {i : ℕ} {S B L D : List ℕ} (c : Countable w) (among : i < count_in w) (h : Counted w i S B L D) (u : Words) (is : u ≡ words_at w i) where
  said : entries w 0 (i + 1) ≡ entries w 0 i ++ (piece_of u ∷ [])
  said = rw (add-one i, entries_snoc w i, entry_said w i u is)

  -- ---- what fits

  pub counted_kind : Kind u.kind
  counted_kind = rw is (c.kinds i among)

  pub sections_fit : (m : ℕ) → get_or S m 0 + 1 < 2 ^ 64
  sections_fit m =
      rw h.sections (omega (arith, c.few, keyed_count manager managers m (entries w 0 i), length_entries w 0 i))

  pub decades_fit : (d : ℕ) → get_or D d 0 + 1 < 2 ^ 64
  decades_fit d =
      rw h.decades (omega (arith, c.few, keyed_count decade decades d (entries w 0 i), length_entries w 0 i))

  pub bytes_fit : (m : ℕ) → get_or B m 0 + u.size < 2 ^ 64
  unfolding bytes
  bytes_fit m =
      let parts = ap bytes (entries_halves w (i + 1) (count_in w) (omega arith)) in
      let all = parts ∙ bytes_append (entries w 0 (i + 1)) _ in
      let more = ap bytes said ∙ bytes_append (entries w 0 i) (piece_of u ∷ []) in
      rw h.bytes (omega (arith, c.fits, all, more, keyed_bytes managers m (entries w 0 i)))

  -- ---- one entry more

  module _ (S' B' L' D' : List ℕ) where
    pub counted_section : freeb (status_of u.kind) ≡ true → (m d z : ℕ) → m ≡ manager_of (class_of (status_of u.kind)) → d ≡ decade_of u.size
        → z ≡ max (get_or L m 0) u.size → S' ≡ set S m (get_or S m 0 + 1) → B' ≡ set B m (get_or B m 0 + u.size) → L' ≡ set L m z
        → D' ≡ set D d (get_or D d 0 + 1) → Counted w (i + 1) S' B' L' D'
    counted_section free m d z em ed ez s b l t =
        let x : Piece = piece_of u in
        let es : List Piece = entries w 0 i in
        let lm : m < managers = rw em (manager_few (class_of (status_of u.kind))) in
        let ld : d < decades = omega (arith, decade_few u.size) in
        record {
          sections = s ∙ rw (said, h.sections) (sym (keyed_section ◌+◌ gathers_sum manager one x es managers m free em lm));
          bytes = b ∙ rw (said, h.bytes) (sym (keyed_section ◌+◌ gathers_sum manager size_of x es managers m free em lm));
          largest = l ∙ rw (said, ez, h.largest) (sym (keyed_section max gathers_max manager size_of x es managers m free em lm));
          decades = t ∙ rw (said, h.decades) (sym (keyed_section ◌+◌ gathers_sum decade one x es decades d free ed ld));
        }

    pub counted_other : freeb (status_of u.kind) ≡ false → S' ≡ S → B' ≡ B → L' ≡ L → D' ≡ D → Counted w (i + 1) S' B' L' D'
    counted_other live s b l t =
        let x : Piece = piece_of u in
        let es : List Piece = entries w 0 i in
        record {
          sections = s ∙ rw (said, h.sections) (sym (keyed_other ◌+◌ gathers_sum manager one x es managers live));
          bytes = b ∙ rw (said, h.bytes) (sym (keyed_other ◌+◌ gathers_sum manager size_of x es managers live));
          largest = l ∙ rw (said, h.largest) (sym (keyed_other max gathers_max manager size_of x es managers live));
          decades = t ∙ rw (said, h.decades) (sym (keyed_other ◌+◌ gathers_sum decade one x es decades live));
        }

-- ---- which entries can be counted

tiles_bytes : {E a : ℕ} {es : List Piece} → Tiles E a es → a + bytes es ≡ E
unfolding bytes
tiles_bytes (tiled e) = omega arith
tiles_bytes (tile t) = omega (arith, tiles_bytes t)

-- a part of what can be counted can be counted
pub part_countable : {v : List ℕ} → Countable v → (i j : ℕ) → i ≤ j → j ≤ count_in v → Countable (words_of v i j)
part_countable {v} c i j low high =
    let n = count_in v in
    let there : j * entry_words ≤ length v = omega arith in
    let parts = ap bytes (entries_parts v i j n low high) in
    let front = bytes_append (entries v 0 i) (entries v i (j - i) ++ entries v j (n - j)) in
    let back = bytes_append (entries v i (j - i)) (entries v j (n - j)) in
    let many : count_in (words_of v i j) ≡ j - i = part_count v i j low there in
    record {
      few = omega (arith, many, c.few);
      kinds = λ k lt. rw (part_kind v i ((j - i) * entry_words) k (omega (arith, many))) (c.kinds (i + k) (omega (arith, many)));
      fits = rw (part_entries v i j low there) (omega (arith, c.fits, parts, front, back));
    }

pub countable_part : {P M E n : ℕ} {w : List ℕ} → Sound P M E n w → (i j : ℕ) → i ≤ j → j ≤ n → Countable (words_of w i j)
countable_part {E = E} {n = n} {w = w} s i j low high =
    let r = s.ranges in
    let there : n * entry_words ≤ length w = count_fits r in
    let all : 0 + bytes (entries w 0 n) ≡ E = tiles_bytes s.rules.tiling in
    let parts = ap bytes (entries_parts w i j n low high) in
    let front = bytes_append (entries w 0 i) (entries w i (j - i) ++ entries w j (n - j)) in
    let back = bytes_append (entries w i (j - i)) (entries w j (n - j)) in
    let many : count_in (words_of w i j) ≡ j - i = part_count w i j low (omega arith) in
    record {
      few = omega (arith, many, r.slice.largest);
      kinds = λ k lt. rw (part_kind w i ((j - i) * entry_words) k (omega (arith, many))) (s.kinds (i + k) (omega (arith, many)));
      fits = rw (part_entries w i j low (omega arith)) (omega (arith, all, parts, front, back, r.end_limit, r.limit_largest));
    }

-- v is what a caller took of the table: a part, or all entries
pub countable_taken : {P M E n : ℕ} {w v : List ℕ} → Sound P M E n w → (i j : ℕ) → i ≤ j → j ≤ n → v ≡ words_of w i j → Countable v
countable_taken s i j low high is = rw is (countable_part s i j low high)

pub countable_sound : {P M E n : ℕ} {w v : List ℕ} → Sound P M E n w → v ≡ words_of w 0 n → Countable v
countable_sound s is = countable_taken s 0 _ (omega arith) (omega arith) is
