-- The numbers of a sound state and table have at most eight bytes each, and an area's bytes are bytes.
--
--   sound_words      every number of a sound state and table fits a word
--   bytes_area       the bytes that are written are below 256
use Prim.Native.Nat.{ℕ, zero, suc, ◌+◌, ◌*◌, ◌/◌, ◌^◌, ◌≤◌, ◌<◌}
use mathlib.Core.List.{List, [], ◌∷◌}
use mathlib.Core.Path.{◌≡◌}
use native.Mathlib.Omega.{arith}
use lib.Dec.{lit<}
use lib.ListN.{length, get_or, get_or-eq_default}
use Rattle.area_bytes.specs.Area.{state_words, area_of, Words}
use Rattle.little.proofs.LittleLaws.{below_append, bytes_bytes_of}
use Rattle.little.specs.Little.{byte_values, word_bytes, bytes_of, bytes_of_all, Bytes, Below}
use Rattle.pages.proofs.Numbers.{split}
use Rattle.pieces.specs.Words.{entry_words, entry_at, kind_at}
use Rattle.space.specs.Outcomes.{SoundSpace}
use Rattle.space.specs.declared.Space.{Space}
use Rattle.table.proofs.TilingLaws.{ends_fit}

-- ---- a sound state and table

module _ (sp : Space) (w : List ℕ) (s : SoundSpace sp w) where
  head_below : Below word_bytes (state_words sp)
  head_below zero = omega (arith, s.ranges.page.largest)
  head_below (suc zero) = omega (arith, s.ranges.limit_largest)
  head_below (suc (suc zero)) = omega (arith, s.ranges.limit_largest, s.ranges.end_limit)
  head_below (suc (suc (suc zero))) = omega (arith, s.ranges.count, s.ranges.slice.largest)
  head_below (suc (suc (suc (suc i)))) = lit< tt

  -- a word of an entry: its address and its size reach no further than the end, and its kind is at most the largest
  entry_below : (q i : ℕ) → q < sp.count → q * entry_words ≤ i → i < q * entry_words + entry_words → get_or w i 0 < byte_values ^ word_bytes
  unfolding entry_at
  entry_below q i h low high =
      let end : sp.end < 2 ^ 64 = omega (arith, s.ranges.limit_largest, s.ranges.end_limit) in
      let reach : get_or w (q * entry_words) 0 + get_or w (q * entry_words + 1) 0 < 2 ^ 64 = ends_fit w s.rules.tiling end q h in
      let kind : kind_at w q < 2 ^ 64 = omega (arith, (s.kinds q h).largest) in
      split i (q * entry_words)
      (λ at. let e : i ≡ q * entry_words = omega arith in rw e (omega (arith, reach)))
      (λ past. split i (q * entry_words + 1)
      (λ at. let e : i ≡ q * entry_words + 1 = omega arith in rw e (omega (arith, reach)))
      (λ far. let e : i ≡ q * entry_words + 2 = omega arith in rw e (omega (arith, kind))))

  table_below : Below word_bytes w
  table_below i =
      split (sp.count * entry_words) i
      (λ behind_all. split (length w) i
      (λ none. let e : get_or w i 0 ≡ 0 = get_or-eq_default w 0 none in rw e (lit< tt))
      (λ there. let e : get_or w i 0 ≡ 0 = s.zeros i behind_all there in rw e (lit< tt)))
      (λ among. entry_below (i / entry_words) i (omega arith) (omega arith) (omega arith))

  pub sound_words : Words sp w
  sound_words = (head_below, table_below)

-- ---- bytes

bytes_all : (n : ℕ) (vs : List ℕ) → Bytes (bytes_of_all n vs)
unfolding bytes_of_all
bytes_all n [] = λ i. lit< tt
bytes_all n (v ∷ vs) = below_append 1 (bytes_of n v) (bytes_of_all n vs) (bytes_bytes_of n v) (bytes_all n vs)

pub bytes_area : (sp : Space) (w : List ℕ) → Bytes (area_of sp w)
bytes_area sp w = below_append 1 (bytes_of_all word_bytes (state_words sp)) (bytes_of_all word_bytes w) (bytes_all word_bytes (state_words sp)) (bytes_all word_bytes w)
