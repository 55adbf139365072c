-- Laws of the splice.
--
-- In this order: the entries behind the place kept, moved up, moved down; the new ones laid over that; both together; `spliced_table`, the
-- statement SplicedTable of specs/Edit.antt.
--
-- Not here: laws of the moves' loops (MoveLaws of `moves`), of laid pieces (WordLaws of `pieces`).
use mathlib.Core.Path.{◌≡◌, sym, ◌∙◌}
use mathlib.Core.List.{List, ◌++◌, append_assoc}
use Prim.Native.Nat.{ℕ, ◌+◌, ◌-◌, ◌*◌, ◌≤◌, ◌<◌}
use native.Mathlib.Omega.{arith}
use lib.ListN.{length, take, drop, replicate, take-append-drop, length-append, length-take, length-drop, length-replicate}
use lib.Seq.{paste, take_at, drop_at, take-take, take-append-le, length-take-le}
use Rattle.pieces.specs.declared.Piece.{Piece}
use Rattle.pieces.specs.Words.{entry_words, words, table, laid}
use Rattle.pieces.proofs.WordLaws.{length_words, words_append, words_take, words_drop, zeros_replicate}
use Rattle.edit.specs.declared.new.New.{New}
use Rattle.edit.specs.New.{new_entries}
use Rattle.edit.specs.Edit.{spliced, SpliceFits, shifted, ShiftFits, SplicedTable}
use Rattle.moves.proofs.MoveLaws.{up_moved, down_moved}

-- entries that stay at their place: nothing is to be done
pub shift_none : (w : List ℕ) (n a j : ℕ) → ShiftFits w n a j → a ≡ j → w ≡ shifted w n a j
unfolding shifted
shift_none w n a j fits same =
    let from : ℕ = j * entry_words in
    let end : ℕ = n * entry_words in
    let e : (j + (n - j)) * entry_words ≡ end = omega (arith, fits.high) in
    let front : take from w ≡ take from (take end w) = sym (take-take from end w (omega (arith, fits.high))) in
    sym
    (rw (same, e, ← zeros_replicate w n fits.zeros, front)
    (sym (append_assoc (take from (take end w)) (drop from (take end w)) (drop end w))
    ∙ rw (take-append-drop from (take end w)) (take-append-drop end w)))

module _ (w : List ℕ) (n a j : ℕ) (fits : ShiftFits w n a j) (x : List ℕ) where
  -- the same in words
  moved_len : (n - j) * entry_words ≡ n * entry_words - j * entry_words
  moved_len = omega arith

  moved_end : (a + (n - j)) * entry_words ≡ a * entry_words + (n * entry_words - j * entry_words)
  moved_end = omega (arith, fits.high)

  pub shift_up : j < a → x ≡ paste w (a * entry_words) (drop (j * entry_words) w) ((n - j) * entry_words) → x ≡ shifted w n a j
  unfolding shifted
  shift_up lt is =
      let behind = zeros_replicate w n fits.zeros in
      let m =
      up_moved w (a * entry_words) (j * entry_words) (n * entry_words) (omega (arith, fits.high)) fits.old behind
      (omega arith) (omega (arith, fits.room, fits.high)) in
      is ∙ rw (moved_len, moved_end) m

  pub shift_down : (y : List ℕ) → a ≤ j → x ≡ paste w (a * entry_words) (drop (j * entry_words) w) ((n - j) * entry_words)
      → y ≡ paste x ((a + (n - j)) * entry_words) (replicate ((j - a) * entry_words) 0) ((j - a) * entry_words) → y ≡ shifted w n a j
  unfolding shifted
  shift_down y le is to =
      let behind = zeros_replicate w n fits.zeros in
      let left : (j - a) * entry_words ≡ j * entry_words - a * entry_words = omega arith in
      let m =
      down_moved w (a * entry_words) (j * entry_words) (n * entry_words) (omega (arith, fits.high)) fits.old behind
      (omega arith) x (rw moved_len at is) in
      to ∙ rw (moved_end, left) m

-- the new ones laid over what was shifted
pub laid_shifted : (w : List ℕ) (n i j : ℕ) (new : List Piece) (x : List ℕ) → (i + length new) * entry_words ≤ length w
    → x ≡ shifted w n (i + length new) j → laid x i new ≡ spliced w n i j new
unfolding laid shifted spliced
laid_shifted w n i j new x fits is =
    let m : ℕ = (i + length new) * entry_words in
    let r : List ℕ = drop (j * entry_words) (take (n * entry_words) w) ++ replicate (length w - (i + length new + (n - j)) * entry_words) 0 in
    let lf : length (take m w) ≡ m = length-take-le m w fits in
    let front : take (i * entry_words) (take m w ++ r) ≡ take (i * entry_words) w =
    take-append-le (i * entry_words) (take m w) r (rw lf (omega arith)) ∙ take-take (i * entry_words) m w (omega arith) in
    rw (is, front, drop_at (take m w) r m lf)

-- shifted, then laid
pub splice_right : (w : List ℕ) (n i j : ℕ) (new : New) (count : ℕ) (x v : List ℕ) → SpliceFits w n i j new count
    → x ≡ shifted w n (count - (n - j)) j → v ≡ laid x i (new_entries new) → v ≡ spliced w n i j (new_entries new)
splice_right w n i j new count x v fits is to =
    let a : count - (n - j) ≡ i + length (new_entries new) = omega (arith, fits.counted) in
    to ∙ laid_shifted w n i j (new_entries new) x (omega (arith, fits.counted, fits.room)) (rw a at is)

pub spliced_table : SplicedTable
unfolding spliced table
spliced_table len es i j new fits low high =
    let z : List ℕ = replicate (len - length es * entry_words) 0 in
    let lw : length (words es) ≡ length es * entry_words = length_words es in
    let front : take (i * entry_words) (words es ++ z) ≡ words (take i es) =
    take-append-le (i * entry_words) (words es) z (omega arith) ∙ sym (words_take i es) in
    let whole : take (length es * entry_words) (words es ++ z) ≡ words es = take_at (words es) z (length es * entry_words) lw in
    let count : length (take i es ++ (new ++ drop j es)) ≡ i + length new + (length es - j) =
    simp (length-append, length-take, length-drop) (omega arith) in
    let size : length (words es ++ z) ≡ len = simp (length-append, length-replicate) (omega arith) in
    rw (front, whole, ← words_drop j es, count, size) (simp (words_append, append_assoc))
