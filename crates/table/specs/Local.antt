-- Soundness as a local test, which looks at single entries and at neighbours: the one that the code computes.
--
--   rangesb P M E n len      the ranges of state and slice
--   kindsb w i k             k entries of w from entry i on have kinds 1 to 6
--   zerosb w                 every word of w is 0
--   shapeb P t a z           an entry by itself, of z bytes and status t at a
--   besideb P s a t          an entry of status t at a, behind one of status s: at a border only two free large ones are barred;
--                            elsewhere both are of one class and not both free
--   cutb P t z last          the last entry is not free large with a page or more
--   entryb P E s a x last    the entry x, behind one of status s that ends at a, in a file that ends at E
--   chainb P E s a es        all entries es, behind one of status s that ends at a
--   localb P M E n w         state and table
--
-- Before the first entry all is as behind a live large one that ends at 0. Assumes nothing.
use Rattle.std.specs.Prelude.{Bool, true, false, cond, not, ◌&&◌, ◌||◌, List, [], ◌∷◌, ℕ, zero, suc, ◌+◌, ◌*◌, ◌%◌, leb, ltb, eqb, length, drop}
use Rattle.pages.specs.Pages.{page_sizeb, borderb, down}
use Rattle.pieces.specs.declared.Class.TheVariants.{SmallMetadata, SmallRaw, Large}
use Rattle.pieces.specs.declared.Status.{Status}
use Rattle.pieces.specs.declared.Status.TheVariants.{Live, Free}
use Rattle.pieces.specs.declared.Piece.{Piece}
use Rattle.pieces.specs.Pieces.{class_of, freeb, same_class, large_freeb, kindb}
use Rattle.pieces.specs.Words.{entry_words, kind_at, entries}
use Rattle.table.specs.Sound.{largest_limit, least_capacity, largest_capacity, capacity}

-- ---- state and slice

unfoldable pub table_lengthb : ℕ → Bool
table_lengthb len = eqb (len % entry_words) 0 && (leb (least_capacity * entry_words) len && leb len (largest_capacity * entry_words))

unfoldable pub rangesb : ℕ → ℕ → ℕ → ℕ → ℕ → Bool
rangesb P M E n len =
    page_sizeb P && (leb P M && (leb M largest_limit && (borderb P E && (leb E M && (table_lengthb len && leb n (capacity len))))))

unfoldable pub kindsb : List ℕ → ℕ → ℕ → Bool
kindsb w i zero = true
kindsb w i (suc k) = kindb (kind_at w i) && kindsb w (suc i) k

unfoldable pub zerosb : List ℕ → Bool
zerosb [] = true
zerosb (v ∷ w) = eqb v 0 && zerosb w

-- ---- one entry

abbrev pub withinb : ℕ → ℕ → ℕ → Bool
withinb P a z = ltb z P && leb (a + z) (down P a + P)

unfoldable pub shapeb : ℕ → Status → ℕ → ℕ → Bool
shapeb P (Live SmallMetadata) a z = withinb P a z
shapeb P (Live SmallRaw) a z = withinb P a z
shapeb P (Live Large) a z = borderb P a && leb P z
shapeb P (Free SmallMetadata) a z = withinb P a z
shapeb P (Free SmallRaw) a z = withinb P a z
shapeb P (Free Large) a z = true

unfoldable pub besideb : ℕ → Status → ℕ → Status → Bool
besideb P s a t =
    cond (borderb P a) (not (large_freeb s && large_freeb t))
    (same_class (class_of s) (class_of t) && not (freeb s && freeb t))

unfoldable pub cutb : ℕ → Status → ℕ → Bool → Bool
cutb P t z last = not (last && large_freeb t) || ltb z P

unfoldable pub entryb : ℕ → ℕ → Status → ℕ → Piece → Bool → Bool
entryb P E s a x last =
    eqb x.address a
    && (leb 1 x.size
    && (leb (a + x.size) E
    && (shapeb P x.status a x.size && (besideb P s a x.status && cutb P x.status x.size last))))

-- ---- all entries

abbrev pub noneb : List Piece → Bool
noneb [] = true
noneb (x ∷ es) = false

unfoldable pub chainb : ℕ → ℕ → Status → ℕ → List Piece → Bool
chainb P E s a [] = eqb a E
chainb P E s a (x ∷ es) = entryb P E s a x (noneb es) && chainb P E x.status (a + x.size) es

unfoldable pub localb : ℕ → ℕ → ℕ → ℕ → List ℕ → Bool
localb P M E n w =
    rangesb P M E n (length w)
    && ((kindsb w 0 n && chainb P E (Live Large) 0 (entries w 0 n)) && zerosb (drop (n * entry_words) w))
