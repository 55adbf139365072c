-- Document 01's rules for extending and shortening, read literally: steps over the entries es of the table of a file that ends at E. What
-- stands in quotes is document 01's. The piece x stands between the entries ls, the nearest first, and those behind it; the walk to it and what
-- a release does are in Steps.antt, when a piece may be extended or shortened in room's Conditions.antt.
--
-- Extending, by m bytes:
--
--   longer m x                    the piece x with m bytes more
--   extended_into E m ls x y ys   x takes the first m bytes of the free entry y directly behind it; the rest of y stays free
--   extended_at_end P E m ls x    x ends the file, which grows by as many pages as hold m bytes; the rest of them is kind 6
--   after_extending_at P E m ls x  the one or the other
--   after_extending P E n m es    the file after the piece of the name n was extended
--
-- Shortening, by k bytes:
--
--   shorter k x                   the piece x without its last k bytes
--   cut_part k x                  those bytes, as a piece of its class
--   after_shortening_at P E k ls x  x is shorter, and the cut part is freed behind it
--   after_shortening P E n k es   the file after the piece of the name n was shortened
--
-- What is proved of these is in Statements.antt.
use Rattle.std.specs.Prelude.{List, [], ◌∷◌, ◌++◌, ℕ, ◌+◌, ◌-◌}
use Rattle.pages.specs.Pages.{up}
use Rattle.pieces.specs.declared.Class.TheVariants.{Large}
use Rattle.pieces.specs.declared.Piece.{Piece}
use Rattle.pieces.specs.Pieces.{piece, behind, class_of}
use Rattle.table.specs.Fill.{free}
use Rattle.rules.specs.Editing.{Name}
use Rattle.literal.specs.Steps.{File, put_back, freed_at, at_named}

-- ---- extending

-- 'Extend by m'
abbrev pub longer : ℕ → Piece → Piece
longer m x = piece x.address (x.size + m) x.status

-- 'A small piece needs a free entry directly behind it in the page with at least m bytes', 'a large piece with an entry behind it needs that
-- entry to be kind 6 with at least m bytes': what the piece does not take of the entry stays as it was
unfoldable pub extended_into : ℕ → ℕ → List Piece → Piece → Piece → List Piece → File
extended_into E m ls x y ys =
    let rest = free (class_of y.status) (behind (longer m x)) (behind y) in
    record { entries = put_back ls (longer m x ∷ (rest ++ ys)); end = E }

-- 'A large piece ending at E grows the file by the fewest pages that hold m; the rest is kind 6.'
unfoldable pub extended_at_end : ℕ → ℕ → ℕ → List Piece → Piece → File
extended_at_end P E m ls x =
    let e = E + up P m in
    record { entries = put_back ls (longer m x ∷ free Large (E + m) e); end = e }

unfoldable pub after_extending_at : ℕ → ℕ → ℕ → List Piece → Piece → List Piece → File
after_extending_at P E m ls x [] = extended_at_end P E m ls x
after_extending_at P E m ls x (y ∷ ys) = extended_into E m ls x y ys

unfoldable pub after_extending : ℕ → ℕ → Name → ℕ → List Piece → File
after_extending P E n m es = at_named E (after_extending_at P E m) n [] es

-- ---- shortening

-- 'Shorten by k': what must remain is its start, since a piece keeps its address
abbrev pub shorter : ℕ → Piece → Piece
shorter k x = piece x.address (x.size - k) x.status

abbrev pub cut_part : ℕ → Piece → Piece
cut_part k x = piece (behind (shorter k x)) k x.status

-- 'The cut part is freed as in a release.'
unfoldable pub after_shortening_at : ℕ → ℕ → ℕ → List Piece → Piece → List Piece → File
after_shortening_at P E k ls x ys = freed_at P E (shorter k x ∷ ls) (cut_part k x) ys

unfoldable pub after_shortening : ℕ → ℕ → Name → ℕ → List Piece → File
after_shortening P E n k es = at_named E (after_shortening_at P E k) n [] es
