-- The running summary for the inspection sheet: what it is of a list of entries.
--
--   managers, per_manager f    how many managers there are; f of each one's class: of managers 1, 2, 3
--   bytes xs, largest xs       the bytes of the pieces xs; the size of the largest of them, 0 where there is none
--   numbers_of es              of each manager, how many free sections it has
--   bytes_of es                 of each manager, their bytes
--   largest_of es              of each manager, the largest of them
--
--   sectionb s                 the test whether an entry of status s is a free section, which a decade counts
--   ten, last_decade, decades  each edge between decades is ten times the one before it; decades are counted from 0, which is under 10 bytes
--   edges_reached n e z        how many of n edges a size of z bytes reaches: the first is e
--   decade_of z                the decade of a size: 0 under 10 bytes, 1 from 10 to 99, .., 18 from 10^18 upward
--   in_decade d x              the test whether x is a free section of decade d
--   kept t es                  the entries that pass the test t
--   each_from f d n            f of n numbers in a row, the first of which is d
--   per_decade f, decades_of es  f of each decade; of each decade, how many free sections it has
--
--   summary_of m es            the summary of the entries es, where the last accepted call moved the end of file by m
--   no_totals                  every number is 0
--   agreesb s es               the test whether the summary s is that of es, but for the signed number
--   moved_by old new           by how much the end of file moved, from old to new
--
-- What each number is, said without computing it, is in Described.antt. Laws are in proofs/TallyLaws.antt.
use Rattle.std.specs.Prelude.{Bool, cond, ◌&&◌, List, [], ◌∷◌, ℕ, zero, suc, ◌+◌, ◌*◌, max, ltb, eqb, ℤ, pos, length, replicate}
use Rattle.std.proofs.Math.IntN.{sub_ℕ}
use Rattle.pages.specs.Same.{sameb}
use Rattle.pieces.specs.Pieces.{freeb}
use Rattle.pieces.specs.declared.Class.{Class}
use Rattle.pieces.specs.declared.Class.TheVariants.{SmallMetadata, SmallRaw, Large}
use Rattle.pieces.specs.declared.Piece.{Piece}
use Rattle.pieces.specs.declared.Status.{Status}
use Rattle.sections.specs.Sections.{sections}
use Rattle.totals.specs.declared.Summary.{Summary}

-- ---- the managers

abbrev pub managers : ℕ
managers = 3

abbrev pub per_manager : (Class → ℕ) → List ℕ
per_manager f = f SmallMetadata ∷ f SmallRaw ∷ f Large ∷ []

unfoldable pub bytes : List Piece → ℕ
bytes [] = 0
bytes (x ∷ xs) = x.size + bytes xs

unfoldable pub largest : List Piece → ℕ
largest [] = 0
largest (x ∷ xs) = max x.size (largest xs)

unfoldable pub numbers_of : List Piece → List ℕ
numbers_of es = per_manager (λ k. length (sections k es))

unfoldable pub bytes_of : List Piece → List ℕ
bytes_of es = per_manager (λ k. bytes (sections k es))

unfoldable pub largest_of : List Piece → List ℕ
largest_of es = per_manager (λ k. largest (sections k es))

-- ---- the decades

abbrev pub sectionb : Status → Bool
sectionb s = freeb s

abbrev pub ten : ℕ
ten = 10

abbrev pub last_decade : ℕ
last_decade = 18

unfoldable pub edges_reached : ℕ → ℕ → ℕ → ℕ
edges_reached zero e z = 0
edges_reached (suc n) e z = cond (ltb z e) 0 (suc (edges_reached n (e * ten) z))

unfoldable pub decade_of : ℕ → ℕ
decade_of z = edges_reached last_decade ten z

unfoldable pub kept : (Piece → Bool) → List Piece → List Piece
kept t [] = []
kept t (x ∷ es) = cond (t x) (x ∷ kept t es) (kept t es)

abbrev pub in_decade : ℕ → Piece → Bool
in_decade d x = sectionb x.status && eqb (decade_of x.size) d

unfoldable pub each_from : (ℕ → ℕ) → ℕ → ℕ → List ℕ
each_from f d zero = []
each_from f d (suc n) = f d ∷ each_from f (suc d) n

abbrev pub decades : ℕ
decades = suc last_decade

abbrev pub per_decade : (ℕ → ℕ) → List ℕ
per_decade f = each_from f 0 decades

unfoldable pub decades_of : List Piece → List ℕ
decades_of es = per_decade (λ d. length (kept (in_decade d) es))

-- ---- the summary

abbrev pub summary_of : ℤ → List Piece → Summary
summary_of m es =
    record { sections = numbers_of es; bytes = bytes_of es; largest = largest_of es; decades = decades_of es; moved = m }

abbrev pub no_totals : Summary
no_totals =
    record {
      sections = replicate managers 0;
      bytes = replicate managers 0;
      largest = replicate managers 0;
      decades = replicate decades 0;
      moved = pos 0;
    }

unfoldable pub agreesb : Summary → List Piece → Bool
agreesb s es =
    sameb s.sections (numbers_of es)
    && (sameb s.bytes (bytes_of es) && (sameb s.largest (largest_of es) && sameb s.decades (decades_of es)))

unfoldable pub moved_by : ℕ → ℕ → ℤ
moved_by old new = sub_ℕ new old
