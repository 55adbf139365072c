-- Document 01's rules for allocating and releasing, read literally: steps over the entries es of the table of a file that ends at E. What
-- stands in quotes is document 01's. Which place a request is given is said in choose's Place.antt; `free c a b`, the free entry of class c
-- from a to b if there is a byte between them, in table's Fill.antt.
--
--   File                       the entries of the table and the end of the file
--   in_place_of i f es         es with f x in place of its entry i, x; all other entries as they were
--
-- Allocating, at the place q that was chosen:
--
--   into_large b s new x       s bytes from b on in the free large entry x become new; what lies before and after them stays kind 6
--   at_end P E s new es        as many new pages at the end as hold s bytes, which become new; the remainder is kind 6
--   large_rule P E s new es q  the one or the other: s bytes by the large rule, which become new b, where b is their start
--   large_piece s b            what a large piece makes of its bytes: it takes them all
--   into_small k s x           a small piece goes to the start of the free small entry x; the rest stays free
--   small_page P k s b         what a small piece makes of a page: it goes to its start; the rest is free small of its type
--   after_allocating_small, after_allocating  the file after s bytes of class k were allocated
--
-- Releasing:
--
--   put_back ls ys              the entries ls, the nearest first, and ys behind them
--   Freed                      the entry that becomes free, by its class, address and size, between the entries before it, the nearest
--                              first, and those behind it, the rest
--   becomes_free ls x ys       the piece x, between ls and ys, becomes free
--   merges P k b t             whether free bytes of class k merge with a neighbour of status t that they meet at b
--   merged_before, merged_behind the freed entry and the neighbour before it, behind it, as one if they merge
--   merged P f                 both
--   as_large f                 the freed entry as kind 6
--   emptied P f                if the freed entry is a whole page, it becomes kind 6, and merges with kind 6 beside it
--   ends_file E f              the freed entry is kind 6 and ends at E
--   whole_pages P z            how many whole pages z bytes contain
--   cut_file, kept_file, cut   the file with whole pages cut from its end; with none cut; the one or the other
--   freed_at P E ls x ys       the file after the piece x, between ls and ys, became free
--   is_named n x               x is live and has this name
--   at_named E f n ls es       the file that f makes of the piece of this name, one of es, between the entries before it and those behind it;
--                              the entries ls stand before es. A name that no live piece has changes nothing: the call refuses it
--   after_releasing P E n es   the file after the piece of this name was released
--
-- Not here: extending and shortening, which are in Resizing.antt. Assumes nothing. What is proved of these is in Statements.antt.
use Rattle.std.specs.Prelude.{Bool, false, cond, not, ◌&&◌, ◌||◌, ℕ, zero, suc, ◌+◌, ◌-◌, ◌*◌, ◌/◌, eqb}
use mathlib.Core.List.{List, [], ◌∷◌, ◌++◌, reverse_aux}
use Rattle.pages.specs.Pages.{up, borderb}
use Rattle.pieces.specs.declared.Class.{Class}
use Rattle.pieces.specs.declared.Class.TheVariants.{SmallMetadata, SmallRaw, Large}
use Rattle.pieces.specs.declared.Status.{Status}
use Rattle.pieces.specs.declared.Status.TheVariants.{Live, Free}
use Rattle.pieces.specs.declared.Piece.{Piece}
use Rattle.pieces.specs.Pieces.{piece, behind, class_of, smallb, freeb, same_class}
use Rattle.table.specs.Fill.{free}
use Rattle.choose.specs.declared.place.Place.{Place}
use Rattle.choose.specs.declared.place.Place.TheVariants.{Section, Page, End}
use Rattle.rules.specs.Editing.{Name, names}

pub record File : Type 0 where
  pub entries : List Piece
  pub end : ℕ

unfoldable pub in_place_of : ℕ → (Piece → List Piece) → List Piece → List Piece
in_place_of i f [] = []
in_place_of zero f (x ∷ es) = f x ++ es
in_place_of (suc i) f (x ∷ es) = x ∷ in_place_of i f es

-- ---- allocating: s >= P, large

-- 'The piece goes to b; what lies before and after it stays kind 6.'
unfoldable pub into_large : ℕ → ℕ → List Piece → Piece → List Piece
into_large b s new x = free Large x.address b ++ (new ++ free Large (b + s) (behind x))

-- 'the piece goes to E, E grows by the fewest whole pages that hold s, and the remainder is kind 6'
unfoldable pub at_end : ℕ → ℕ → ℕ → List Piece → List Piece → File
at_end P E s new es =
    record {
      entries = es ++ (new ++ free Large (E + s) (E + up P s));
      end = E + up P s;
    }

unfoldable pub large_rule : ℕ → ℕ → ℕ → (ℕ → List Piece) → List Piece → Place → File
large_rule P E s new es (Section i b) = record { entries = in_place_of i (into_large b s (new b)) es; end = E }
large_rule P E s new es (Page i b) = record { entries = in_place_of i (into_large b s (new b)) es; end = E }
large_rule P E s new es End = at_end P E s (new E) es

unfoldable pub large_piece : ℕ → ℕ → List Piece
large_piece s b = piece b s (Live Large) ∷ []

-- ---- allocating: s < P, small

-- 'The piece goes to its start; the rest stays free.'
unfoldable pub into_small : Class → ℕ → Piece → List Piece
into_small k s x = piece x.address s (Live k) ∷ free k (x.address + s) (behind x)

-- 'The piece goes to the page's start, and the rest of the page is free small of that type.'
unfoldable pub small_page : ℕ → Class → ℕ → ℕ → List Piece
small_page P k s b = piece b s (Live k) ∷ free k (b + s) (b + P)

-- 'If none fits, one page is obtained by the large rule for a request of P.'
unfoldable pub after_allocating_small : ℕ → ℕ → Class → ℕ → List Piece → Place → File
after_allocating_small P E k s es (Section i b) = record { entries = in_place_of i (into_small k s) es; end = E }
after_allocating_small P E k s es (Page i b) = large_rule P E P (small_page P k s) es (Page i b)
after_allocating_small P E k s es End = large_rule P E P (small_page P k s) es End

unfoldable pub after_allocating : ℕ → ℕ → Class → ℕ → List Piece → Place → File
after_allocating P E SmallMetadata s es q = after_allocating_small P E SmallMetadata s es q
after_allocating P E SmallRaw s es q = after_allocating_small P E SmallRaw s es q
after_allocating P E Large s es q = large_rule P E s (large_piece s) es q

-- ---- releasing

abbrev pub put_back : List Piece → List Piece → List Piece
put_back ls ys = reverse_aux ls ys

pub record Freed : Type 0 where
  pub before : List Piece
  pub class : Class
  pub address : ℕ
  pub size : ℕ
  pub rest : List Piece

-- 'The piece becomes free of its class'
abbrev pub becomes_free : List Piece → Piece → List Piece → Freed
becomes_free ls x ys = record { before = ls; class = class_of x.status; address = x.address; size = x.size; rest = ys }

-- 'and merges with free neighbours as the sound table demands': both are kind 6, or both are free of one small class in one page
unfoldable pub merges : ℕ → Class → ℕ → Status → Bool
merges P k b (Live c) = false
merges P k b (Free c) = same_class c k && (not (smallb k) || not (borderb P b))

-- 'merges with free neighbours': with the one before it
unfoldable pub merged_before : ℕ → Class → List Piece → ℕ → ℕ → List Piece → Freed
merged_before P k [] a z ys = record { before = []; class = k; address = a; size = z; rest = ys }
merged_before P k (l ∷ ls) a z ys =
    cond (merges P k a l.status)
    (record { before = ls; class = k; address = l.address; size = l.size + z; rest = ys })
    (record { before = l ∷ ls; class = k; address = a; size = z; rest = ys })

-- 'merges with free neighbours': with the one behind it
unfoldable pub merged_behind : ℕ → Class → List Piece → ℕ → ℕ → List Piece → Freed
merged_behind P k ls a z [] = record { before = ls; class = k; address = a; size = z; rest = [] }
merged_behind P k ls a z (y ∷ ys) =
    cond (merges P k (a + z) y.status)
    (record { before = ls; class = k; address = a; size = z + y.size; rest = ys })
    (record { before = ls; class = k; address = a; size = z; rest = y ∷ ys })

unfoldable pub merged : ℕ → Freed → Freed
merged P f =
    let g = merged_before P f.class f.before f.address f.size f.rest in
    merged_behind P g.class g.before g.address g.size g.rest

-- 'A small page with nothing live left becomes kind 6': the free small entry then has all P bytes of its page
abbrev pub as_large : Freed → Freed
as_large f = record { before = f.before; class = Large; address = f.address; size = f.size; rest = f.rest }

unfoldable pub emptied : ℕ → Freed → Freed
emptied P f = cond (smallb f.class && eqb f.size P) (merged P (as_large f)) f

-- 'If kind 6 then ends at E'
abbrev pub ends_file : ℕ → Freed → Bool
ends_file E f = not (smallb f.class) && eqb (f.address + f.size) E

-- 'as many whole pages as it contains at the end are cut from the file; a part page stays'
abbrev pub whole_pages : ℕ → ℕ → ℕ
whole_pages P z = z / P

abbrev pub cut_file : ℕ → ℕ → Freed → File
cut_file P E f =
    let e = E - whole_pages P f.size * P in
    record { entries = put_back f.before (free Large f.address e); end = e }

abbrev pub kept_file : ℕ → Freed → File
kept_file E f = record { entries = put_back f.before (piece f.address f.size (Free f.class) ∷ f.rest); end = E }

unfoldable pub cut : ℕ → ℕ → Freed → File
cut P E f = cond (ends_file E f) (cut_file P E f) (kept_file E f)

-- the steps in document 01's order
unfoldable pub freed_at : ℕ → ℕ → List Piece → Piece → List Piece → File
freed_at P E ls x ys = cut P E (emptied P (merged P (becomes_free ls x ys)))

-- 'Each names a live piece by its exact address and size.'
abbrev pub is_named : Name → Piece → Bool
is_named n x = not (freeb x.status) && names n x

unfoldable pub at_named : ℕ → (List Piece → Piece → List Piece → File) → Name → List Piece → List Piece → File
at_named E f n ls [] = record { entries = put_back ls []; end = E }
at_named E f n ls (x ∷ ys) = cond (is_named n x) (f ls x ys) (at_named E f n (x ∷ ls) ys)

unfoldable pub after_releasing : ℕ → ℕ → Name → List Piece → File
after_releasing P E n es = at_named E (freed_at P E) n [] es
