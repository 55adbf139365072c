-- Where a piece goes, as document 01 chooses, and how that place was found.
--
--   place_for P k s es      the place for s bytes of class k among the entries es
--   large_place_for P s es    of a large piece: the first border in the best free large entry; else new pages at the end
--   small_place_for P k s es  of a small piece: the start of the best free small entry of its class; else one page by the large rule for P bytes
--   in_large, in_small    the place in the entry that was found, if one was
--   as_page q             the same place, found as a page for a small piece
--   at_endb q             the place q is at the end
--   place_address E q     the address of the place q, in a file that ends at E
--   place_entry n q       the entry before which a piece at q stands, of n entries
--
-- What the best section is, is said twice in Choose.antt.
use Rattle.std.specs.Prelude.{ℕ, Bool, true, false, List}
use Rattle.pages.specs.Pages.{up}
use Rattle.pieces.specs.declared.Class.{Class}
use Rattle.pieces.specs.declared.Class.TheVariants.{SmallMetadata, SmallRaw, Large}
use Rattle.pieces.specs.declared.Piece.{Piece}
use Rattle.choose.specs.Choose.{fits_in, best}
use Rattle.choose.specs.Choose.{Chosen}
use Rattle.std.specs.Prelude.{Some, None}
use Rattle.choose.specs.declared.place.Place.{Place}
use Rattle.choose.specs.declared.place.Place.TheVariants.{Section, Page, End}

abbrev pub in_large : ℕ → Chosen → Place
in_large P (Some (i, x)) = Section i (up P x.address)
in_large P None = End

abbrev pub in_small : Place → Chosen → Place
in_small other (Some (i, x)) = Section i x.address
in_small other None = other

abbrev pub as_page : Place → Place
as_page (Section i b) = Page i b
as_page (Page i b) = Page i b
as_page End = End

unfoldable pub large_place_for : ℕ → ℕ → List Piece → Place
large_place_for P s es = in_large P (best (fits_in P Large s) 0 None es)

unfoldable pub small_place_for : ℕ → Class → ℕ → List Piece → Place
small_place_for P k s es = in_small (as_page (large_place_for P P es)) (best (fits_in P k s) 0 None es)

unfoldable pub place_for : ℕ → Class → ℕ → List Piece → Place
place_for P SmallMetadata s es = small_place_for P SmallMetadata s es
place_for P SmallRaw s es = small_place_for P SmallRaw s es
place_for P Large s es = large_place_for P s es

abbrev pub place_address : ℕ → Place → ℕ
place_address E (Section i b) = b
place_address E (Page i b) = b
place_address E End = E

abbrev pub place_entry : ℕ → Place → ℕ
place_entry n (Section i b) = i
place_entry n (Page i b) = i
place_entry n End = n

abbrev pub at_endb : Place → Bool
at_endb (Section i b) = false
at_endb (Page i b) = false
at_endb End = true
