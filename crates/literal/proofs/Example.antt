-- The rules compute: six steps of document 01's run with P = 512, each from the table before it, and two more: a cut part that
-- merges, and an extend at the file's end.
--
--   step_five         a small request without a free small entry gets a page at the end, not the misaligned rest of the large piece
--   step_six          a released large piece merges with kind 6 behind it
--   step_eight        an extended large piece takes all of the kind 6 behind it
--   step_ten          the cut part of a shortened large piece is kind 6
--   step_eleven       an emptied small page becomes kind 6, merges, and its whole page is cut; the part page stays
--   step_twelve       a released large piece at the end, and the two whole pages that it leaves, are cut
--   cut_merges        the cut part of a shortened large piece and kind 6 behind it are one entry
--   at_the_end        an extended large piece at the end grows the file by two pages for 700 bytes; the rest of them is kind 6
use mathlib.Core.Path.{◌≡◌, refl}
use mathlib.Core.List.{List, [], ◌∷◌, ◌++◌}
use Prim.Native.Nat.{ℕ}
use Rattle.pages.specs.Pages.{up}
use Rattle.pieces.specs.declared.Class.TheVariants.{SmallMetadata, SmallRaw, Large}
use Rattle.pieces.specs.declared.Status.TheVariants.{Live, Free}
use Rattle.pieces.specs.declared.Piece.{Piece}
use Rattle.pieces.specs.Pieces.{piece}
use Rattle.table.specs.Fill.{free}
use Rattle.choose.specs.Choose.{room_in, fits_in, best_of, best}
use Rattle.choose.specs.Place.{large_place_for, small_place_for, place_for}
use Rattle.rules.specs.Editing.{Name}
use Rattle.literal.specs.Steps.{File, at_end, large_rule, small_page, after_allocating_small, after_allocating}
use Rattle.literal.specs.Steps.{merges, merged_before, merged_behind, merged, emptied, cut, freed_at, at_named, after_releasing}
use Rattle.literal.specs.Resizing.{extended_into, extended_at_end, after_extending_at, after_extending, after_shortening_at, after_shortening}

abbrev name : ℕ → ℕ → Name
name a z = record { address = a; size = z }

abbrev file : List Piece → ℕ → File
file es E = record { entries = es; end = E }

-- the first four entries, from step 3 on
abbrev four : List Piece
four = piece 0 96 (Live SmallMetadata) ∷ piece 96 416 (Live SmallMetadata) ∷ piece 512 100 (Live SmallRaw) ∷ piece 612 412 (Free SmallRaw) ∷ []

abbrev after_four : List Piece
after_four = four ++ (piece 1024 700 (Live Large) ∷ piece 1724 324 (Free Large) ∷ [])

abbrev after_five : List Piece
after_five = after_four ++ (piece 2048 10 (Live SmallMetadata) ∷ piece 2058 502 (Free SmallMetadata) ∷ [])

abbrev after_eight : List Piece
after_eight = four ++ (piece 1024 1024 (Live Large) ∷ piece 2048 10 (Live SmallMetadata) ∷ piece 2058 502 (Free SmallMetadata) ∷ [])

abbrev after_ten : List Piece
after_ten =
    four ++ (piece 1024 724 (Live Large) ∷ piece 1748 300 (Free Large) ∷ piece 2048 10 (Live SmallMetadata) ∷ piece 2058 502 (Free SmallMetadata) ∷ [])

step_five : after_allocating 512 2048 SmallMetadata 10 after_four (place_for 512 SmallMetadata 10 after_four) ≡ file after_five 2560
unfolding after_allocating after_allocating_small large_rule at_end small_page free up place_for small_place_for large_place_for best best_of fits_in room_in
step_five = refl

step_six : after_releasing 512 2560 (name 1024 700) after_five
    ≡ file (four ++ (piece 1024 1024 (Free Large) ∷ piece 2048 10 (Live SmallMetadata) ∷ piece 2058 502 (Free SmallMetadata) ∷ [])) 2560
unfolding after_releasing at_named freed_at cut emptied merged merged_before merged_behind merges free
step_six = refl

step_eight : after_extending 512 2560 (name 1024 512) 512
    (four ++ (piece 1024 512 (Live Large) ∷ piece 1536 512 (Free Large) ∷ piece 2048 10 (Live SmallMetadata) ∷ piece 2058 502 (Free SmallMetadata) ∷ []))
    ≡ file after_eight 2560
unfolding after_extending at_named after_extending_at extended_into free
step_eight = refl

step_ten : after_shortening 512 2560 (name 1024 1024) 300 after_eight ≡ file after_ten 2560
unfolding after_shortening at_named after_shortening_at freed_at cut emptied merged merged_before merged_behind merges free
step_ten = refl

step_eleven : after_releasing 512 2560 (name 2048 10) after_ten ≡ file (four ++ (piece 1024 724 (Live Large) ∷ piece 1748 300 (Free Large) ∷ [])) 2048
unfolding after_releasing at_named freed_at cut emptied merged merged_before merged_behind merges free
step_eleven = refl

step_twelve : after_releasing 512 2048 (name 1024 724) (four ++ (piece 1024 724 (Live Large) ∷ piece 1748 300 (Free Large) ∷ [])) ≡ file four 1024
unfolding after_releasing at_named freed_at cut emptied merged merged_before merged_behind merges free
step_twelve = refl

cut_merges : after_shortening 512 2048 (name 1024 724) 100 (four ++ (piece 1024 724 (Live Large) ∷ piece 1748 300 (Free Large) ∷ []))
    ≡ file (four ++ (piece 1024 624 (Live Large) ∷ piece 1648 400 (Free Large) ∷ [])) 2048
unfolding after_shortening at_named after_shortening_at freed_at cut emptied merged merged_before merged_behind merges free
cut_merges = refl

at_the_end : after_extending 512 1536 (name 1024 512) 700 (four ++ (piece 1024 512 (Live Large) ∷ []))
    ≡ file (four ++ (piece 1024 1212 (Live Large) ∷ piece 2236 324 (Free Large) ∷ [])) 2560
unfolding after_extending at_named after_extending_at extended_at_end free up
at_the_end = refl
