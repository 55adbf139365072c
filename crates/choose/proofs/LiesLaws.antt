-- The place that the rule takes in a free entry lies within that entry.
--
--   PlaceIn w n i b room     room bytes from b on lie in the free entry i of the n entries of w
--   section_in, page_in      so they do where the place for them is Section i b, or Page i b
--
use Prim.Native.Nat.{ℕ, ◌+◌, ◌≤◌, ◌<◌}
use mathlib.Core.List.{List}
use mathlib.Core.Path.{◌≡◌, refl, ap, ◌∙◌}
use native.Mathlib.Omega.{arith}
use Rattle.choose.proofs.BestLaws.{best_found, fits_small, fits_large}
use Rattle.choose.specs.Choose.{fits_in, best, FitsSmall, FitsLarge}
use Rattle.choose.specs.Place.{in_large, in_small, as_page, large_place_for, small_place_for, place_for}
use Rattle.std.specs.Prelude.{Some, None}
use Rattle.choose.specs.Choose.{Chosen}
use Rattle.choose.specs.declared.place.Place.TheVariants.{Section, Page, End}
use Rattle.choose.specs.declared.place.Place.{Place}
use Rattle.pages.proofs.PageLaws.{up_ge, borders}
use Rattle.pages.specs.Pages.{up}
use Rattle.pieces.proofs.WordLaws.{entry_is}
use Rattle.pieces.specs.Pieces.{behind, Small, metadata, raw}
use Rattle.pieces.specs.Words.{entry_at, entries}
use Rattle.pieces.specs.declared.Class.TheVariants.{SmallMetadata, SmallRaw, Large}
use Rattle.pieces.specs.declared.Class.{Class}
use Rattle.pieces.specs.declared.Piece.{Piece}
use Rattle.pieces.specs.declared.Status.TheVariants.{Free}

pub record PlaceIn (w : List ℕ) (n i b room : ℕ) : Type 0 where
  pub entry : Piece
  pub class : Class
  pub lt : i < n
  pub is : entry ≡ entry_at w i
  pub free : entry.status ≡ Free class
  pub low : entry.address ≤ b
  pub high : b + room ≤ behind entry

module _ (P : ℕ) (pos : 0 < P) (w : List ℕ) (n : ℕ) where
  -- what is found is an entry that fits
  found_in : (k : Class) (room j i b : ℕ) (f : Piece) → best (fits_in P k room) 0 None (entries w 0 n) ≡ Some (j, f) → j ≡ i → f.status ≡ Free k
      → f.address ≤ b → b + room ≤ behind f → PlaceIn w n i b room
  found_in k room j i b f q j_is free low high =
      let r = entry_is w n (best_found (fits_in P k room) (entries w 0 n) j f q).0 in
      record { entry = f; class = k; lt = omega (arith, r.0); is = r.1 ∙ ap (entry_at w) j_is; free = free; low = low; high = high }

  large_in : (room i b : ℕ) → large_place_for P room (entries w 0 n) ≡ Section i b → PlaceIn w n i b room
  unfolding large_place_for
  large_in room i b e = go (best (fits_in P Large room) 0 None (entries w 0 n)) refl e
    where
      go : (r : Chosen) → best (fits_in P Large room) 0 None (entries w 0 n) ≡ r → in_large P r ≡ Section i b → PlaceIn w n i b room
      go None q d = let z : ◌≡◌ {A = ℕ} 0 1 = cc in absurd (omega arith)
      go (Some (j, f)) q d =
          let j_is : j ≡ i = cc in
          let b_is : up P f.address ≡ b = cc in
          let l : FitsLarge P room f = fits_large P pos room f (best_found (fits_in P Large room) (entries w 0 n) j f q).1 in
          let u : l.start ≡ up P f.address = (borders P f.address pos).up_only l.start l.border in
          found_in Large room j i b f q j_is l.free (omega (arith, up_ge P pos f.address)) (omega (arith, l.room))

  large_not_page : (room i b : ℕ) → large_place_for P room (entries w 0 n) ≡ Page i b → ⊥
  unfolding large_place_for
  large_not_page room i b e = go (best (fits_in P Large room) 0 None (entries w 0 n)) e
    where
      go : (r : Chosen) → in_large P r ≡ Page i b → ⊥
      go None d = let z : ◌≡◌ {A = ℕ} 0 1 = cc in omega arith
      go (Some (j, f)) d = let z : ◌≡◌ {A = ℕ} 0 1 = cc in omega arith

  -- a page by the large rule is no section
  page_no_section : (q : Place) (i b : ℕ) → as_page q ≡ Section i b → ⊥
  page_no_section (Section j c) i b d = let z : ◌≡◌ {A = ℕ} 0 1 = cc in omega arith
  page_no_section (Page j c) i b d = let z : ◌≡◌ {A = ℕ} 0 1 = cc in omega arith
  page_no_section End i b d = let z : ◌≡◌ {A = ℕ} 0 1 = cc in omega arith

  small_section : (k : Class) → Small k → (room i b : ℕ) → small_place_for P k room (entries w 0 n) ≡ Section i b → PlaceIn w n i b room
  unfolding small_place_for
  small_section k h room i b e = go (best (fits_in P k room) 0 None (entries w 0 n)) refl e
    where
      go : (r : Chosen) → best (fits_in P k room) 0 None (entries w 0 n) ≡ r
          → in_small (as_page (large_place_for P P (entries w 0 n))) r ≡ Section i b → PlaceIn w n i b room
      go None q d = absurd (page_no_section (large_place_for P P (entries w 0 n)) i b d)
      go (Some (j, f)) q d =
          let j_is : j ≡ i = cc in
          let b_is : f.address ≡ b = cc in
          let l : FitsSmall k room f = fits_small P k h room f (best_found (fits_in P k room) (entries w 0 n) j f q).1 in
          found_in k room j i b f q j_is l.free (omega arith) (omega (arith, l.room))

  small_page : (k : Class) (room i b : ℕ) → small_place_for P k room (entries w 0 n) ≡ Page i b → PlaceIn w n i b P
  unfolding small_place_for
  small_page k room i b e = go (best (fits_in P k room) 0 None (entries w 0 n)) e
    where
      as_page_lem : (q : Place) → large_place_for P P (entries w 0 n) ≡ q → as_page q ≡ Page i b → PlaceIn w n i b P
      as_page_lem (Section j c) u d =
          let j_is : j ≡ i = cc in
          let c_is : c ≡ b = cc in
          large_in P i b (u ∙ rw (j_is, c_is))
      as_page_lem (Page j c) u d = absurd (large_not_page P j c u)
      as_page_lem End u d = let z : ◌≡◌ {A = ℕ} 0 1 = cc in absurd (omega arith)

      go : (r : Chosen) → in_small (as_page (large_place_for P P (entries w 0 n))) r ≡ Page i b → PlaceIn w n i b P
      go (Some (j, f)) d = let z : ◌≡◌ {A = ℕ} 0 1 = cc in absurd (omega arith)
      go None d = as_page_lem (large_place_for P P (entries w 0 n)) refl d

  less : {i b more : ℕ} (room : ℕ) → room ≤ more → PlaceIn w n i b more → PlaceIn w n i b room
  less room l f =
      record { entry = f.entry; class = f.class; lt = f.lt; is = f.is; free = f.free; low = f.low; high = omega (arith, f.high) }

  pub section_in : (k : Class) (room i b : ℕ) → place_for P k room (entries w 0 n) ≡ Section i b → PlaceIn w n i b room
  unfolding place_for
  section_in SmallMetadata room i b e = small_section SmallMetadata metadata room i b e
  section_in SmallRaw room i b e = small_section SmallRaw raw room i b e
  section_in Large room i b e = large_in room i b e

  pub page_in : (k : Class) (room i b : ℕ) → (Small k → room < P) → place_for P k room (entries w 0 n) ≡ Page i b → PlaceIn w n i b room
  unfolding place_for
  page_in SmallMetadata room i b u e = less room (omega (arith, u metadata)) (small_page SmallMetadata room i b e)
  page_in SmallRaw room i b u e = less room (omega (arith, u raw)) (small_page SmallRaw room i b e)
  page_in Large room i b u e = absurd (large_not_page room i b e)
