-- Laws of the place, by the entry r that the walk found.
--
--   border_fits                  the first border in a free large entry that fits is a number of 64 bits
--   large_section, large_end     the place of a large piece, if one was found, and if none was
--   small_section, small_page    the place of a small piece, likewise
--
use mathlib.Core.Path.{◌≡◌, sym, ap, ◌∙◌}
use mathlib.Core.List.{List}
use Prim.Native.Nat.{ℕ, ◌+◌, ◌<◌, ◌^◌}
use native.Mathlib.Omega.{arith}
use Rattle.pages.specs.Pages.{up, up_from}
use Rattle.pages.proofs.PageLaws.{borders, up_from_up}
use Rattle.pieces.specs.declared.Class.{Class}
use Rattle.pieces.specs.declared.Class.TheVariants.{Large}
use Rattle.pieces.specs.declared.Piece.{Piece}
use Rattle.pieces.specs.Pieces.{behind}
use Rattle.pieces.specs.Words.{entries, EndsFit}
use Rattle.pieces.proofs.WordLaws.{entry_is}
use Rattle.choose.specs.Choose.{Chosen}
use Rattle.std.specs.Prelude.{Some, None}
use Rattle.choose.specs.declared.place.Place.{Place}
use Rattle.choose.specs.declared.place.Place.TheVariants.{Section, End}
use Rattle.choose.specs.Choose.{fits_in, best, FitsLarge}
use Rattle.choose.specs.Place.{in_large, in_small, as_page, large_place_for, small_place_for}
use Rattle.choose.proofs.BestLaws.{best_found, fits_large}

module _ (P : ℕ) (pos : 0 < P) (s : ℕ) (w : List ℕ) (n : ℕ) (r : Chosen) (is : r ≡ best (fits_in P Large s) 0 None (entries w 0 n)) where
  pub border_fits : EndsFit w n → (i : ℕ) (x : Piece) → r ≡ Some (i, x) → x.address + up_from P x.address < 2 ^ 64
  border_fits ends i x at =
      let f = best_found (fits_in P Large s) (entries w 0 n) i x (sym is ∙ at) in
      let e = entry_is w n f.0 in
      let l : FitsLarge P s x = fits_large P pos s x f.1 in
      let b : l.start ≡ up P x.address = (borders P x.address pos).up_only l.start l.border in
      let h : behind x < 2 ^ 64 = rw e.1 (ends i e.0) in
      omega (arith, up_from_up P pos x.address, l.room)

  pub large_section : (i : ℕ) (x : Piece) (u : ℕ) → r ≡ Some (i, x) → u ≡ up_from P x.address
      → Section i (x.address + u) ≡ large_place_for P s (entries w 0 n)
  unfolding large_place_for
  large_section i x u at e =
      let b : x.address + u ≡ up P x.address = omega (arith, up_from_up P pos x.address) in
      ap (Section i) b ∙ ap (in_large P) (sym at ∙ is)

  pub large_end : r ≡ None → End ≡ large_place_for P s (entries w 0 n)
  unfolding large_place_for
  large_end none = ap (in_large P) (sym none ∙ is)

module _ (P : ℕ) (k : Class) (s : ℕ) (es : List Piece) (r : Chosen) (is : r ≡ best (fits_in P k s) 0 None es) where
  pub small_section : (i : ℕ) (x : Piece) → r ≡ Some (i, x) → Section i x.address ≡ small_place_for P k s es
  unfolding small_place_for
  small_section i x at = ap (in_small (as_page (large_place_for P P es))) (sym at ∙ is)

  pub small_page : (q large : Place) → r ≡ None → q ≡ as_page large → large ≡ large_place_for P P es → q ≡ small_place_for P k s es
  unfolding small_place_for
  small_page q large none page found = page ∙ (ap as_page found ∙ ap (in_small (as_page (large_place_for P P es))) (sym none ∙ is))
