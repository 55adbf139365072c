-- The place that an allocation chooses is the rule's place, and a piece fits there.
--
--   PlaceFound k n q         the place q is in a section, or at the end because no section has one
--   place_found              what is chosen is that
--   Goes k n b           n bytes of class k may be put at b: among the live pieces, by their class, and within M
--   section_goes         into a section; end_goes at the end
--   class_of_large       how many bytes a large request has
--
-- Assumes nothing.
use Prim.Native.Nat.{ℕ, ◌+◌, ◌≤◌, ◌<◌}
use mathlib.Core.Bool.{Bool, true, false}
use mathlib.Core.List.{List, [], ◌∷◌, Memᴰ}
use mathlib.Core.Path.{◌≡◌, refl, sym, ap, ◌∙◌}
use native.Mathlib.Omega.{arith}
use lib.Dec.{eqb}
use borrow.Author.Tests.{eqb-true, eqb-false}
use Rattle.choose.proofs.BestLaws.{small_place, large_place}
use Rattle.choose.specs.Choose.{fits_in, best, Best, FitsSmall, FitsLarge}
use Rattle.choose.specs.Place.{in_large, in_small, as_page, large_place_for, small_place_for, place_for, place_address, at_endb}
use Rattle.std.specs.Prelude.{Some, None}
use Rattle.choose.specs.Choose.{Chosen}
use Rattle.choose.specs.declared.place.Place.TheVariants.{End}
use Rattle.choose.specs.declared.place.Place.{Place}
use Rattle.accepted.specs.Places.{NoneFits, InSection, in_small_entry, in_page, in_large_entry, NoSection}
use Rattle.pages.proofs.Numbers.{split}
use Rattle.pages.proofs.PageLaws.{page_pos, borders, up_least, down_of}
use Rattle.pages.specs.Pages.{down, up, Border, FirstBorder}
use Rattle.pieces.proofs.PieceLaws.{entry_among, View, small, large, view, large_small, small_large}
use Rattle.pieces.specs.Pieces.{piece, behind, class_of, Small, metadata, raw}
use Rattle.pieces.specs.declared.Class.TheVariants.{SmallMetadata, SmallRaw, Large}
use Rattle.pieces.specs.declared.Class.{Class}
use Rattle.pieces.specs.declared.Piece.{Piece}
use Rattle.pieces.specs.declared.Status.TheVariants.{Free}
use Rattle.pieces.specs.declared.Status.{Status}
use Rattle.rules.proofs.ChangeLaws.{Fits, at_end_lem, in_large_lem, in_small_lem, beyond}
use Rattle.requests.proofs.RequestLaws.{class_metadata, class_raw}
use Rattle.space.specs.Outcomes.{SoundSpace, entries_of}
use Rattle.requests.specs.Requests.{metadata_code, class_for}
use Rattle.space.specs.declared.Space.{Space}
use Rattle.table.proofs.TilingLaws.{mem_below}
use Rattle.table.specs.Fill.{Whole}

-- ---- the request's class

pub class_of_large : (P t s : ℕ) → class_for P t s ≡ Large → P ≤ s
class_of_large P t s e = split P s (λ l. l) (λ l. absurd (go l (eqb t metadata_code) refl))
  where
    go : s < P → (b : Bool) → eqb t metadata_code ≡ b → ⊥
    go l true f = small_large metadata (sym (class_metadata P t s l (eqb-true t metadata_code f)) ∙ e)
    go l false f = small_large raw (sym (class_raw P t s l (eqb-false t metadata_code f)) ∙ e)

-- ---- the place that is chosen

module _ (sp : Space) (w : List ℕ) (s : SoundSpace sp w) where
  pub pos : 0 < sp.page
  pos = page_pos s.ranges.page

  pub data PlaceFound (k : Class) (n : ℕ) (q : Place) : Type 0 where
    inside : (b : ℕ) → InSection sp.page k n (entries_of sp w) b → place_address sp.end q ≡ b → at_endb q ≡ false → PlaceFound k n q
    outside : NoSection sp.page k n (entries_of sp w) → q ≡ End → PlaceFound k n q

  first_border : (x : Piece) → FirstBorder sp.page x.address (up sp.page x.address)
  first_border x = (borders sp.page x.address pos).up_is

  large_is : (n : ℕ) (r : Chosen) → Best (FitsLarge sp.page n) (entries_of sp w) r → PlaceFound Large n (in_large sp.page r)
  large_is n (Some (i, x)) h = inside (up sp.page x.address) (in_large_entry refl h (first_border x)) refl refl
  large_is n None h =
      outside (record { no_small_entry = λ t. absurd (large_small t refl); no_page = λ t. absurd (large_small t refl); no_large_entry = λ e. h }) refl

  page_is : {k : Class} (n : ℕ) → Small k → NoneFits (FitsSmall k n) (entries_of sp w) → (r : Chosen)
      → Best (FitsLarge sp.page sp.page) (entries_of sp w) r → PlaceFound k n (as_page (in_large sp.page r))
  page_is n t f (Some (i, x)) h = inside (up sp.page x.address) (in_page t f h (first_border x)) refl refl
  page_is n t f None h =
      outside (record { no_small_entry = λ u. f; no_page = λ u. h; no_large_entry = λ e. absurd (small_large t e) }) refl

  small_is : {k : Class} (n : ℕ) (q : Place) → Small k → (NoneFits (FitsSmall k n) (entries_of sp w) → PlaceFound k n q) → (r : Chosen)
      → Best (FitsSmall k n) (entries_of sp w) r → PlaceFound k n (in_small q r)
  small_is n q t f (Some (i, x)) h = inside x.address (in_small_entry t h refl) refl refl
  small_is n q t f None h = f h

  best_large : (n : ℕ) → Best (FitsLarge sp.page n) (entries_of sp w) (best (fits_in sp.page Large n) 0 None (entries_of sp w))
  best_large n = (large_place sp.page pos n sp.end 0 (entries_of sp w) s.rules.filled s.rules.tiling).is

  small_place_found : (k : Class) (n : ℕ) → Small k → PlaceFound k n (small_place_for sp.page k n (entries_of sp w))
  unfolding small_place_for large_place_for
  small_place_found k n t =
      small_is n (as_page (large_place_for sp.page sp.page (entries_of sp w))) t
      (λ f. page_is n t f (best (fits_in sp.page Large sp.page) 0 None (entries_of sp w)) (best_large sp.page))
      (best (fits_in sp.page k n) 0 None (entries_of sp w))
      (small_place sp.page k t n sp.end 0 (entries_of sp w) s.rules.filled s.rules.tiling).is

  pub place_found : (k : Class) (n : ℕ) → PlaceFound k n (place_for sp.page k n (entries_of sp w))
  unfolding place_for large_place_for
  place_found SmallMetadata n = small_place_found SmallMetadata n metadata
  place_found SmallRaw n = small_place_found SmallRaw n raw
  place_found Large n = large_is n (best (fits_in sp.page Large n) 0 None (entries_of sp w)) (best_large n)

  -- ---- a piece fits there

  fits_large : {x : Piece} {E b z : ℕ} {m : Class} {fs : List Piece} → Memᴰ x fs → x.status ≡ Free Large → Border sp.page b
      → x.address ≤ b → b + z ≤ behind x → Fits sp.page pos E b z m fs
  fits_large {x} {E} {b} {z} {m} (Memᴰ.head {x = y} {xs = fs} e) q bo l h =
      let t : Fits sp.page pos E b z m (piece x.address x.size (Free Large) ∷ fs) = in_large_lem bo l h in
      let u : y ≡ piece x.address x.size (Free Large) = sym e ∙ ap (λ (v : Status). piece x.address x.size v) q in
      rw u t
  fits_large (Memᴰ.tail i) q bo l h = beyond (fits_large i q bo l h)

  fits_small : {x : Piece} {E z : ℕ} {m : Class} {fs : List Piece} → Memᴰ x fs → x.status ≡ Free m → Small m → z ≤ x.size
      → Fits sp.page pos E x.address z m fs
  fits_small {x} {E} {z} {m} (Memᴰ.head {x = y} {xs = fs} e) q t h =
      let f : Fits sp.page pos E x.address z m (piece x.address x.size (Free m) ∷ fs) = in_small_lem t h in
      let u : y ≡ piece x.address x.size (Free m) = sym e ∙ ap (λ (v : Status). piece x.address x.size v) q in
      rw u f
  fits_small (Memᴰ.tail i) q t h = beyond (fits_small i q t h)

  fits_end : {b z : ℕ} {m : Class} (fs : List Piece) → b ≡ sp.end → Fits sp.page pos sp.end b z m fs
  fits_end [] e = at_end_lem e
  fits_end (x ∷ fs) e = beyond (fits_end fs e)

  pub record Goes (k : Class) (n b : ℕ) : Type 0 where
    pub fits : Fits sp.page pos sp.end b n k (entries_of sp w)
    pub whole : Whole sp.page k b n
    pub within : up sp.page (b + n) ≤ sp.limit

  small_whole : {k : Class} {n b : ℕ} → Small k → 1 ≤ n → n < sp.page → b + n ≤ down sp.page b + sp.page → Whole sp.page k b n
  small_whole t some under h =
      record {
        some = some;
        small = λ u. record { under = under; in_page = h };
        aligned = λ e. absurd (small_large t e);
        whole = λ e. absurd (small_large t e);
      }

  -- from a border on a page's bytes, or a large piece
  border_whole : {k : Class} {n b : ℕ} → View k → Border sp.page b → 1 ≤ n → (Small k → n < sp.page) → (k ≡ Large → sp.page ≤ n)
      → Whole sp.page k b n
  border_whole {b = b} (small t) bo some f g = small_whole t some (f t) (omega (arith, f t, down_of sp.page pos bo))
  border_whole large bo some f g =
      record { some = some; small = λ u. absurd (large_small u refl); aligned = λ e. bo; whole = λ e. g refl }

  -- what ends within the file ends, with its page, within M
  pub page_within : (e : ℕ) → e ≤ sp.end → up sp.page e ≤ sp.limit
  page_within e l = omega (arith, up_least sp.page pos s.ranges.end_border l, s.ranges.end_limit)

  module _ (k : Class) (n b : ℕ) (some : 1 ≤ n) (under : Small k → n < sp.page) (over : k ≡ Large → sp.page ≤ n) where
    large_goes : {x : Piece} {m : ℕ} → Memᴰ x (entries_of sp w) → FitsLarge sp.page m x → n ≤ m → FirstBorder sp.page x.address b
        → Goes k n b
    large_goes {x} i f l fb =
        let only = (borders sp.page x.address pos).up_only in
        let e : f.start ≡ b = only f.start f.border ∙ sym (only b fb) in
        record {
          fits = fits_large i f.free fb.border fb.not_below (omega (arith, f.room));
          whole = border_whole (view k) fb.border some under over;
          within = page_within (b + n) (omega (arith, f.room, mem_below s.rules.tiling i));
        }

    small_goes : {x : Piece} → Small k → Memᴰ x (entries_of sp w) → FitsSmall k n x → b ≡ x.address → Goes k n b
    small_goes {x} t i f e =
        let c : Small (class_of x.status) = rw f.free t in
        rw e
        (record {
          fits = fits_small i f.free t f.room;
          whole = small_whole t some (under t) (omega (arith, f.room, s.rules.small_within x i c));
          within = page_within (x.address + n) (omega (arith, f.room, mem_below s.rules.tiling i));
        })

    pub section_goes : InSection sp.page k n (entries_of sp w) b → Goes k n b
    section_goes (in_small_entry t h e) = small_goes t (entry_among h.entry) h.fitting e
    section_goes (in_page t f h fb) = large_goes (entry_among h.entry) h.fitting (omega (arith, under t)) fb
    section_goes (in_large_entry q h fb) = large_goes (entry_among h.entry) h.fitting (omega arith) fb

    pub end_goes : b ≡ sp.end → up sp.page (sp.end + n) ≤ sp.limit → Goes k n b
    end_goes e l =
        record {
          fits = fits_end (entries_of sp w) e;
          whole = border_whole (view k) (rw e s.ranges.end_border) some under over;
          within = rw e l;
        }
