-- Demand 2: the place is the rule's, and the rule has one place.
--
--   section_then_none       where a section has a place it is not true that none has
--   best_address            two best entries have one address
--   one_place               two places of the rule are one
--   placing                 the statement
--
-- Assumes nothing.
use Prim.Native.Nat.{ℕ, ◌<◌}
use mathlib.Core.List.{List}
use mathlib.Core.Path.{◌≡◌, sym, ◌∙◌}
use native.Mathlib.Omega.{arith}
use Rattle.choose.specs.Choose.{BestAt}
use Rattle.accepted.proofs.AcceptedLaws.{allocated_put}
use Rattle.demands.specs.Calls.{allocates, called}
use Rattle.demands.specs.Demands.{Accepted, Placing}
use Rattle.accepted.specs.Places.{PlaceIs, in_section, at_the_end, InSection, in_small_entry, in_page, in_large_entry, NoSection}
use Rattle.pages.proofs.PageLaws.{borders, page_pos}
use Rattle.pages.specs.Pages.{FirstBorder}
use Rattle.pieces.proofs.PieceLaws.{entry_among, small_large}
use Rattle.pieces.specs.declared.Class.{Class}
use Rattle.pieces.specs.declared.Piece.{Piece}
use Rattle.requests.specs.Requests.{class_for}
use Rattle.space.specs.Outcomes.{entries_of}
use Rattle.space.specs.Placing.{allocated}
use Rattle.space.specs.declared.Space.{Space}

pub section_then_none : {P s b : ℕ} {k : Class} {es : List Piece} → InSection P k s es b → NoSection P k s es → ⊥
section_then_none (in_small_entry {x = x} t h e) f = f.no_small_entry t x (entry_among h.entry) h.fitting
section_then_none (in_page {x = x} t g h e) f = f.no_page t x (entry_among h.entry) h.fitting
section_then_none (in_large_entry {x = x} q h e) f = f.no_large_entry q x (entry_among h.entry) h.fitting

-- ---- one place

best_address : {Fits : Piece → Type 0} {es : List Piece} {i j : ℕ} {x y : Piece} → BestAt Fits es i x → BestAt Fits es j y → x.address ≡ y.address
best_address {x = x} {y = y} h g =
    let l = h.smallest y (entry_among g.entry) g.fitting in
    let m = g.smallest x (entry_among h.entry) h.fitting in
    let e : y.size ≡ x.size = omega arith in
    omega (arith, h.lowest y (entry_among g.entry) g.fitting e, g.lowest x (entry_among h.entry) h.fitting (sym e))

first_borders : (P : ℕ) → 0 < P → {a c b d : ℕ} → a ≡ c → FirstBorder P a b → FirstBorder P c d → b ≡ d
first_borders P pos {a} {c} {b} {d} e f g =
    (borders P a pos).up_only b f ∙ sym (rw (← e) at ((borders P c pos).up_only d g))

one_section : {P s b d : ℕ} {k : Class} {es : List Piece} → 0 < P → InSection P k s es b → InSection P k s es d → b ≡ d
one_section pos (in_small_entry t h e) (in_small_entry u g f) = e ∙ (best_address h g ∙ sym f)
one_section pos (in_small_entry {x = x} t h e) (in_page u n g f) = absurd (n x (entry_among h.entry) h.fitting)
one_section pos (in_small_entry t h e) (in_large_entry q g f) = absurd (small_large t q)
one_section pos (in_page t n h e) (in_small_entry {x = y} u g f) = absurd (n y (entry_among g.entry) g.fitting)
one_section {P} pos (in_page t n h e) (in_page u m g f) = first_borders P pos (best_address h g) e f
one_section pos (in_page t n h e) (in_large_entry q g f) = absurd (small_large t q)
one_section pos (in_large_entry q h e) (in_small_entry u g f) = absurd (small_large u q)
one_section pos (in_large_entry q h e) (in_page u n g f) = absurd (small_large u q)
one_section {P} pos (in_large_entry q h e) (in_large_entry r g f) = first_borders P pos (best_address h g) e f

pub one_place : {P E s b d : ℕ} {k : Class} {es : List Piece} → 0 < P → PlaceIs P E k s es b → PlaceIs P E k s es d → b ≡ d
one_place pos (in_section h) (in_section g) = one_section pos h g
one_place pos (in_section h) (at_the_end n e) = absurd (section_then_none h n)
one_place pos (at_the_end n e) (in_section g) = absurd (section_then_none g n)
one_place pos (at_the_end n e) (at_the_end m f) = e ∙ sym f

-- ---- the statement

place_is : (sp : Space) (t s : ℕ) (w : List ℕ) → Accepted (allocates t s) sp w
    → PlaceIs sp.page sp.end (class_for sp.page t s) s (entries_of sp w) (allocated sp t s w).address
unfolding called
place_is sp t s w h = (allocated_put sp w h.sound t s h.done).place

pub placing : Placing
placing = record { place = place_is; one = λ sp w h k s b d. one_place (page_pos h.ranges.page) }
