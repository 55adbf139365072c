-- The laws of page borders. Nobody above this file opens `/` or `%`: with these, `up P a` and `down P a` are unknowns of linear arithmetic.
--
-- In this order: tests of a border; `down` and `up` as bounds and as borders; borders stand a page apart; `down` and `up` by the page that
-- a number lies in; `left` and `up_from`; `borders`, the statement `Borders` of specs/Pages.antt.
--
-- Not here: laws of `/` and `%` (native.Mathlib.Nat). Assumes nothing.
use Prim.Native.Nat.{ℕ, suc, ◌+◌, ◌-◌, ◌*◌, ◌/◌, ◌%◌, ◌≤◌, ◌<◌}
use mathlib.Core.Bool.{true, false}
use mathlib.Core.Path.{◌≡◌, sym, ap, ◌∙◌}
use native.Mathlib.Decide.{ℕ_discrete}
use native.Mathlib.Nat.{zero-mod, div-mul-le_self, lt-div-mul-add, mul-mod_left, div-add-mod', mul-le-mul_right, mod-lt, mul-add-mod_self_right, le_antisymm}
use native.Mathlib.Omega.{arith}
use lib.Dec.{leb}
use borrow.Author.Tests.{eq-eqb, ne_eqb, eqb-true, le-leb, leb-true}
use Rattle.pages.proofs.Numbers.{split, and_left, and_right, both}
use Rattle.pages.specs.Pages.{least_page, largest_page, PageSize, page_sizeb, Border, borderb, down, up, left, up_from}
use Rattle.pages.specs.Pages.{LastBorder, FirstBorder, BordersAt, Borders}

-- ---- tests

pub dec_border : (P a : ℕ) → Dec (Border P a)
dec_border P a =
    elim (ℕ_discrete (a % P) 0) [ yes e ↦ yes (record { none_over = e }) | no n ↦ no (λ b. n b.none_over) ]

pub border_true : (P a : ℕ) → borderb P a ≡ true → Border P a
border_true P a h = record { none_over = eqb-true (a % P) 0 h }

pub true_border : {P a : ℕ} → Border P a → borderb P a ≡ true
true_border {P} {a} b = eq-eqb (a % P) 0 b.none_over

pub false_border : (P a : ℕ) → ¬ Border P a → borderb P a ≡ false
false_border P a nb = ne_eqb (a % P) 0 (λ e. nb (record { none_over = e }))

pub page_size_true : (P : ℕ) → page_sizeb P ≡ true → PageSize P
page_size_true P h =
    record {
      least = leb-true least_page P (and_left (leb least_page P) (leb P largest_page) h);
      largest = leb-true P largest_page (and_right (leb least_page P) (leb P largest_page) h);
    }

pub true_page_size : (P : ℕ) → PageSize P → page_sizeb P ≡ true
true_page_size P h = both _ _ (le-leb least_page P h.least) (le-leb P largest_page h.largest)

pub page_pos : {P : ℕ} → PageSize P → 0 < P
page_pos h = omega (arith, h.least)

-- ---- borders

multiple : (P a : ℕ) → Border P a → a / P * P ≡ a
multiple P a h = omega (arith, div-add-mod' a P)

pub border_zero : (P : ℕ) → Border P 0
border_zero P = record { none_over = zero-mod P }

border_multiple : (P q : ℕ) → Border P (q * P)
border_multiple P q = record { none_over = mul-mod_left q P }

border_over : {P x : ℕ} → Border P x → (y : ℕ) → (x + y) % P ≡ y % P
border_over {P} {x} b y =
    ap (λ (v : ℕ). (v + y) % P) (sym (multiple P x b)) ∙ mul-add-mod_self_right (x / P) P y

pub border_sum : {P x y : ℕ} → Border P x → Border P y → Border P (x + y)
border_sum {y = y} b c = record { none_over = border_over b y ∙ c.none_over }

pub border_difference : {P x : ℕ} (y : ℕ) → Border P x → Border P (x + y) → Border P y
border_difference y b c = record { none_over = sym (border_over b y) ∙ c.none_over }

module _ (P : ℕ) (pos : 0 < P) where
  pub down_le : (a : ℕ) → down P a ≤ a
  unfolding down
  down_le a = div-mul-le_self a P

  pub down_lt : (a : ℕ) → a < down P a + P
  unfolding down
  down_lt a = lt-div-mul-add pos

  pub down_border : (a : ℕ) → Border P (down P a)
  unfolding down
  down_border a = border_multiple P (a / P)

  pub up_border : (a : ℕ) → Border P (up P a)
  unfolding up
  up_border a = border_multiple P ((a + (P - 1)) / P)

  pub up_ge : (a : ℕ) → a ≤ up P a
  unfolding up down
  up_ge a = omega (arith, down_lt (a + (P - 1)))

  pub up_lt : (a : ℕ) → up P a < a + P
  unfolding up down
  up_lt a = omega (arith, down_le (a + (P - 1)))

  pub border_step : {x y : ℕ} → Border P x → Border P y → x < y → x + P ≤ y
  border_step {x} {y} hx hy l =
      split (y / P) (x / P)
      (λ h. omega (arith, mul-le-mul_right P h, multiple P x hx, multiple P y hy))
      (λ h. omega (arith, mul-le-mul_right P h, multiple P x hx, multiple P y hy))

  pub border_same : {x y : ℕ} → Border P x → Border P y → x < y + P → y < x + P → x ≡ y
  border_same {x} {y} hx hy l m =
      split x y
      (λ h. split y x (λ k. omega arith) (λ k. let s : x + P ≤ y = border_step hx hy k in omega arith))
      (λ h. let s : y + P ≤ x = border_step hy hx h in omega arith)

  pub border_next : {x : ℕ} → Border P x → Border P (x + P)
  border_next {x} hx =
      let e : suc (x / P) * P ≡ x + P = omega (arith, multiple P x hx) in
      rw e at (border_multiple P (suc (x / P)))

  pub not_border : {x y : ℕ} → Border P x → x < y → y < x + P → ¬ Border P y
  not_border {x} {y} hx l m hy = let s : x + P ≤ y = border_step hx hy l in omega arith

  -- ---- down and up, by the page

  pub down_in : {x y : ℕ} → Border P x → x ≤ y → y < x + P → down P y ≡ x
  down_in {x} {y} hx l m =
      border_same (down_border y) hx (omega (arith, down_le y)) (omega (arith, down_lt y))

  pub down_of : {x : ℕ} → Border P x → down P x ≡ x
  down_of {x} hx = down_in hx (omega arith) (omega arith)

  pub up_in : {x y : ℕ} → Border P x → y ≤ x → x < y + P → up P y ≡ x
  up_in {x} {y} hx l m = border_same (up_border y) hx (omega (arith, up_lt y)) (omega (arith, up_ge y))

  pub up_of : {x : ℕ} → Border P x → up P x ≡ x
  up_of {x} hx = up_in hx (omega arith) (omega arith)

  pub up_least : {a b : ℕ} → Border P b → a ≤ b → up P a ≤ b
  up_least {a} {b} hb l =
      split (up P a) b (λ h. h)
      (λ h. let s : b + P ≤ up P a = border_step hb (up_border a) h in omega (arith, up_lt a))

  pub down_most : {a b : ℕ} → Border P b → b ≤ a → b ≤ down P a
  down_most {a} {b} hb l =
      split b (down P a) (λ h. h)
      (λ h. let s : down P a + P ≤ b = border_step (down_border a) hb h in omega (arith, down_lt a))

  pub up_mono : {a b : ℕ} → a ≤ b → up P a ≤ up P b
  up_mono {a} {b} l = up_least (up_border b) (omega (arith, up_ge b))

  -- where a is no border the next one is a page above the last
  pub up_down : {a : ℕ} → ¬ Border P a → up P a ≡ down P a + P
  up_down {a} n =
      split (up P a) a
      (λ h. let e : up P a ≡ a = omega (arith, up_ge a) in absurd (n (rw e at (up_border a))))
      (λ h. border_same (up_border a) (border_next (down_border a)) (omega (arith, up_lt a, down_lt a)) (omega (arith, down_le a)))

  -- ---- what is left of the page

  pub left_down : (a : ℕ) → a + left P a ≡ down P a + P
  unfolding left down
  left_down a = let m : a % P < P = mod-lt a pos in omega (arith, div-add-mod' a P)

  pub left_pos : (a : ℕ) → 0 < left P a
  left_pos a = omega (arith, left_down a, down_lt a)

  pub left_of : {a : ℕ} → Border P a → left P a ≡ P
  left_of {a} h = omega (arith, left_down a, down_of h)

  pub left_full : {a : ℕ} → left P a ≡ P → Border P a
  left_full {a} e = let d : down P a ≡ a = omega (arith, left_down a) in rw d at (down_border a)

  -- behind z bytes that leave something of the page
  pub left_within : (a z : ℕ) → z < left P a → left P (a + z) ≡ left P a - z
  left_within a z h =
      let d : down P (a + z) ≡ down P a = down_in (down_border a) (omega (arith, down_le a)) (omega (arith, left_down a)) in
      omega (arith, left_down a, left_down (a + z))

  -- behind z bytes that fill the page
  pub left_exact : (a z : ℕ) → z ≡ left P a → left P (a + z) ≡ P
  left_exact a z e =
      let d : down P a + P ≡ a + z = omega (arith, left_down a) in
      left_of (rw d at (border_next (down_border a)))

  left_over : (q r : ℕ) → left P (q * P + r) ≡ P - r % P
  unfolding left
  left_over q r = rw (mul-add-mod_self_right q P r)

  -- behind z bytes that fill the page and go on
  pub left_beyond : (a z : ℕ) → left P a ≤ z → left P (a + z) ≡ P - (z - left P a) % P
  left_beyond a z h =
      let b : Border P (down P a + P) = border_next (down_border a) in
      let e : a + z ≡ (down P a + P) / P * P + (z - left P a) = omega (arith, left_down a, multiple P (down P a + P) b) in
      ap (λ (v : ℕ). left P v) e ∙ left_over ((down P a + P) / P) (z - left P a)

  pub up_from_up : (a : ℕ) → a + up_from P a ≡ up P a
  unfolding up_from
  up_from_up a = omega (arith, up_ge a)

  pub up_from_of : {a : ℕ} → Border P a → up_from P a ≡ 0
  up_from_of {a} h = omega (arith, up_from_up a, up_of h)

  pub up_from_left : {a : ℕ} → ¬ Border P a → up_from P a ≡ left P a
  up_from_left {a} h = omega (arith, up_from_up a, up_down h, left_down a)

  -- ---- the second description

  down_is : (a : ℕ) → LastBorder P a (down P a)
  down_is a = record { border = down_border a; not_above = down_le a; last = λ c. down_most }

  up_is : (a : ℕ) → FirstBorder P a (up P a)
  up_is a = record { border = up_border a; not_below = up_ge a; first = λ c. up_least }

  left_is : (a : ℕ) → FirstBorder P (a + 1) (a + left P a)
  left_is a =
      let e : down P a + P ≡ a + left P a = sym (left_down a) in
      let b : Border P (a + left P a) = rw e at (border_next (down_border a)) in
      record {
        border = b;
        not_below = omega (arith, left_pos a);
        first = λ c h l. omega (arith, left_down a, border_step (down_border a) h (omega (arith, down_le a)));
      }

  pub borders_at : (a : ℕ) → BordersAt P a
  borders_at a =
      record {
        down_is = down_is a;
        down_only = λ b h. le_antisymm ((down_is a).last b h.border h.not_above) (h.last (down P a) (down_border a) (down_le a));
        up_is = up_is a;
        up_only = λ b h. le_antisymm (h.first (up P a) (up_border a) (up_ge a)) ((up_is a).first b h.border h.not_below);
        left_is = left_is a;
        up_from_is = up_from_up a;
      }

pub borders : Borders
borders P a pos = borders_at P pos a
