-- Laws of the walk in numbers: what it holds is the best place so far.
--
--   choose_fits                    a sound table has what the walk asks
--   size_fits, -short, -other      size_if_fits, by its tests
--   Smaller, smaller               what a size below the least so far says of its entry
--   holding_at, holding_none       what is held, by the test of its size
--   Held                           what holds before each entry: the walk's invariant
--   Ended                          what is held is the best of all, so that the walk may be left
--   held_first, held_last          before the first entry, and behind the last
--   Turn, turn                     what a turn makes of them: an entry is passed, or asked for its room; it has none, is taken, or is an exact fit
--
-- Not here: laws of what fits and of the best of a list (ChooseLaws.antt).
use Prim.Native.Nat.{ℕ, ◌+◌, ◌-◌, ◌≤◌, ◌<◌}
use mathlib.Core.Bool.{Bool, true, false}
use mathlib.Core.List.{List}
use mathlib.Core.Path.{◌≡◌, refl, sym, ap, ◌∙◌}
use native.Mathlib.Nat.{sub-zero}
use native.Mathlib.Omega.{arith}
use lib.Dec.{eqb, ltb}
use borrow.Author.Tests.{lt-ltb, le-ltb, le-leb, lt-leb, eq-eqb, ne_eqb, eqb-true, eqb-false}
use Rattle.pages.proofs.Numbers.{and-false, split}
use Rattle.pages.proofs.PageLaws.{page_pos}
use Rattle.pieces.specs.declared.Class.{Class}
use Rattle.pieces.specs.declared.Piece.{Piece}
use Rattle.pieces.specs.declared.Status.TheVariants.{Free}
use Rattle.pieces.specs.declared.Words.{Words}
use Rattle.pieces.specs.Pieces.{kind_of, Kind}
use Rattle.pieces.specs.Words.{words_of, words_at, piece_of, entry_at, entries, count_in}
use Rattle.pieces.proofs.KindLaws.{free_of_kind, free_of_other}
use Rattle.pieces.proofs.PieceLaws.{true_kind}
use Rattle.pieces.proofs.WordLaws.{entry_said, front_count, front_kind, front_entry}
use Rattle.table.specs.Sound.{Sound}
use Rattle.table.proofs.Theorems.{count_fits}
use Rattle.table.proofs.TilingLaws.{ends_below}
use Rattle.std.specs.Prelude.{Some, None}
use Rattle.choose.specs.Choose.{room_in, fits_in, better, best_of, best}
use Rattle.choose.specs.Walk.{no_size, size_if_fits, holding, ChooseFits}
use Rattle.choose.proofs.ChooseLaws.{room_short, fits_other, fits_free, fits_least}
use Rattle.choose.proofs.ChooseLaws.{best_of_better, best_of_larger, best_of_misfit, best_next, best_end, best_exact}

-- ---- what the walk asks

pub choose_fits : {P M E n : ℕ} {w v : List ℕ} → Sound P M E n w → v ≡ words_of w 0 n → ChooseFits P v
choose_fits {n = n} {w = w} s is =
    let r = s.ranges in
    let there = count_fits r in
    let many = front_count w n there in
    rw is
    (record {
      page = page_pos r.page;
      kinds = λ i h. rw (front_kind w n there i (omega (arith, many))) (s.kinds i (omega (arith, many)));
      sizes = λ i h.
          rw (front_entry w n there i (omega (arith, many))) (omega (arith, ends_below w s.rules.tiling i (omega (arith, many)), r.end_limit, r.limit_largest));
    })

-- ---- a size, or none

module _ (k q z s : ℕ) where
  pub size_fits : k ≡ q → s ≤ z → size_if_fits k q z s ≡ z
  unfolding size_if_fits
  size_fits e le = rw (eq-eqb k q e, le-leb s z le)

  pub size_short : z < s → size_if_fits k q z s ≡ no_size
  unfolding size_if_fits
  size_short lt = rw (and-false (eqb k q) (lt-leb s z lt))

  pub size_other : (k ≡ q → ⊥) → size_if_fits k q z s ≡ no_size
  unfolding size_if_fits
  size_other n = rw (ne_eqb k q n)

  record Smaller (l : ℕ) : Type 0 where
    wanted : k ≡ q
    enough : s ≤ z
    less : z < l

  smaller : (l : ℕ) → l ≤ no_size → size_if_fits k q z s < l → Smaller l
  smaller l top h = go (eqb k q) refl
    where
      go : (t : Bool) → eqb k q ≡ t → Smaller l
      go true e =
          let same : k ≡ q = eqb-true k q e in
          split s z (λ le. record { wanted = same; enough = le; less = omega (arith, size_fits same le) })
          (λ lt. absurd (omega (arith, size_short lt)))
      go false e = absurd (omega (arith, size_other (eqb-false k q e)))

-- ---- what is held

module _ (w : List ℕ) (i z : ℕ) where
  pub holding_at : z < no_size → holding w i z ≡ Some (i, entry_at w i)
  unfolding holding
  holding_at lt = rw (lt-ltb z no_size lt)

  pub holding_none : no_size ≤ z → holding w i z ≡ None
  unfolding holding
  holding_none le = rw (le-ltb z no_size le)

-- the invariant: before entry i the walk holds entry `held`, of `least` bytes, and the best of all is the best of that and of the entries from i on
pub record Held (P : ℕ) (k : Class) (s : ℕ) (w : List ℕ) (n i held least : ℕ) : Type 0 where
  pub top : least ≤ no_size
  pub among : least < no_size → held < n
  pub size : least < no_size → (entry_at w held).size ≡ least
  pub so_far : best (fits_in P k s) i (holding w held least) (entries w i (n - i)) ≡ best (fits_in P k s) 0 None (entries w 0 n)

abbrev pub Ended : ℕ → Class → ℕ → List ℕ → ℕ → ℕ → ℕ → Type 0
Ended P k s w n held least = holding w held least ≡ best (fits_in P k s) 0 None (entries w 0 n)

pub held_first : (P : ℕ) (k : Class) (s : ℕ) (w : List ℕ) (n : ℕ) → Held P k s w n 0 0 no_size
held_first P k s w n =
    record {
      top = omega arith;
      among = λ l. absurd (omega arith);
      size = λ l. absurd (omega arith);
      so_far = rw (holding_none w 0 no_size (omega arith), sub-zero n);
    }

module _ {P : ℕ} {k : Class} {s : ℕ} {w : List ℕ} {n i held least : ℕ} (h : Held P k s w n i held least) where
  held_better : (z : ℕ) → z < no_size → better z (holding w held least) ≡ ltb z least
  held_better z lt =
      split no_size least (λ le. rw (holding_none w held least le) (sym (lt-ltb z least (omega arith))))
      (λ less. rw (holding_at w held least less, h.size less))

  held_kept : i < n → best_of (fits_in P k s) i (holding w held least) (entry_at w i) ≡ holding w held least → Held P k s w n (i + 1) held least
  held_kept lt e =
      record {
        top = h.top;
        among = h.among;
        size = h.size;
        so_far = sym (best_next _ w n i _ lt _ refl _ e) ∙ h.so_far;
      }

  held_taken : i < n → (z : ℕ) → (entry_at w i).size ≡ z → z < no_size
      → best_of (fits_in P k s) i (holding w held least) (entry_at w i) ≡ Some (i, entry_at w i) → Held P k s w n (i + 1) i z
  held_taken lt z is less e =
      let here : holding w i z ≡ Some (i, entry_at w i) = holding_at w i z less in
      record {
        top = omega arith;
        among = λ l. lt;
        size = λ l. is;
        so_far = sym (best_next _ w n i _ lt _ refl _ (e ∙ sym here)) ∙ h.so_far;
      }

  pub held_last : n ≤ i → Ended P k s w n held least
  held_last le = sym (best_end _ w n i _ le) ∙ h.so_far

  held_exact : 0 < P → least ≡ s → least < no_size → Ended P k s w n held least
  held_exact pos same less =
      let here : holding w held least ≡ Some (held, entry_at w held) = holding_at w held least less in
      let stays = best_exact (fits_in P k s) s (λ y. fits_least P k s y pos) held (entry_at w held) (h.size less ∙ same) i (entries w i (n - i)) in
      here ∙ (sym stays ∙ (rw here at h.so_far))

-- ---- a turn of the walk

-- what the walk holds behind entry i, whose words are u, by r, the size if it fits, and g, whether it has room
pub record Turn (P : ℕ) (k : Class) (s : ℕ) (w : List ℕ) (n i held least : ℕ) (u : Words) (r : ℕ) : Type 0 where
  pub passed : least ≤ r → Held P k s w n (i + 1) held least
  pub asks : r < least → s ≤ u.size
  pub no_room : r < least → {g : Bool} → g ≡ room_in P k s u.address u.size → g ≡ false → Held P k s w n (i + 1) held least
  pub taken : r < least → {g : Bool} → g ≡ room_in P k s u.address u.size → g ≡ true → Held P k s w n (i + 1) i u.size
  pub exact : r < least → {g : Bool} → g ≡ room_in P k s u.address u.size → g ≡ true → u.size ≡ s → Ended P k s w n i u.size

module _ {P : ℕ} {k : Class} {s : ℕ} {w : List ℕ} {i held least : ℕ} (walk : ChooseFits P w) (h : Held P k s w (count_in w) i held least) (lt : i < count_in w) where
  module _ {u : Words} (is : u ≡ words_at w i) {q : ℕ} (wanted : q ≡ kind_of (Free k)) {r : ℕ} (r_is : r ≡ size_if_fits u.kind q u.size s) where
    read : entry_at w i ≡ piece_of u
    read = entry_said w i u is

    kind_is : Kind u.kind
    kind_is = rw (← ap (λ (v : Words). v.kind) is) at (walk.kinds i lt)

    size_less : u.size < no_size
    size_less = rw read at (walk.sizes i lt)

    smaller_is : r < least → Smaller u.kind q u.size s least
    smaller_is less = smaller u.kind q u.size s least h.top (rw r_is at less)

    fits_by_room : u.kind ≡ q → fits_in P k s (piece_of u) ≡ room_in P k s u.address u.size
    fits_by_room e = fits_free P k s (piece_of u) (free_of_kind u.kind k (e ∙ wanted))

    -- another kind does not fit
    kind_misfit : (u.kind ≡ q → ⊥) → fits_in P k s (piece_of u) ≡ false
    kind_misfit other = fits_other P k s (piece_of u) (free_of_other u.kind k (true_kind u.kind kind_is) (λ d. other (d ∙ sym wanted)))

    -- of the wanted kind, what is too short does not fit, and what is as large as the least so far is no better
    wanted_kept : least ≤ r → u.kind ≡ q → best_of (fits_in P k s) i (holding w held least) (piece_of u) ≡ holding w held least
    wanted_kept le e =
        split s u.size
        (λ m. let size : size_if_fits u.kind q u.size s ≡ u.size = size_fits _ _ _ _ e m in
        best_of_larger _ i _ _ (held_better h u.size size_less ∙ le-ltb u.size least (omega arith)))
        (λ m. best_of_misfit _ i _ _ (fits_by_room e ∙ room_short P walk.page s _ _ k m))

    pass : least ≤ r → Held P k s w (count_in w) (i + 1) held least
    pass le = held_kept h lt (rw read (go (eqb u.kind q) refl))
      where
        go : (t : Bool) → eqb u.kind q ≡ t → best_of (fits_in P k s) i (holding w held least) (piece_of u) ≡ holding w held least
        go true e = wanted_kept le (eqb-true u.kind q e)
        go false e = best_of_misfit _ i _ _ (kind_misfit (eqb-false u.kind q e))

    take : r < least → room_in P k s u.address u.size ≡ true → Held P k s w (count_in w) (i + 1) i u.size
    take less e =
        let it = smaller_is less in
        let better_is = held_better h u.size size_less ∙ lt-ltb u.size least it.less in
        held_taken h lt u.size (ap (λ (v : Piece). v.size) read) size_less
        (rw read (best_of_better (fits_in P k s) i (holding w held least) (piece_of u) (fits_by_room it.wanted ∙ e) better_is))

    pub turn : Turn P k s w (count_in w) i held least u r
    turn =
        record {
          passed = pass;
          asks = λ less. (smaller_is less).enough;
          no_room = λ less room e. held_kept h lt (rw read (best_of_misfit _ i _ _ (fits_by_room (smaller_is less).wanted ∙ (sym room ∙ e))));
          taken = λ less room e. take less (sym room ∙ e);
          exact = λ less room e same. held_exact (take less (sym room ∙ e)) walk.page same size_less;
        }
