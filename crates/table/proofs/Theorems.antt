-- The proofs of the statements in specs/Theorems.antt, each under its name in small letters; and what callers take out of `Sound`.
--
--   sound_chain, chain_sound      Sound, and the chain of its entries with the rest of what it says
--
-- Assumes nothing.
use Prim.Native.Nat.{ℕ, ◌*◌, ◌≤◌, ◌<◌}
use mathlib.Core.Bool.{Bool, true, ◌&&◌}
use mathlib.Core.List.{List, []}
use mathlib.Core.Path.{◌≡◌, sym, ap, ◌∙◌, subst⁻¹}
use native.Mathlib.Nat.{div-mul-le_self, mul-le-mul_right, le_trans}
use native.Mathlib.Omega.{arith}
use lib.ListN.{length, drop}
use Rattle.pages.proofs.Numbers.{and_left, and_right, both}
use Rattle.pages.proofs.PageLaws.{page_pos}
use Rattle.pieces.proofs.WordLaws.{length_entries, entries_of_table, table_of_entries, zeros_of_table, kinds_of_table}
use Rattle.pieces.specs.Pieces.{Kind}
use Rattle.pieces.specs.Words.{entry_words, kind_at, entry_at, entries, table, Zeros}
use Rattle.pieces.specs.declared.Class.TheVariants.{Large}
use Rattle.pieces.specs.declared.Piece.{Piece}
use Rattle.pieces.specs.declared.Status.TheVariants.{Live}
use Rattle.table.proofs.Build.{fill_chain, lives_of_fill}
use Rattle.table.proofs.Canon.{canonical}
use Rattle.table.proofs.Chain.{Chain}
use Rattle.table.proofs.Literal.{rules_of, chain_of, no_entry, no_byte}
use Rattle.table.proofs.LocalLaws.{chain_true, true_chain, ranges_true, true_ranges, kinds_true, true_kinds, zeros_true, true_zeros}
use Rattle.table.proofs.TilingLaws.{entry_at_lem, covered, ends_below, alone}
use Rattle.table.specs.Fill.{lives, fill, end_of, Good}
use Rattle.table.specs.Local.{rangesb, kindsb, zerosb, chainb, localb}
use Rattle.table.specs.Sound.{Ranges, Sound}
use Rattle.table.specs.Theorems.{LocalForm, Filled, FillForm, DeterminedBy, Determined, OneTable, FillLives, Holds, OneEntry, Tiling}

pub count_fits : {P M E n len : ℕ} → Ranges P M E n len → n * entry_words ≤ len
count_fits {n = n} {len = len} r = le_trans (mul-le-mul_right entry_words r.count) (div-mul-le_self len entry_words)

-- ---- Sound and the chain

pub sound_chain : {P M E n : ℕ} {w : List ℕ} → Sound P M E n w → Chain P E (entries w 0 n)
sound_chain {P} s = chain_of P (page_pos s.ranges.page) s.ranges.end_border s.rules

none_of : (w : List ℕ) (n : ℕ) → entries w 0 n ≡ [] → n ≡ 0
none_of w n e = sym (length_entries w 0 n) ∙ ap length e

pub chain_sound : {P M E n : ℕ} {w : List ℕ} → Ranges P M E n (length w) → Zeros w n → ((i : ℕ) → i < n → Kind (kind_at w i))
    → Chain P E (entries w 0 n) → Sound P M E n w
unfolding entries
chain_sound {P} {E = E} {n = n} {w = w} r z k c =
    let pos : 0 < P = page_pos r.page in
    record {
      ranges = r;
      zeros = z;
      kinds = k;
      rules = rules_of P pos c;
      none_then_empty = λ e. empty e;
      empty_then_none = λ e. none_of w n (no_byte P pos c e);
    }
  where
    empty : n ≡ 0 → E ≡ 0
    empty e = no_entry P (page_pos r.page) (rw e at c)

-- ---- soundness three times

pub local_form : LocalForm
unfolding localb
local_form P M E n w = (to, from)
  where
    to : Sound P M E n w → localb P M E n w ≡ true
    to s =
        both _ _ (true_ranges P M E n (length w) s.ranges)
        (both _ _ (both _ _ (true_kinds w n s.kinds) (true_chain (sound_chain s))) (true_zeros w n s.zeros))

    from : localb P M E n w ≡ true → Sound P M E n w
    from h =
        let c1 : Bool = rangesb P M E n (length w) in
        let c2 : Bool = kindsb w 0 n in
        let c3 : Bool = chainb P E (Live Large) 0 (entries w 0 n) in
        let c4 : Bool = zerosb (drop (n * entry_words) w) in
        let r : Ranges P M E n (length w) = ranges_true P M E n (length w) (and_left c1 ((c2 && c3) && c4) h) in
        let g : ((c2 && c3) && c4) ≡ true = and_right c1 ((c2 && c3) && c4) h in
        let f : (c2 && c3) ≡ true = and_left (c2 && c3) c4 g in
        chain_sound r (zeros_true w n (and_right (c2 && c3) c4 g)) (kinds_true w n (and_left c2 c3 f))
        (chain_true P E (Live Large) 0 (entries w 0 n) r.end_border (and_right c2 c3 f))

pub determined : Determined
determined P M E n w s =
    let c = canonical (page_pos s.ranges.page) (sound_chain s) in
    record { entries = c.0; ends = c.1 }

pub sound_table : {P M E n : ℕ} {w : List ℕ} → Sound P M E n w → w ≡ table (length w) (entries w 0 n)
sound_table {n = n} {w = w} s = sym (table_of_entries w n (count_fits s.ranges) s.kinds s.zeros)

pub sound_good : {P M E n : ℕ} {w : List ℕ} → Sound P M E n w → Good P (lives (entries w 0 n))
sound_good s = (canonical (page_pos s.ranges.page) (sound_chain s)).2

filled_of : (P M E n : ℕ) (w : List ℕ) → Sound P M E n w → Filled P M E n w
filled_of P M E n w s =
    let d : DeterminedBy P E (entries w 0 n) = determined P M E n w s in
    record {
      ranges = s.ranges;
      live = lives (entries w 0 n);
      good = sound_good s;
      ends = d.ends;
      count = sym (length_entries w 0 n) ∙ ap length d.entries;
      words = sound_table s ∙ ap (table (length w)) d.entries;
    }

module _ (P M E n : ℕ) (w : List ℕ) (f : Filled P M E n w) where
  abbrev es : List Piece
  es = fill P f.live

  filled_entries : entries w 0 n ≡ es
  filled_entries =
      ap (λ (v : List ℕ). entries v 0 n) f.words ∙ (ap (λ (k : ℕ). entries (table (length w) es) 0 k) f.count ∙ entries_of_table (length w) es)

  filled_sound : Sound P M E n w
  filled_sound =
      let zeros : Zeros (table (length w) es) n = subst⁻¹ (λ (k : ℕ). Zeros (table (length w) es) k) f.count (zeros_of_table (length w) es) in
      chain_sound f.ranges
      (subst⁻¹ (λ (v : List ℕ). Zeros v n) f.words zeros)
      (λ i l. subst⁻¹ (λ (v : List ℕ). Kind (kind_at v i)) f.words (kinds_of_table (length w) es i (omega (arith, f.count))))
      (rw (filled_entries, f.ends) (fill_chain (page_pos f.ranges.page) f.good))

pub fill_form : FillForm
fill_form P M E n w = (filled_of P M E n w, filled_sound P M E n w)

pub fill_lives : FillLives
fill_lives P ps g = lives_of_fill g

pub one_table : OneTable
one_table P M E n w M' E' n' w' s s' len same =
    let d = determined P M E n w s in
    let d' = determined P M' E' n' w' s' in
    let es : entries w 0 n ≡ entries w' 0 n' = d.entries ∙ (ap (fill P) same ∙ sym d'.entries) in
    record {
      ends = d.ends ∙ (ap (end_of P) same ∙ sym d'.ends);
      counts = sym (length_entries w 0 n) ∙ (ap length es ∙ length_entries w' 0 n');
      words = sound_table s ∙ (ap (table (length w)) es ∙ (ap (λ (k : ℕ). table k (entries w' 0 n')) len ∙ sym (sound_table s')));
    }

-- ---- tiling

pub tiling : Tiling
tiling P M E n w s = (one, below)
  where
    one : (v : ℕ) → v < E → OneEntry w n v
    one v h =
        let t = s.rules.tiling in
        let c = covered v t (omega arith) h in
        let l : c.place < n = rw length_entries at c.among in
        record {
          place = c.place;
          among = l;
          holds = rw (entry_at_lem w n c.place l) at c.holds;
          alone = λ i m u. alone t i c.place v (rw length_entries m) c.among (rw (entry_at_lem w n i m) u) c.holds;
        }

    below : (i v : ℕ) → i < n → Holds (entry_at w i) v → v < E
    below i v m u = omega (arith, u.to, ends_below w s.rules.tiling i m)
