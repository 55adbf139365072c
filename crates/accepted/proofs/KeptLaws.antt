-- What good live pieces determine is sound, and holds those pieces.
--
--   tabled sp w ps        the words of the table that the live pieces ps determine, as long as w
--   tabled_length         it is as long as w
--   tabled_sound          with the state that they determine it is sound, if E stays within M and n within C
--   tabled_lives          its live entries are ps
--   sound_ends, sound_count, sound_words, sound_state    end, count, words and state of a sound table are those that its live pieces determine
--
-- Assumes nothing.
use Prim.Native.Nat.{ℕ, ◌≤◌, ◌<◌}
use mathlib.Core.List.{List}
use mathlib.Core.Path.{◌≡◌, refl, sym, ap, ◌∙◌}
use native.Mathlib.Nat.{div-mul-le_self, mul-le-mul_right, le_trans}
use lib.ListN.{length}
use Rattle.pages.proofs.PageLaws.{page_pos, up_border}
use Rattle.pages.specs.Pages.{Border}
use Rattle.pieces.proofs.WordLaws.{length_entries, length_table, entries_of_table}
use Rattle.pieces.specs.Words.{entry_words, table}
use Rattle.pieces.specs.declared.Piece.{Piece}
use Rattle.space.specs.Outcomes.{SoundSpace, entries_of, state_of}
use Rattle.space.specs.declared.Space.{Space}
use Rattle.table.proofs.Theorems.{determined, sound_table, fill_form, fill_lives}
use Rattle.table.specs.Fill.{lives, last_end, fill, end_of, Good}
use Rattle.table.specs.Sound.{capacity, Ranges}

abbrev pub tabled : Space → List ℕ → List Piece → List ℕ
tabled sp w ps = table (length w) (fill sp.page ps)

end_border : (P : ℕ) (ps : List Piece) → 0 < P → Border P (end_of P ps)
unfolding end_of
end_border P ps pos = up_border P pos (last_end 0 ps)

pub tabled_length : (sp : Space) (w : List ℕ) (ps : List Piece) → length (fill sp.page ps) ≤ capacity (length w)
    → length (tabled sp w ps) ≡ length w
tabled_length sp w ps few =
    length_table (length w) (fill sp.page ps) (le_trans (mul-le-mul_right entry_words few) (div-mul-le_self (length w) entry_words))

pub tabled_lives : (sp : Space) (w : List ℕ) (ps : List Piece) → Good sp.page ps
    → lives (entries_of (state_of sp ps) (tabled sp w ps)) ≡ ps
tabled_lives sp w ps good =
    ap lives (entries_of_table (length w) (fill sp.page ps)) ∙ fill_lives sp.page ps good

tabled_ranges : (sp : Space) (w : List ℕ) (ps : List Piece) → SoundSpace sp w → end_of sp.page ps ≤ sp.limit
    → length (fill sp.page ps) ≤ capacity (length w)
    → Ranges sp.page sp.limit (end_of sp.page ps) (length (fill sp.page ps)) (length w)
tabled_ranges sp w ps s within few =
    record {
      page = s.ranges.page;
      limit_least = s.ranges.limit_least;
      limit_largest = s.ranges.limit_largest;
      end_border = end_border sp.page ps (page_pos s.ranges.page);
      end_limit = within;
      count = few;
      slice = s.ranges.slice;
    }

pub tabled_sound : (sp : Space) (w : List ℕ) (ps : List Piece) → SoundSpace sp w → Good sp.page ps → end_of sp.page ps ≤ sp.limit
    → length (fill sp.page ps) ≤ capacity (length w) → SoundSpace (state_of sp ps) (tabled sp w ps)
tabled_sound sp w ps s good within few =
    let l : length (tabled sp w ps) ≡ length w = tabled_length sp w ps few in
    (fill_form sp.page sp.limit (end_of sp.page ps) (length (fill sp.page ps)) (tabled sp w ps)).1
    (record {
      ranges = rw l (tabled_ranges sp w ps s within few);
      live = ps;
      good = good;
      ends = refl;
      count = refl;
      words = ap (λ (len : ℕ). table len (fill sp.page ps)) (sym l);
    })

-- ---- a sound table

module _ (sp : Space) (w : List ℕ) (s : SoundSpace sp w) where
  pub sound_ends : sp.end ≡ end_of sp.page (lives (entries_of sp w))
  sound_ends = (determined sp.page sp.limit sp.end sp.count w s).ends

  pub sound_count : sp.count ≡ length (fill sp.page (lives (entries_of sp w)))
  sound_count =
      sym (length_entries w 0 sp.count) ∙ ap length (determined sp.page sp.limit sp.end sp.count w s).entries

  pub sound_words : w ≡ tabled sp w (lives (entries_of sp w))
  sound_words = sound_table s ∙ ap (table (length w)) (determined sp.page sp.limit sp.end sp.count w s).entries

  pub sound_state : sp ≡ state_of sp (lives (entries_of sp w))
  sound_state = λ i. record { page = sp.page; limit = sp.limit; end = sound_ends i; count = sound_count i }
