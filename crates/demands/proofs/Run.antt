-- The run of document 01: the calls' own meanings compute, on state and words, and one `unfolding` line names every definition on the way.
--
-- Assumes nothing.
use Prim.Native.Nat.{ℕ}
use mathlib.Core.List.{List}
use mathlib.Core.Path.{◌≡◌, refl, ap, ◌∙◌}
use lib.ListN.{length, replicate}
use Rattle.choose.specs.Choose.{room_in, fits_in, best_of, best}
use Rattle.choose.specs.Place.{large_place_for, small_place_for, place_for}
use Rattle.demands.specs.Calls.{called, ran}
use Rattle.demands.specs.Demands.{TheRun}
use Rattle.demands.specs.Run.{answered, played, calls_of, five_steps, twelve_steps, exchanged_steps, left_after_five, left_after_twelve, begun}
use Rattle.find.specs.Find.{holdsb, told_of, find_in}
use Rattle.pages.specs.Pages.{down, up}
use Rattle.pieces.specs.Pieces.{status_of}
use Rattle.pieces.specs.Words.{entry_at, entries, words, table}
use Rattle.requests.specs.Requests.{class_for}
use Rattle.room.specs.Room.{small_roomb, large_roomb, room_behindb, grows_beyondb, remainsb}
use Rattle.rules.specs.Editing.{insert, remove, resize}
use Rattle.space.specs.Giving.{when_named, naming, released_at, released, new_size, resized_to, resized}
use Rattle.space.specs.Opening.{opened}
use Rattle.space.specs.Outcomes.{Outcome, refusing, settled}
use Rattle.space.specs.Placing.{placed_at, placed, allocated}
use Rattle.table.specs.Fill.{lives, free, lo, hi, gap, fill_from, fill, last_end, end_of}
use Rattle.table.specs.Local.{table_lengthb, rangesb, kindsb, zerosb, shapeb, besideb, cutb, entryb, chainb, localb}

-- what an opening over 36 words leaves
abbrev start : Outcome
start = record { refusal = 0; state = record { page = 512; limit = 5120; end = 0; count = 0 }; words = replicate 36 0 }

begun_over : (w : List ℕ) → length w ≡ 36 → begun w ≡ start
unfolding opened rangesb table_lengthb
begun_over w e = rw e

-- ---- the rules compute

record FromStart : Type 0 where
  twelve : played (calls_of twelve_steps) start.state start.words ≡ twelve_steps
  after_five : ran (calls_of five_steps) start.state start.words ≡ left_after_five
  after_twelve : ran (calls_of twelve_steps) start.state start.words ≡ left_after_twelve
  exchanged : played (calls_of exchanged_steps) start.state start.words ≡ exchanged_steps
  exchanged_ends : ran (calls_of exchanged_steps) start.state start.words ≡ left_after_twelve

from_start : FromStart
unfolding down up status_of entry_at entries words table
    lives free lo hi gap fill_from fill last_end end_of
    table_lengthb rangesb kindsb zerosb shapeb besideb cutb entryb chainb localb
    room_in fits_in best_of best large_place_for small_place_for place_for class_for holdsb told_of find_in
    small_roomb large_roomb room_behindb grows_beyondb remainsb
    insert remove resize refusing settled placed_at placed allocated
    when_named naming released_at released new_size resized_to resized
    called ran answered played calls_of
from_start = record { twelve = refl; after_five = refl; after_twelve = refl; exchanged = refl; exchanged_ends = refl }

-- ---- the statement

pub the_run : TheRun
the_run w e =
    let b : begun w ≡ start = begun_over w e in
    record {
      opening = ap (λ (o : Outcome). o.refusal) b;
      twelve = ap (λ (o : Outcome). played (calls_of twelve_steps) o.state o.words) b ∙ from_start.twelve;
      after_five = ap (λ (o : Outcome). ran (calls_of five_steps) o.state o.words) b ∙ from_start.after_five;
      after_twelve = ap (λ (o : Outcome). ran (calls_of twelve_steps) o.state o.words) b ∙ from_start.after_twelve;
      exchanged = ap (λ (o : Outcome). played (calls_of exchanged_steps) o.state o.words) b ∙ from_start.exchanged;
      exchanged_ends = ap (λ (o : Outcome). ran (calls_of exchanged_steps) o.state o.words) b ∙ from_start.exchanged_ends;
    }
