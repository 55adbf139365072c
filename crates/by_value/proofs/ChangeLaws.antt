-- Laws of a change that is carried out with a summary.
--
--   went_countable, came_countable    the entries that are to go, and those that were laid, can be counted
--   replaces                          the new table came of the old one as `running` asks
use Prim.Native.Nat.{ℕ, ◌-◌, ◌*◌, ◌≤◌}
use mathlib.Core.List.{List}
use mathlib.Core.Path.{◌≡◌, ap, ◌∙◌}
use native.Mathlib.Omega.{arith}
use lib.IntN.{pos}
use lib.ListN.{length}
use Rattle.by_value.specs.Change.{ChangeFits}
use Rattle.change.specs.declared.plan.Plan.{Plan}
use Rattle.edit.specs.New.{new_entries}
use Rattle.pieces.proofs.WordLaws.{entries_parts, part_entries}
use Rattle.pieces.specs.Words.{entry_words, words_of, entries, entries_in}
use Rattle.settle.proofs.SettleLaws.{carried_entries, carried_new}
use Rattle.settle.specs.Settle.{carried_out}
use Rattle.running.specs.Replacing.{Replaces}
use Rattle.space.specs.Halves.{carried, carry_said}
use Rattle.space.specs.Outcomes.{SoundSpace, entries_of, Outcome}
use Rattle.space.specs.declared.Space.{Space}
use Rattle.table.proofs.Theorems.{count_fits}
use Rattle.totals.proofs.CountLaws.{countable_taken, countable_sound}
use Rattle.totals.specs.Counting.{Countable}
use Rattle.totals.specs.Summary.{summary_of}
use Rattle.totals.specs.declared.Summary.{Summary}

module _ {sp : Space} {w : List ℕ} {s : Summary} {plan : Plan} (f : ChangeFits sp w s plan) where
  -- ---- before the change

  pub went_countable : {u : List ℕ} → u ≡ words_of w plan.from plan.to → Countable u
  went_countable is = countable_taken f.sound plan.from plan.to f.fits.low f.fits.high is

  went : {u : List ℕ} → u ≡ words_of w plan.from plan.to → entries_in u ≡ entries w plan.from (plan.to - plan.from)
  went is = ap entries_in is ∙ part_entries w plan.from plan.to f.fits.low (omega (arith, f.fits.high, count_fits f.sound.ranges))

  -- ---- after it: the words v and the state r are left

  module _ {r : Space} {v : List ℕ} (left : carry_said r v ≡ carried sp w plan) where
    words_are : v ≡ carried_out sp.count w plan
    words_are = ap (λ (o : Outcome). o.words) left

    state_is : r ≡ (carried sp w plan).state
    state_is = ap (λ (o : Outcome). o.state) left

    pub next_sound : SoundSpace r v
    next_sound = rw (words_are, state_is) f.next

    abbrev laid_to : ℕ
    laid_to = plan.count - (sp.count - plan.to)

    pub came_countable : {u : List ℕ} → u ≡ words_of v plan.from laid_to → Countable u
    came_countable is = countable_taken next_sound plan.from laid_to (omega (arith, f.fits.counted)) (rw state_is (omega arith)) is

    came : {u : List ℕ} → u ≡ words_of v plan.from laid_to → entries_in u ≡ new_entries plan.new
    came is =
        let many : laid_to - plan.from ≡ length (new_entries plan.new) = omega (arith, f.fits.counted) in
        let within : plan.count * entry_words ≤ length v = rw words_are (count_fits f.next.ranges) in
        ap entries_in is
        ∙ part_entries v plan.from laid_to (omega (arith, f.fits.counted)) (omega (arith, within))
        ∙ rw (many, words_are) (carried_new f.fits)

    -- ---- was and is are the summaries of what went and of what came, and u the words of all entries

    pub replaces : {was is : Summary} {gone laid u : List ℕ} → gone ≡ words_of w plan.from plan.to → was ≡ summary_of (pos 0) (entries_in gone)
        → laid ≡ words_of v plan.from laid_to → is ≡ summary_of (pos 0) (entries_in laid) → u ≡ words_of v 0 r.count → entries_in u ≡ entries_of r v
        → Replaces s was is u
    replaces gone_is was_is laid_is is_is all_is entries_are =
        record {
          front = entries w 0 plan.from;
          gone = entries w plan.from (plan.to - plan.from);
          laid = new_entries plan.new;
          back = entries w plan.to (sp.count - plan.to);
          agreed = rw (← entries_parts w plan.from plan.to sp.count f.fits.low f.fits.high) f.agrees;
          was_gone = was_is ∙ ap (summary_of (pos 0)) (went gone_is);
          is_laid = is_is ∙ ap (summary_of (pos 0)) (came laid_is);
          stands = entries_are ∙ rw (words_are, state_is) (carried_entries f.fits);
          countable = countable_sound next_sound all_is;
        }
