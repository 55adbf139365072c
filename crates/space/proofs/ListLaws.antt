-- Laws of a listing, refusal by refusal.
--
--   listed_unsound, -unknown          2 and 3
--   listed_short, listed-written      what `sections` says of the slice: too short, or the sections
--
-- Assumes nothing.
use Prim.Native.Nat.{ℕ, ◌*◌}
use mathlib.Core.Bool.{true, false, not}
use mathlib.Core.List.{List}
use mathlib.Core.Path.{◌≡◌, sym, ap, ◌∙◌}
use lib.ListN.{length}
use borrow.Author.Tests.{le-ltb, lt-ltb}
use Rattle.std.specs.Prelude.{Option, Some, None}
use Rattle.pages.proofs.Numbers.{split}
use Rattle.pieces.specs.declared.Class.{Class}
use Rattle.pieces.specs.declared.Piece.{Piece}
use Rattle.refusals.specs.AnswerNumbers.{not_sound, unknown_code, slice_too_short}
use Rattle.requests.specs.Requests.{managerb, class_of_manager}
use Rattle.sections.specs.Sections.{sections, pair_words, Left, listed_in}
use Rattle.space.proofs.OutcomeLaws.{refusing_yes, refusing_no, sound_true}
use Rattle.space.specs.Listing.{ListOutcome, uncounted, listed_as, listed}
use Rattle.space.specs.Outcomes.{SoundSpace, soundb, entries_of, refused}
use Rattle.space.specs.declared.Space.{Space}

-- what `sections` answers, as a listing leaves it
abbrev pub list_outcome_of : Space → Option ℕ → List ℕ → ListOutcome
list_outcome_of sp (Some n) v = record { refusal = 0; count = n; state = sp; words = v }
list_outcome_of sp None v = uncounted (refused slice_too_short sp v)

listed_said : (sp : Space) (v : List ℕ) (xs : List Piece) (r : Option ℕ) (u : List ℕ) → ◌≡◌ {A = Left} (record { answer = r; words = u }) (listed_in v xs)
    → list_outcome_of sp r u ≡ listed_as sp v xs
unfolding listed_in listed_as
listed_said sp v xs r u e =
    split (length xs * pair_words) (length v)
    (λ l.
    let t = le-ltb (length v) (length xs * pair_words) l in
    let q = rw t at e in
    (λ i. list_outcome_of sp (q i).answer (q i).words) ∙ sym (refusing_no uncounted sp v _ slice_too_short _ t))
    (λ l.
    let t = lt-ltb (length v) (length xs * pair_words) l in
    let q = rw t at e in
    (λ i. list_outcome_of sp (q i).answer (q i).words) ∙ sym (refusing_yes uncounted sp v _ slice_too_short _ t))

module _ (sp : Space) (m : ℕ) (w v : List ℕ) where
  pub listed_unsound : soundb sp w ≡ false → listed sp m w v ≡ uncounted (refused not_sound sp v)
  unfolding listed
  listed_unsound e = refusing_yes uncounted sp v _ not_sound _ (ap not e)

  module _ (sound : SoundSpace sp w) where
    checked : not (soundb sp w) ≡ false
    checked = ap not (sound_true sp w sound)

    pub listed_unknown : managerb m ≡ false → listed sp m w v ≡ uncounted (refused unknown_code sp v)
    unfolding listed
    listed_unknown e = refusing_no uncounted sp v _ not_sound _ checked ∙ refusing_yes uncounted sp v _ unknown_code _ (ap not e)

    -- what `sections` answered, with the class of the manager
    pub listed_answered : managerb m ≡ true → {k : Class} → k ≡ class_of_manager m → {r s : Option ℕ} {u : List ℕ} → r ≡ s
        → ◌≡◌ {A = Left} (record { answer = r; words = u }) (listed_in v (sections k (entries_of sp w)))
        → list_outcome_of sp s u ≡ listed sp m w v
    unfolding listed
    listed_answered e {k} is {r} {s} {u} q h =
        ap (λ (x : Option ℕ). list_outcome_of sp x u) (sym q)
        ∙ (listed_said sp v (sections k (entries_of sp w)) r u h
        ∙ (ap (λ (c : Class). listed_as sp v (sections c (entries_of sp w))) is
        ∙ sym (refusing_no uncounted sp v _ not_sound _ checked ∙ refusing_no uncounted sp v _ unknown_code _ (ap not e))))
