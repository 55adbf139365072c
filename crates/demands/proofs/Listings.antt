-- A listing: the statement `Listings`.
--
--   listings         the statement
--
-- Assumes nothing.
use Prim.Native.Nat.{ℕ}
use mathlib.Core.List.{List}
use mathlib.Core.Path.{◌≡◌, refl, sym, ap, ◌∙◌}
use native.Mathlib.Omega.{arith}
use borrow.Author.Tests.{not-false}
use Rattle.demands.specs.Demands.{Listings}
use Rattle.pieces.specs.declared.Piece.{Piece}
use Rattle.refusals.specs.AnswerNumbers.{not_sound, unknown_code, slice_too_short}
use Rattle.requests.specs.Requests.{class_of_manager}
use Rattle.sections.proofs.OrderLaws.{sections_right}
use Rattle.sections.specs.Sections.{sections}
use Rattle.space.proofs.OutcomeLaws.{passed, is_sound_true}
use Rattle.space.specs.Listing.{ListOutcome, uncounted, listed_as, listed}
use Rattle.space.specs.Outcomes.{SoundSpace, soundb, entries_of}

pub listings : Listings
unfolding listed listed_as
listings sp m w v e =
    let number : ListOutcome → ℕ = λ o. o.refusal in
    let xs : List Piece = sections (class_of_manager m) (entries_of sp w) in
    let a = passed uncounted sp v number (λ o. refl) _ not_sound _ (λ n. omega arith) e in
    let b = passed uncounted sp v number (λ o. refl) _ unknown_code _ (λ n. omega arith) (sym (ap number a.1) ∙ e) in
    let c = passed uncounted sp v number (λ o. refl) _ slice_too_short _ (λ n. omega arith) (sym (ap number (a.1 ∙ b.1)) ∙ e) in
    let s : SoundSpace sp w = is_sound_true sp w (not-false (soundb sp w) a.0) in
    let all : listed sp m w v ≡ _ = a.1 ∙ (b.1 ∙ c.1) in
    record {
      sections = xs;
      are = sections_right sp.page sp.limit sp.end sp.count w (class_of_manager m) s;
      count = ap (λ (o : ListOutcome). o.count) all;
      words = ap (λ (o : ListOutcome). o.words) all;
    }
