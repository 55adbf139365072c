-- Any two results that a promise allows are equal: the translation of an answer to document 01's numbers has a way back.
--
--   unique               a translation with a way back allows one result
--   open_back .. list_back   the answer of a number, and of the address or the count with it
--   one_result           the statement
--
-- Assumes nothing.
use Prim.Native.Nat.{ℕ}
use mathlib.Core.Bool.{cond}
use mathlib.Core.List.{List}
use mathlib.Core.Path.{◌≡◌, refl, sym, ap, ◌∙◌}
use lib.Dec.{eqb}
use Rattle.demands.specs.Demands.{Unique, OneResult}
use Rattle.refusals.specs.AnswerNumbers.{not_sound, unknown_code, zero_asked, beyond_limit, no_room_behind, too_little_left}
use Rattle.refusals.specs.AnswerNumbers.{beyond_end, in_free, inside_live, other_size, not_named_number}
use Rattle.refusals.specs.AnswerNumbers.{open_number, allocate_number, address_of, release_number, resize_number, list_number, count_of}
use Rattle.refusals.specs.declared.AllocateRefusal.{AllocateRefusal}
use Rattle.refusals.specs.declared.ListRefusal.{ListRefusal}
use Rattle.refusals.specs.declared.OpenRefusal.{OpenRefusal}
use Rattle.refusals.specs.declared.ReleaseRefusal.{ReleaseRefusal}
use Rattle.refusals.specs.declared.ResizeRefusal.{ResizeRefusal}
use Rattle.refusals.specs.declared.NotNamed.TheVariants.{BeyondEnd, InFree, InsideLive, OtherSize}
use Rattle.refusals.specs.declared.NotNamed.{NotNamed}
use Rattle.refusals.specs.declared.NotResized.TheVariants.{NoRoomBehind, BeyondLimit, TooLittleLeft}
use Rattle.refusals.specs.declared.OpenRefusal.TheVariants as opening
use Rattle.refusals.specs.declared.AllocateRefusal.TheVariants as allocating
use Rattle.refusals.specs.declared.ReleaseRefusal.TheVariants as releasing
use Rattle.refusals.specs.declared.ResizeRefusal.TheVariants as resizing
use Rattle.refusals.specs.declared.ListRefusal.TheVariants as listing
use Rattle.std.specs.Prelude.{Result, Ok, Err}
use Rattle.space.specs.Giving.{released, extended, shortened}
use Rattle.space.specs.Listing.{ListOutcome, listed}
use Rattle.space.specs.Opening.{opened, default_page, default_limit}
use Rattle.space.specs.Outcomes.{Outcome}
use Rattle.space.specs.Placing.{Placed, allocated}
use Rattle.space.specs.Said.{open_said, allocate_said, release_said, resize_said, list_said}

-- ---- the general argument

module _ {R O : Type 0} (said : R → List ℕ → O) (back : O → R) (words : O → List ℕ) where
  pub unique : ((r : R) (v : List ℕ) → back (said r v) ≡ r) → ((r : R) (v : List ℕ) → words (said r v) ≡ v) → (o : O) → Unique said o
  unique b w o r r' v v' e e' =
      (sym (b r v) ∙ (ap back (e ∙ sym e') ∙ b r' v'), sym (w r v) ∙ (ap words (e ∙ sym e') ∙ w r' v'))

-- ---- the ways back

open_of : ℕ → Result Unit OpenRefusal
open_of k = cond (eqb k 0) (Ok tt) (Err opening.OutOfRange)

allocate_of : ℕ → ℕ → Result ℕ AllocateRefusal
allocate_of k a =
    cond (eqb k 0) (Ok a)
    (Err (cond (eqb k not_sound) allocating.NotSound
    (cond (eqb k unknown_code) allocating.UnknownType
    (cond (eqb k zero_asked) allocating.NoBytes (cond (eqb k beyond_limit) allocating.BeyondLimit allocating.TableFull)))))

-- the reason why a piece is not named, in an answer; and else r
named_of : {R : Type 0} → (NotNamed → R) → R → ℕ → R
named_of answer r k =
    cond (eqb k beyond_end) (answer BeyondEnd)
    (cond (eqb k in_free) (answer InFree)
    (cond (eqb k inside_live) (answer InsideLive) (cond (eqb k other_size) (answer OtherSize) r)))

release_of : ℕ → Result Unit ReleaseRefusal
release_of k =
    named_of (λ why. Err (releasing.NotNamed why)) (cond (eqb k 0) (Ok tt) (Err (cond (eqb k not_sound) releasing.NotSound releasing.TableFull))) k

resize_of : ℕ → Result Unit ResizeRefusal
resize_of k =
    named_of (λ why. Err (resizing.NotNamed why))
    (cond (eqb k 0) (Ok tt)
    (Err (cond (eqb k not_sound) resizing.NotSound
    (cond (eqb k zero_asked) resizing.NoBytes
    (cond (eqb k no_room_behind) (resizing.NotResized NoRoomBehind)
    (cond (eqb k beyond_limit) (resizing.NotResized BeyondLimit)
    (cond (eqb k too_little_left) (resizing.NotResized TooLittleLeft) resizing.TableFull))))))) k

list_of : ℕ → ℕ → Result ℕ ListRefusal
list_of k count =
    cond (eqb k 0) (Ok count)
    (Err (cond (eqb k not_sound) listing.NotSound (cond (eqb k unknown_code) listing.UnknownManager listing.SliceTooShort)))

open_back : (a : Result Unit OpenRefusal) → open_of (open_number a) ≡ a
unfolding open_of
open_back (Ok u) = refl
open_back (Err opening.OutOfRange) = refl

allocate_back : (a : Result ℕ AllocateRefusal) → allocate_of (allocate_number a) (address_of a) ≡ a
unfolding allocate_of
allocate_back (Ok b) = refl
allocate_back (Err allocating.NotSound) = refl
allocate_back (Err allocating.UnknownType) = refl
allocate_back (Err allocating.NoBytes) = refl
allocate_back (Err allocating.BeyondLimit) = refl
allocate_back (Err allocating.TableFull) = refl

named_back : {R : Type 0} (answer : NotNamed → R) (r : R) (why : NotNamed) → named_of answer r (not_named_number why) ≡ answer why
unfolding named_of
named_back answer r BeyondEnd = refl
named_back answer r InFree = refl
named_back answer r InsideLive = refl
named_back answer r OtherSize = refl

release_back : (a : Result Unit ReleaseRefusal) → release_of (release_number a) ≡ a
unfolding release_of named_of
release_back (Ok u) = refl
release_back (Err releasing.NotSound) = refl
release_back (Err (releasing.NotNamed why)) = named_back (λ r. Err (releasing.NotNamed r)) _ why
release_back (Err releasing.TableFull) = refl

resize_back : (a : Result Unit ResizeRefusal) → resize_of (resize_number a) ≡ a
unfolding resize_of named_of
resize_back (Ok u) = refl
resize_back (Err resizing.NotSound) = refl
resize_back (Err resizing.NoBytes) = refl
resize_back (Err (resizing.NotNamed why)) = named_back (λ r. Err (resizing.NotNamed r)) _ why
resize_back (Err (resizing.NotResized NoRoomBehind)) = refl
resize_back (Err (resizing.NotResized BeyondLimit)) = refl
resize_back (Err (resizing.NotResized TooLittleLeft)) = refl
resize_back (Err resizing.TableFull) = refl

list_back : (a : Result ℕ ListRefusal) → list_of (list_number a) (count_of a) ≡ a
unfolding list_of
list_back (Ok k) = refl
list_back (Err listing.NotSound) = refl
list_back (Err listing.UnknownManager) = refl
list_back (Err listing.SliceTooShort) = refl

-- ---- a line for each call

abbrev words_of : Outcome → List ℕ
words_of o = o.words

pub open_unique : (o : Outcome) → Unique open_said o
open_unique =
    unique open_said (λ o. record { space = o.state; answer = open_of o.refusal }) words_of
    (λ r v i. record { space = r.space; answer = open_back r.answer i }) (λ r v. refl)

pub allocate_unique : (o : Placed) → Unique allocate_said o
allocate_unique =
    unique allocate_said (λ o. record { space = o.outcome.state; answer = allocate_of o.outcome.refusal o.address }) (λ o. o.outcome.words)
    (λ r v i. record { space = r.space; answer = allocate_back r.answer i }) (λ r v. refl)

pub release_unique : (o : Outcome) → Unique release_said o
release_unique =
    unique release_said (λ o. record { space = o.state; answer = release_of o.refusal }) words_of
    (λ r v i. record { space = r.space; answer = release_back r.answer i }) (λ r v. refl)

pub resize_unique : (o : Outcome) → Unique resize_said o
resize_unique =
    unique resize_said (λ o. record { space = o.state; answer = resize_of o.refusal }) words_of
    (λ r v i. record { space = r.space; answer = resize_back r.answer i }) (λ r v. refl)

list_unique : (o : ListOutcome) → Unique list_said o
list_unique =
    unique list_said (λ o. record { space = o.state; answer = list_of o.refusal o.count }) (λ o. o.words)
    (λ r v i. record { space = r.space; answer = list_back r.answer i }) (λ r v. refl)

pub one_result : OneResult
one_result =
    record {
      opening = λ P M w. open_unique (opened P M w);
      default_opening = λ w. open_unique (opened default_page default_limit w);
      allocating = λ sp t s w. allocate_unique (allocated sp t s w);
      releasing = λ sp a z w. release_unique (released sp a z w);
      extending = λ sp a z m w. resize_unique (extended sp a z m w);
      shortening = λ sp a z k w. resize_unique (shortened sp a z k w);
      listing = λ sp m w v. list_unique (listed sp m w v);
    }
