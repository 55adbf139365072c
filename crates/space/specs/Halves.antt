-- The halves of the calls, once a table is known to be sound: what they ask, and what a decision leads to.
--
--   FoundIn sp w i x            the entry i of a sound table is the live piece x
--   PlaceFits sp k s w q        the place q was chosen for s bytes of class k in a sound table
--   lives_around sp w i j ps    the live pieces of the table, with ps in place of those among the entries from i up to j
--
--   carried sp w plan           what a plan leaves that is carried out; carry_said r v, that the state r and the words v are left
--   Carries sp w o plan         the plan can be carried out, and leaves o
--   Refuses sp w o k            o is the refusal k, which is not 0
--   Leads f sp w o r            the decision r, a plan or a refusal with a number by f, leads to o
--   AllocateLeads sp w o r, ReleaseLeads sp w o r, ResizeLeads sp w o r     so of each call
--
-- Assumes nothing.
use Rattle.std.specs.Prelude.{◌≡◌, List, ℕ, ◌≤◌, ◌<◌, Result, Ok, Err}
use Rattle.change.specs.declared.plan.Plan.{Plan}
use Rattle.choose.specs.Place.{place_for}
use Rattle.choose.specs.declared.place.Place.{Place}
use Rattle.find.specs.Find.{FoundAt}
use Rattle.pieces.specs.Pieces.{Small}
use Rattle.pieces.specs.declared.Class.{Class}
use Rattle.pieces.specs.declared.Piece.{Piece}
use Rattle.refusals.specs.AnswerNumbers.{no_address, allocate_refusal, release_refusal, resize_refusal}
use Rattle.refusals.specs.declared.AllocateRefusal.{AllocateRefusal}
use Rattle.refusals.specs.declared.ReleaseRefusal.{ReleaseRefusal}
use Rattle.refusals.specs.declared.ResizeRefusal.{ResizeRefusal}
use Rattle.rules.specs.Between.{lives_with}
use Rattle.settle.specs.Settle.{carried_out, CarryFits}
use Rattle.space.specs.Outcomes.{SoundSpace, entries_of, with_end, Outcome, refused}
use Rattle.space.specs.Placing.{Placed}
use Rattle.space.specs.declared.Space.{Space}

abbrev pub lives_around : Space → List ℕ → ℕ → ℕ → List Piece → List Piece
lives_around sp w i j ps = lives_with w sp.count i j ps

-- the entry i of a sound table is the live piece x
pub record FoundIn (sp : Space) (w : List ℕ) (i : ℕ) (x : Piece) : Type 0 where
  pub sound : SoundSpace sp w
  pub found : FoundAt x.address x.size (entries_of sp w) i x

-- the place q was chosen for s bytes of class k, of which there is at least one, among the entries of a sound table
pub record PlaceFits (sp : Space) (k : Class) (s : ℕ) (w : List ℕ) (q : Place) : Type 0 where
  pub sound : SoundSpace sp w
  pub chosen : q ≡ place_for sp.page k s (entries_of sp w)
  pub some : 1 ≤ s
  pub small : Small k → s < sp.page

-- ---- what a decision leads to

abbrev pub carry_said : Space → List ℕ → Outcome
carry_said r v = record { refusal = 0; state = r; words = v }

abbrev pub carried : Space → List ℕ → Plan → Outcome
carried sp w plan = carry_said (with_end sp plan.end plan.count) (carried_out sp.count w plan)

pub record Carries (sp : Space) (w : List ℕ) (o : Outcome) (plan : Plan) : Type 0 where
  pub leads : carried sp w plan ≡ o
  pub fits : CarryFits sp.count w plan

pub record Refuses (sp : Space) (w : List ℕ) (o : Outcome) (k : ℕ) : Type 0 where
  pub leads : refused k sp w ≡ o
  pub some : k ≡ 0 → ⊥

-- the refusals of the decision r have the numbers `number`
abbrev pub Leads : {E : Type 0} → (E → ℕ) → Space → List ℕ → Outcome → Result Plan E → Type 0
Leads number sp w o (Ok plan) = Carries sp w o plan
Leads number sp w o (Err refusal) = Refuses sp w o (number refusal)

abbrev pub ReleaseLeads : Space → List ℕ → Outcome → Result Plan ReleaseRefusal → Type 0
ReleaseLeads sp w o r = Leads release_refusal sp w o r

abbrev pub ResizeLeads : Space → List ℕ → Outcome → Result Plan ResizeRefusal → Type 0
ResizeLeads sp w o r = Leads resize_refusal sp w o r

-- a refusal has no address
abbrev pub AllocateLeads : Space → List ℕ → Placed → Result (ℕ × Plan) AllocateRefusal → Type 0
AllocateLeads sp w o (Ok (b, plan)) = (b ≡ o.address) × Carries sp w o.outcome plan
AllocateLeads sp w o (Err refusal) = (no_address ≡ o.address) × Refuses sp w o.outcome (allocate_refusal refusal)
