-- Laws of an allocation: the new piece stands among the live ones in address order, and refusal by refusal what an allocation means.
--
--   beyond_end_lem, beyond_not     whether the place is beyond the limit
--   place_grow, place_settle       what the limit's test and a change ask
--   Stands, stands, stands_at      the piece stands before the place's entry, and ends within the limit
--   placed_beyond, placed_change, placed_full     what is decided on the place
--   place_fits                     the place that is chosen in a sound table
--   allocated_unsound, -unknown, -zero, -placed     a request
--   allocate_same, -fits, -done, -not      what was decided on it, and done
--
-- Assumes nothing.
use Prim.Native.Nat.{ℕ, ◌+◌, ◌≤◌, ◌<◌}
use mathlib.Core.Bool.{true, false, not}
use mathlib.Core.List.{List, [], ◌∷◌}
use mathlib.Core.Path.{◌≡◌, refl, sym, ap, ◌∙◌, subst, subst⁻¹}
use native.Mathlib.Omega.{arith}
use borrow.Author.Tests.{eq-eqb, ne_eqb}
use Rattle.change.specs.Change.{plan_with}
use Rattle.change.specs.declared.plan.Plan.{Plan}
use Rattle.choose.proofs.LiesLaws.{PlaceIn, section_in, page_in}
use Rattle.choose.specs.Place.{place_for, at_endb, place_address, place_entry}
use Rattle.choose.specs.declared.place.Place.TheVariants.{Section, Page, End}
use Rattle.choose.specs.declared.place.Place.{Place}
use Rattle.pages.proofs.Numbers.{split}
use Rattle.pages.proofs.PageLaws.{page_pos}
use Rattle.pieces.specs.Pieces.{piece, behind}
use Rattle.pieces.specs.declared.Class.{Class}
use Rattle.pieces.specs.declared.Piece.{Piece}
use Rattle.pieces.specs.declared.Status.TheVariants.{Live}
use Rattle.refusals.specs.AnswerNumbers.{not_sound, unknown_code, zero_asked, beyond_limit, table_full, no_address, allocate_refusal}
use Rattle.refusals.specs.declared.AllocateRefusal.{AllocateRefusal}
use Rattle.refusals.specs.declared.AllocateRefusal.TheVariants as allocate
use Rattle.requests.proofs.RequestLaws.{class_small}
use Rattle.requests.specs.Requests.{typeb, class_for}
use Rattle.room.proofs.RoomLaws.{limit_kept}
use Rattle.room.specs.Room.{passesb, GrowFits}
use Rattle.rules.proofs.InsertLaws.{insert_within, insert_last}
use Rattle.rules.specs.Editing.{insert}
use Rattle.settle.proofs.SettleLaws.{ready_with, full_with}
use Rattle.settle.specs.Settle.{if_room, SettleFits, CarryFits}
use Rattle.space.proofs.OutcomeLaws.{refusing_yes, refusing_no, sound_true, settled_carried, settled_not}
use Rattle.space.specs.Halves.{PlaceFits, lives_around, carry_said, carried, Carries, Refuses, AllocateLeads}
use Rattle.space.specs.Outcomes.{SoundSpace, soundb, entries_of, lives_of, Outcome, refused, settled}
use Rattle.space.specs.Placing.{beyondb, Placed, unplaced, placed_at, placed, allocated}
use Rattle.space.specs.declared.Space.{Space}
use Rattle.std.specs.Prelude.{Option, Some, None, Result, Ok, Err}
use Rattle.table.proofs.TilingLaws.{ends_below}

-- ---- the limit

module _ (sp : Space) (s : ℕ) (q : Place) where
  pub beyond_end_lem : at_endb q ≡ true → beyondb sp s q ≡ passesb sp.page sp.limit sp.end s
  beyond_end_lem e = rw e

  pub beyond_not : at_endb q ≡ false → beyondb sp s q ≡ false
  beyond_not e = rw e

-- ---- decisions

-- an outcome with its address
module _ {sp : Space} {w : List ℕ} {o : Outcome} (b : ℕ) where
  placed_carried : {plan : Plan} → Carries sp w o plan → AllocateLeads sp w (placed_at b o) (Ok (b, plan))
  unfolding placed_at
  placed_carried c = (ap (λ (v : Outcome). (placed_at b v).address) c.leads, c)

  placed_not : Refuses sp w o table_full → AllocateLeads sp w (placed_at b o) (Err allocate.TableFull)
  unfolding placed_at
  placed_not c = (ap (λ (v : Outcome). (placed_at b v).address) c.leads, c)

-- a refusal has no address
pub refusal_leads : (sp : Space) (w : List ℕ) {o : Placed} {k : ℕ} → o ≡ unplaced (refused k sp w) → (k ≡ 0 → ⊥)
    → (no_address ≡ o.address) × Refuses sp w o.outcome k
refusal_leads sp w e n = (ap (λ (v : Placed). v.address) (sym e), record { leads = ap (λ (v : Placed). v.outcome) (sym e); some = n })

pub allocate_same : (sp : Space) (w : List ℕ) {o o' : Placed} (r : Result (ℕ × Plan) AllocateRefusal) → o ≡ o' → AllocateLeads sp w o' r → AllocateLeads sp w o r
allocate_same sp w r e d = subst⁻¹ (λ (v : Placed). AllocateLeads sp w v r) e d

-- what was decided is done
module _ (sp : Space) (w : List ℕ) (o : Placed) (r : Result (ℕ × Plan) AllocateRefusal) (l : AllocateLeads sp w o r) where
  change_of : {b : ℕ} {plan : Plan} → r ≡ Ok (b, plan) → AllocateLeads sp w o (Ok (b, plan))
  change_of e = subst (AllocateLeads sp w o) e l

  pub allocate_fits : {b : ℕ} {plan : Plan} → r ≡ Ok (b, plan) → CarryFits sp.count w plan
  allocate_fits e = (change_of e).1.fits

  pub allocate_done : {b : ℕ} {plan : Plan} {next : Space} {v : List ℕ} → r ≡ Ok (b, plan) → carry_said next v ≡ carried sp w plan
      → ◌≡◌ {A = Placed} (record { address = b; outcome = carry_said next v }) o
  allocate_done e q = let c = change_of e in (λ i. record { address = c.0 i; outcome = (q ∙ c.1.leads) i })

  pub allocate_not : {answer : AllocateRefusal} → r ≡ Err answer
      → ◌≡◌ {A = Placed} (record { address = no_address; outcome = refused (allocate_refusal answer) sp w }) o
  allocate_not {answer} e =
      let c : AllocateLeads sp w o (Err answer) = subst (AllocateLeads sp w o) e l in
      (λ i. record { address = c.0 i; outcome = c.1.leads i })

-- ---- the chosen place

module _ (sp : Space) (k : Class) (s : ℕ) (w : List ℕ) (q : Place) (h : PlaceFits sp k s w q) where
  pub place_grow : GrowFits sp.page sp.limit sp.end
  place_grow =
      let r = h.sound.ranges in
      record { page = r.page; largest = r.limit_largest; within = r.end_limit }

  -- it ends within the limit, and stands among the live ones before the place's entry
  pub record Stands (b i : ℕ) : Type 0 where
    pub entry : i ≤ sp.count
    pub limit : b + s ≤ sp.limit
    pub lives : insert (piece b s (Live k)) (lives_of sp w) ≡ lives_around sp w i i (piece b s (Live k) ∷ [])

  stands_in : {i b : ℕ} → PlaceIn w sp.count i b s → Stands b i
  stands_in {i} {b} f =
      let t = h.sound.rules.tiling in
      record {
        entry = omega (arith, f.lt);
        limit = omega (arith, f.high, ap behind f.is, ends_below w t i f.lt, h.sound.ranges.end_limit);
        lives =
            insert_within w sp.count t i f.entry f.class (piece b s (Live k)) f.lt f.is f.free f.low
            (omega (arith, f.high, h.some));
      }

  pub stands : beyondb sp s q ≡ false → Stands (place_address sp.end q) (place_entry sp.count q)
  stands e = go q (sym h.chosen) e
    where
      pos : 0 < sp.page
      pos = page_pos h.sound.ranges.page

      go : (r : Place) → place_for sp.page k s (entries_of sp w) ≡ r → beyondb sp s r ≡ false
          → Stands (place_address sp.end r) (place_entry sp.count r)
      go (Section i b) c g = stands_in (section_in sp.page pos w sp.count k s i b c)
      go (Page i b) c g = stands_in (page_in sp.page pos w sp.count k s i b h.small c)
      go End c g =
          record {
            entry = omega arith;
            limit = limit_kept sp.page sp.limit sp.end s pos g;
            lives = insert_last w sp.count h.sound.rules.tiling (piece sp.end s (Live k)) refl;
          }

  -- the same, of the entry and the address as the code has them
  module _ (e : beyondb sp s q ≡ false) {i b : ℕ} (i_is : i ≡ place_entry sp.count q) (b_is : b ≡ place_address sp.end q) where
    pub stands_at : Stands b i
    stands_at = rw (i_is, b_is) (stands e)

    pub place_settle : SettleFits sp.page sp.end sp.count i i w
    place_settle = record { limit = sp.limit; sound = h.sound; low = omega arith; high = stands_at.entry }

    placed_settled : placed sp k s w q ≡ placed_at b (settled sp w (lives_around sp w i i (piece b s (Live k) ∷ [])))
    unfolding placed
    placed_settled =
        refusing_no unplaced sp w _ beyond_limit _ e
        ∙ (ap (λ (v : ℕ). placed_at v (settled sp w (insert (piece v s (Live k)) (lives_of sp w)))) (sym b_is)
        ∙ ap (λ (ps : List Piece). placed_at b (settled sp w ps)) stands_at.lives)

    -- r is what `settle` decided
    module _ {r : Option Plan} (is : r ≡ if_room w (plan_with sp.page sp.end sp.count i i w (piece b s (Live k)))) where
      pub placed_change : {plan : Plan} → r ≡ Some plan → AllocateLeads sp w (placed sp k s w q) (Ok (b, plan))
      placed_change r_is =
          rw placed_settled (placed_carried b (settled_carried sp w _ h.sound (ready_with place_settle _ (sym r_is ∙ is))))

      pub placed_full : r ≡ None → AllocateLeads sp w (placed sp k s w q) (Err allocate.TableFull)
      placed_full r_is = rw placed_settled (placed_not b (settled_not sp w _ (full_with place_settle _ (sym r_is ∙ is))))

  pub placed_beyond : beyondb sp s q ≡ true → AllocateLeads sp w (placed sp k s w q) (Err allocate.BeyondLimit)
  unfolding placed
  placed_beyond e = refusal_leads sp w (refusing_yes unplaced sp w _ beyond_limit _ e) (λ z. omega (arith, z))

-- ---- a request

module _ (sp : Space) (t s : ℕ) (w : List ℕ) where
  pub allocated_unsound : soundb sp w ≡ false → allocated sp t s w ≡ unplaced (refused not_sound sp w)
  unfolding allocated
  allocated_unsound e = refusing_yes unplaced sp w _ not_sound _ (ap not e)

  module _ (sound : SoundSpace sp w) where
    checked : not (soundb sp w) ≡ false
    checked = ap not (sound_true sp w sound)

    pub allocated_unknown : typeb t ≡ false → AllocateLeads sp w (allocated sp t s w) (Err allocate.UnknownType)
    unfolding allocated
    allocated_unknown f =
        refusal_leads sp w (refusing_no unplaced sp w _ not_sound _ checked ∙ refusing_yes unplaced sp w _ unknown_code _ (ap not f))
        (λ z. omega (arith, z))

    pub allocated_zero : typeb t ≡ true → s ≡ 0 → AllocateLeads sp w (allocated sp t s w) (Err allocate.NoBytes)
    unfolding allocated
    allocated_zero f g =
        refusal_leads sp w (refusing_no unplaced sp w _ not_sound _ checked
        ∙ (refusing_no unplaced sp w _ unknown_code _ (ap not f) ∙ refusing_yes unplaced sp w _ zero_asked _ (eq-eqb s 0 g)))
        (λ z. omega (arith, z))

    pub allocated_placed : typeb t ≡ true → (s ≡ 0 → ⊥) → (k : Class) (q : Place) → k ≡ class_for sp.page t s
        → q ≡ place_for sp.page k s (entries_of sp w) → allocated sp t s w ≡ placed sp k s w q
    unfolding allocated
    allocated_placed f g k q ek eq =
        refusing_no unplaced sp w _ not_sound _ checked
        ∙ (refusing_no unplaced sp w _ unknown_code _ (ap not f)
        ∙ (refusing_no unplaced sp w _ zero_asked _ (ne_eqb s 0 g)
        ∙ (ap (λ (m : Class). placed sp m s w (place_for sp.page m s (entries_of sp w))) (sym ek) ∙ ap (placed sp k s w) (sym eq))))

    pub place_fits : (s ≡ 0 → ⊥) → (k : Class) (q : Place) → k ≡ class_for sp.page t s → q ≡ place_for sp.page k s (entries_of sp w)
        → PlaceFits sp k s w q
    place_fits g k q ek eq =
        record {
          sound = sound;
          chosen = eq;
          some = split 1 s (λ l. l) (λ l. absurd (g (omega arith)));
          small = λ h. class_small sp.page t s (rw ek at h);
        }
