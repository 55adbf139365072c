-- Demand 2: one live piece is edited and no other, in bytes that were in no live piece.
--
--   edits, new_bytes     the statements
--
-- Assumes nothing.
use Prim.Native.Nat.{ℕ, ◌+◌, ◌-◌, ◌≤◌, ◌<◌}
use mathlib.Core.Bool.{Bool, true, false}
use mathlib.Core.List.{List, Memᴰ}
use mathlib.Core.Path.{◌≡◌, refl, ap, ◌∙◌}
use native.Mathlib.Omega.{arith}
use Rattle.accepted.proofs.AcceptedLaws.{naming_accepted}
use Rattle.accepted.proofs.EditedLaws.{insert_stays, resize_stays, Apart, before, after, insert_apart, NamedOr, is_named, is_apart, resize_apart}
use Rattle.accepted.proofs.AmongLaws.{mem_remove}
use Rattle.accepted.proofs.KeptLaws.{tabled_lives}
use Rattle.demands.proofs.Keeps.{changed}
use Rattle.demands.proofs.LiveLaws.{live_among}
use Rattle.demands.specs.Calls.{Call, allocates, extends, called, OnSpace, allocating, releasing, extending, shortening}
use Rattle.demands.specs.Calls.{lives_after, edited, Unnamed, IsLive}
use Rattle.demands.specs.Demands.{Accepted, Edits, NotLive, NewBytes}
use Rattle.pages.proofs.PageLaws.{page_pos}
use Rattle.pieces.proofs.PieceLaws.{entry_among}
use Rattle.pieces.specs.Pieces.{piece}
use Rattle.pieces.specs.declared.Piece.{Piece}
use Rattle.pieces.specs.declared.Status.TheVariants.{Live}
use Rattle.requests.specs.Requests.{class_for}
use Rattle.rules.proofs.RemoveLaws.{named_address, named_size}
use Rattle.rules.specs.Editing.{names}
use Rattle.space.specs.Giving.{name_of, resized_at, resized, extended}
use Rattle.space.specs.Outcomes.{entries_of, lives_of, Outcome}
use Rattle.space.specs.Placing.{allocated}
use Rattle.space.specs.declared.Space.{Space}
use Rattle.space.specs.declared.give.Way.TheVariants.{Longer}
use Rattle.table.specs.Theorems.{Holds}

-- ---- the live pieces

live_pieces : (c : Call) (sp : Space) (w : List ℕ) → Accepted c sp w → lives_after c sp w ≡ edited c sp w
live_pieces c sp w h =
    let k = changed sp w h.on_space h.sound h.done in
    ap (λ (o : Outcome). lives_of o.state o.words) k.is ∙ tabled_lives sp w (edited c sp w) k.good

other_name : (a z : ℕ) (x : Piece) → (x.address ≡ a → x.size ≡ z → ⊥) → names (name_of a z) x ≡ false
other_name a z x n = go (names (name_of a z) x) refl
  where
    go : (t : Bool) → names (name_of a z) x ≡ t → names (name_of a z) x ≡ false
    go true e = absurd (n (named_address (name_of a z) x e) (named_size (name_of a z) x e))
    go false e = e

others_edited : {c : Call} (sp : Space) (w : List ℕ) (x : Piece) → OnSpace c → Memᴰ x (lives_of sp w) → Unnamed c x → Memᴰ x (edited c sp w)
others_edited sp w x allocating h u = insert_stays _ h
others_edited sp w x (releasing {a = a} {z = z}) h u = mem_remove (name_of a z) (other_name a z x u) h
others_edited sp w x (extending {a = a} {z = z} {m = m}) h u = resize_stays (name_of a z) (z + m) (other_name a z x u) h
others_edited sp w x (shortening {a = a} {z = z} {k = k}) h u = resize_stays (name_of a z) (z - k) (other_name a z x u) h

pub edits : Edits
edits =
    record {
      live_pieces = live_pieces;
      others = λ c sp w h x i u. rw (live_pieces c sp w h) (others_edited sp w x h.on_space i u);
    }

-- ---- new bytes

apart_no_byte : {a b v : ℕ} {x : Piece} → Apart a b x → a ≤ v → v < b → Holds x v → ⊥
apart_no_byte (before l) h g k = omega (arith, k.from, k.to)
apart_no_byte (after l) h g k = omega (arith, k.from, k.to)

allocated_new : (sp : Space) (t s : ℕ) (w : List ℕ) → Accepted (allocates t s) sp w
    → NotLive sp w (allocated sp t s w).address ((allocated sp t s w).address + s)
allocated_new sp t s w h v l u x i k =
    let new : Piece = piece (allocated sp t s w).address s (Live (class_for sp.page t s)) in
    let g = (changed sp w h.on_space h.sound h.done).good in
    apart_no_byte (insert_apart sp.page (page_pos h.sound.ranges.page) new (lives_of sp w) g i) l u k

-- an extend that is accepted names a live piece
extended_live : (sp : Space) (a z m : ℕ) (w : List ℕ) → (extended sp a z m w).refusal ≡ 0 → IsLive (entries_of sp w) (name_of a z)
unfolding resized
extended_live sp a z m w e =
    let f = naming_accepted sp w _ a z (resized_at sp a z Longer m w) e in
    record { entry = f.entry; among = entry_among f.at.entry; named = f.at.named }

extended_new : (sp : Space) (a z m : ℕ) (w : List ℕ) → Accepted (extends a z m) sp w → NotLive sp w (a + z) (a + z + m)
unfolding called
extended_new sp a z m w h v l u x i k =
    let g = (changed sp w h.on_space h.sound h.done).good in
    let n = live_among (name_of a z) (extended_live sp a z m w h.done) in
    go (resize_apart sp.page (page_pos h.sound.ranges.page) (name_of a z) (z + m) (lives_of sp w) g n i)
  where
    go : NamedOr sp.page (page_pos h.sound.ranges.page) (name_of a z) (z + m) x → ⊥
    go (is_named e) = omega (arith, named_address (name_of a z) x e, named_size (name_of a z) x e, k.to)
    go (is_apart d) = apart_no_byte d (omega arith) (omega arith) k

pub new_bytes : NewBytes
new_bytes = record { allocating = allocated_new; extending = extended_new }
