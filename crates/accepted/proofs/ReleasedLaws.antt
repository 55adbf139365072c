-- A release of a live piece of a sound table is accepted, and what it leaves.
--
--   released_done       the table and the state of the live pieces without it
--
-- Assumes nothing.
use Prim.Native.Nat.{ℕ, ◌≤◌}
use mathlib.Core.Bool.{false}
use mathlib.Core.List.{List}
use mathlib.Core.Path.{◌≡◌, refl, sym, ap, ◌∙◌}
use native.Mathlib.Omega.{arith}
use lib.ListN.{length}
use Rattle.accepted.proofs.AmongLaws.{Among, lives_entry}
use Rattle.accepted.proofs.KeptLaws.{tabled, sound_count}
use Rattle.find.proofs.FindLaws.{finds_right}
use Rattle.find.specs.Find.{Found, find_in, Named}
use Rattle.pages.proofs.PageLaws.{page_pos}
use Rattle.pieces.proofs.PieceLaws.{entry_number}
use Rattle.pieces.specs.declared.Piece.{Piece}
use Rattle.rules.proofs.CountLaws.{release_count}
use Rattle.rules.proofs.RemoveLaws.{named_address, named_size}
use Rattle.rules.specs.Editing.{Name, remove}
use Rattle.space.proofs.GiveLaws.{released_naming, naming_asked}
use Rattle.space.proofs.OutcomeLaws.{settled_room}
use Rattle.space.specs.Giving.{when_named, released_at, released}
use Rattle.space.specs.Outcomes.{SoundSpace, entries_of, lives_of, state_of, settled}
use Rattle.space.specs.declared.Space.{Space}
use Rattle.std.specs.Prelude.{Ok}
use Rattle.table.proofs.Theorems.{sound_good}
use Rattle.table.specs.Fill.{fill}
use Rattle.table.specs.Sound.{capacity}

module _ (sp : Space) (w : List ℕ) (n : Name) (s : SoundSpace sp w) (h : Among n (lives_of sp w)) where
  abbrev left : List Piece
  left = remove n (lives_of sp w)

  -- the front finds the piece
  found : (i : ℕ) × (find_in n.address n.size 0 (entries_of sp w) ≡ Ok (i, h.it))
  found =
      let l = lives_entry (entries_of sp w) h.it h.among in
      let i = entry_number l.among in
      let named : Named n.address n.size h.it =
      record { class = l.class; live = l.live; address = named_address n h.it h.named; size = named_size n h.it h.named } in
      let only = (finds_right sp.page sp.end n.address n.size (entries_of sp w) s.rules).1 in
      (i.0, sym (only (Ok (i.0, h.it)) (record { entry = i.1; named = named })))

  released_settled : released sp n.address n.size w ≡ settled sp w left
  unfolding when_named released_at
  released_settled =
      released_naming sp n.address n.size w
      ∙ (naming_asked sp w false n.address n.size _ s refl
      ∙ ap (λ (f : Found). when_named sp w (released_at sp n.address n.size w) f) found.1)

  left_few : length (fill sp.page left) ≤ capacity (length w)
  left_few = omega (arith, s.ranges.count, sound_count sp w s, release_count n (page_pos s.ranges.page) (sound_good s))

  pub released_done : released sp n.address n.size w ≡ record { refusal = 0; state = state_of sp left; words = tabled sp w left }
  released_done = released_settled ∙ settled_room sp w left left_few
