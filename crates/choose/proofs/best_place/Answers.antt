use Rattle.std.proofs.Common.{◌∙◌}
use Rattle.choose.proofs.WalkLaws.{held_first, held_last, turn}
use Rattle.choose.proofs.best_place.Goals as goal
use Rattle.choose.proofs.best_place.Goals.{then-size_if_fits-least+then-room+else-entry-s, else-size_if_fits-least}
use Rattle.choose.proofs.best_place.Goals.{else-size_if_fits-least-via-then-size_if_fits-least+else-room, else-size_if_fits-least-via-else-size_if_fits-least}
use Rattle.choose.proofs.best_place.Goals.{then-n-i, else-n-i+then-size_if_fits-least+then-room+then-entry-s}

pub walk-init : goal.walk-init
walk-init c = held_first _ _ _ _ _

pub room-requires : goal.room-requires
room-requires c =
    let pre = c.requires in
    let this = turn pre c.walk.invariant (rw c.count_in-n.ensures at c.if-n-i.false) c.words_at-entry.ensures c.from-wanted.ensures c.size_if_fits.ensures in
    (pre.page, this.asks c.if-size_if_fits-least.true)

pub walk-preserved : goal.walk-preserved
walk-preserved c =
    let this = turn c.requires c.walk.invariant (rw c.count_in-n.ensures at c.if-n-i.false) c.words_at-entry.ensures c.from-wanted.ensures c.size_if_fits.ensures in
    elim c.if-size_if_fits-least.branch [
      | then-size_if_fits-least+then-room+else-entry-s w ↦ rw (w.held-is, w.least-is) (this.taken w.if-size_if_fits-least.true w.room.ensures w.if-room.true)
      | else-size_if_fits-least w ↦
          rw (w.held-is, w.least-is)
          (elim w.else-size_if_fits-least.branch [
            | else-size_if_fits-least-via-then-size_if_fits-least+else-room v ↦ this.no_room v.if-size_if_fits-least.true v.room.ensures v.if-room.false
            | else-size_if_fits-least-via-else-size_if_fits-least v ↦ this.passed v.if-size_if_fits-least.false
          ])
    ]

pub returns : goal.returns
returns c =
    c.held_place.ensures
    ∙ elim c.if-n-i.branch [
      | then-n-i w ↦ rw (w.held-is, w.least-is) (held_last c.walk.invariant (rw c.count_in-n.ensures at w.if-n-i.true))
      | else-n-i+then-size_if_fits-least+then-room+then-entry-s w ↦
          let this = turn c.requires c.walk.invariant (rw c.count_in-n.ensures at w.if-n-i.false) w.words_at-entry.ensures c.from-wanted.ensures w.size_if_fits.ensures in
          rw (w.held-is, w.least-is) (this.exact w.if-size_if_fits-least.true w.room.ensures w.if-room.true w.if-entry-s.true)
    ]
