-- A live entry's name is one of the live pieces'.
--
--   live_among, among_live    both ways
--
-- Assumes nothing.
use mathlib.Core.List.{List}
use borrow.Author.Tests.{eq-eqb}
use Rattle.accepted.proofs.AmongLaws.{Among, mem_lives, lives_entry}
use Rattle.demands.specs.Calls.{IsLive}
use Rattle.pages.proofs.Numbers.{both}
use Rattle.pieces.specs.declared.Piece.{Piece}
use Rattle.rules.proofs.RemoveLaws.{named_address, named_size}
use Rattle.rules.specs.Editing.{Name}
use Rattle.table.specs.Fill.{lives}

pub live_among : {es : List Piece} (n : Name) → IsLive es n → Among n (lives es)
live_among n h =
    let x = h.entry in
    record {
      it = x;
      among = mem_lives h.named.live h.among;
      named = both _ _ (eq-eqb x.address n.address h.named.address) (eq-eqb x.size n.size h.named.size);
    }

pub among_live : (es : List Piece) (n : Name) → Among n (lives es) → IsLive es n
among_live es n h =
    let l = lives_entry es h.it h.among in
    record {
      entry = h.it;
      among = l.among;
      named = record {
        class = l.class;
        live = l.live;
        address = named_address n h.it h.named;
        size = named_size n h.it h.named;
      };
    }
