-- What comparing a summary with a fresh one says, list after list.
--
--   compared        the four tests together are the test of the specs
--
-- Not here: two lists compared, number after number (pages/proofs/SameLaws.antt); what the tests say (totals' AgreeLaws).
use mathlib.Core.Bool.{◌&&◌, and_assoc}
use mathlib.Core.List.{List}
use mathlib.Core.Path.{◌≡◌}
use lib.Dec.{eqb}
use lib.IntN.{ℤ}
use lib.Pointwise.{pointwise}
use Rattle.pages.proofs.SameLaws.{same_pointwise}
use Rattle.pieces.specs.declared.Piece.{Piece}
use Rattle.totals.specs.Summary.{summary_of, agreesb}
use Rattle.totals.specs.declared.Summary.{Summary}

pub compared : (s f : Summary) (es : List Piece) {m : ℤ} → f ≡ summary_of m es
    → ((pointwise eqb s.sections f.sections && pointwise eqb s.bytes f.bytes) && pointwise eqb s.largest f.largest) && pointwise eqb s.decades f.decades
    ≡ agreesb s es
unfolding agreesb
compared s f es is =
    rw (
      same_pointwise s.sections f.sections,
      same_pointwise s.bytes f.bytes,
      same_pointwise s.largest f.largest,
      same_pointwise s.decades f.decades,
      and_assoc,
      and_assoc,
      is,
    )
