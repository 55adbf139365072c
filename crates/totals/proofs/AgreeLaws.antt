-- Laws of agreement: a summary agrees with entries exactly where it is theirs, but for the signed number (summary-agrees, agrees-summary).
--
use mathlib.Core.Bool.{Bool, true, ◌&&◌}
use mathlib.Core.List.{List}
use mathlib.Core.Path.{◌≡◌, ap}
use Rattle.pages.proofs.Numbers.{and_left, and_right, both}
use Rattle.pages.proofs.SameLaws.{same}
use Rattle.pages.specs.Same.{sameb}
use Rattle.pieces.specs.declared.Piece.{Piece}
use Rattle.totals.specs.Summary.{numbers_of, bytes_of, largest_of, decades_of, summary_of, agreesb}
use Rattle.totals.specs.declared.Summary.{Summary}

pub summary_agrees : (s : Summary) (es : List Piece) → s ≡ summary_of s.moved es → agreesb s es ≡ true
unfolding agreesb
summary_agrees s es e =
    both _ _ ((same _ _).1 (ap (λ (t : Summary). t.sections) e))
    (both _ _ ((same _ _).1 (ap (λ (t : Summary). t.bytes) e))
    (both _ _ ((same _ _).1 (ap (λ (t : Summary). t.largest) e)) ((same _ _).1 (ap (λ (t : Summary). t.decades) e))))

pub agrees_summary : (s : Summary) (es : List Piece) → agreesb s es ≡ true → s ≡ summary_of s.moved es
unfolding agreesb
agrees_summary s es h =
    let b1 : Bool = sameb s.sections (numbers_of es) in
    let b2 : Bool = sameb s.bytes (bytes_of es) in
    let b3 : Bool = sameb s.largest (largest_of es) in
    let b4 : Bool = sameb s.decades (decades_of es) in
    let r2 = and_right b1 (b2 && (b3 && b4)) h in
    let r3 = and_right b2 (b3 && b4) r2 in
    let e1 : s.sections ≡ numbers_of es = (same _ _).0 (and_left b1 (b2 && (b3 && b4)) h) in
    let e2 : s.bytes ≡ bytes_of es = (same _ _).0 (and_left b2 (b3 && b4) r2) in
    let e3 : s.largest ≡ largest_of es = (same _ _).0 (and_left b3 b4 r3) in
    let e4 : s.decades ≡ decades_of es = (same _ _).0 (and_right b3 b4 r3) in
    rw (← e1, ← e2, ← e3, ← e4)
