-- What an address and a size are to a sound table: exactly one of five.
--
--   case_of r           the case of what was found; place_of c, where a case stands in a row
--   so_of, found_of    what was found is so, as a case; and a case that is so is what is found
--   one_of_five        the statement
--   not_before         of what was found no case that stands before its own is so
--
-- Assumes nothing.
use Prim.Native.Nat.{ℕ, ◌<◌}
use mathlib.Core.List.{List}
use mathlib.Core.Path.{◌≡◌, refl, sym, ap, ◌∙◌}
use native.Mathlib.Omega.{arith}
use Rattle.demands.specs.Demands.{OneOfFive}
use Rattle.demands.specs.Rows.{NameCase, live_piece, beyond_end_lem, in_free_lem, inside_live_lem, other_size_lem, IsSo}
use Rattle.find.proofs.FindLaws.{finds_right}
use Rattle.find.specs.Find.{Found, find_in, Finds}
use Rattle.pieces.proofs.PieceLaws.{entry_among, entry_number}
use Rattle.refusals.specs.declared.NotNamed.TheVariants.{BeyondEnd, InFree, InsideLive, OtherSize}
use Rattle.std.specs.Prelude.{Ok, Err}
use Rattle.space.specs.Outcomes.{SoundSpace, entries_of}
use Rattle.space.specs.declared.Space.{Space}

abbrev pub case_of : Found → NameCase
case_of (Ok (i, x)) = live_piece
case_of (Err BeyondEnd) = beyond_end_lem
case_of (Err InFree) = in_free_lem
case_of (Err InsideLive) = inside_live_lem
case_of (Err OtherSize) = other_size_lem

-- the place of a case in a row: the four refusals, and then the live piece
abbrev pub place_of : NameCase → ℕ
place_of beyond_end_lem = 0
place_of in_free_lem = 1
place_of inside_live_lem = 2
place_of other_size_lem = 3
place_of live_piece = 4

module _ (sp : Space) (w : List ℕ) (s : SoundSpace sp w) (a z : ℕ) where
  abbrev IsFound : Found → Type 0
  IsFound r = Finds sp.end a z (entries_of sp w) r

  abbrev told : Found
  told = find_in a z 0 (entries_of sp w)

  pub told_right : IsFound told
  told_right = (finds_right sp.page sp.end a z (entries_of sp w) s.rules).0

  so_of : (r : Found) → IsFound r → IsSo sp w a z (case_of r)
  so_of (Ok (i, x)) f = record { entry = x; among = entry_among f.entry; named = f.named }
  so_of (Err BeyondEnd) h = h
  so_of (Err InFree) h = h
  so_of (Err InsideLive) h = h
  so_of (Err OtherSize) h = h

  record FoundOf (c : NameCase) : Type 0 where
    found : Found
    right : IsFound found
    is : case_of found ≡ c

  found_of : (c : NameCase) → IsSo sp w a z c → FoundOf c
  found_of live_piece h =
      let i = entry_number h.among in
      record { found = Ok (i.0, h.entry); right = record { entry = i.1; named = h.named }; is = refl }
  found_of beyond_end_lem h = record { found = Err BeyondEnd; right = h; is = refl }
  found_of in_free_lem h = record { found = Err InFree; right = h; is = refl }
  found_of inside_live_lem h = record { found = Err InsideLive; right = h; is = refl }
  found_of other_size_lem h = record { found = Err OtherSize; right = h; is = refl }

  alone : (c : NameCase) → IsSo sp w a z c → c ≡ case_of told
  alone c h =
      let f = found_of c h in
      sym f.is ∙ ap case_of ((finds_right sp.page sp.end a z (entries_of sp w) s.rules).1 f.found f.right)

  pub not_before : (c : NameCase) (r : Found) → told ≡ r → place_of c < place_of (case_of r) → IsSo sp w a z c → ⊥
  not_before c r q l h = omega (arith, ap place_of (alone c h ∙ ap case_of q))

pub one_of_five : OneOfFive
one_of_five sp w s a z =
    record { case = case_of (told sp w s a z); so = so_of sp w s a z (told sp w s a z) (told_right sp w s a z); alone = alone sp w s a z }
