-- The numbered refusals, as document 01 and the requests have them: of each call its numbers in their order, and when each is given.
--
--   Given r k when rest        the number r of an answer is k if `when` holds, and else the rest decides
--   UnknownType t, UnknownManager m     the code is none of the known ones
--   ZeroAsked z m              the size or the change is 0
--   NameCase                   what an address and a size can be to a table, one of five
--   IsSo sp w a z c            the address a and the size z are that
--   HasRoom sp w a z m         a live piece of z bytes at a has the stated room for m bytes behind it
--   HasLeft sp w a z k         enough remains of a live piece of z bytes at a without k
--   NoPlace sp w c s           the only place for s bytes of class c is at E, and E would pass M
--   LastLarge sp w a z         a live large piece of z bytes at a is the last of the file
--   TooMany sp w ps            the table that the live pieces ps determine needs more than C entries
--   FullThere sp w t s         so it is with the new piece at the rule's place
--   NameRow sp w a z r rest    what is wrong with the name of a and z, in the place of the row where the calls have it: 13 to 16, and else the rest
--   Row c sp w r               the row of the call c: its answer has the number r
--   ListRow sp m w v r         the row of a listing
--
-- `InFree`, `InsideLive` and `OtherSize`, which entry an address lies in, are in find/specs/Find.antt; `RoomBehind` and `Remains`, which 8 and 9
-- ask for, in room/specs/Conditions.antt. Assumes nothing.
use Rattle.std.specs.Prelude.{ℕ, ◌+◌, ◌-◌, ◌*◌, ◌≤◌, ◌<◌, ◌≡◌, length}
use mathlib.Core.List.{List, Memᴰ}
use Rattle.accepted.specs.Places.{NoSection, PlaceIs}
use Rattle.demands.specs.Calls.{Call, opens, allocates, releases, extends, shortens, IsLive}
use Rattle.find.specs.Find.{InFree, InsideLive, OtherSize}
use Rattle.pages.specs.Pages.{up}
use Rattle.pieces.specs.Pieces.{piece}
use Rattle.pieces.specs.declared.Class.TheVariants.{Large}
use Rattle.pieces.specs.declared.Class.{Class}
use Rattle.pieces.specs.declared.Piece.{Piece}
use Rattle.pieces.specs.declared.Status.TheVariants.{Live}
use Rattle.refusals.specs.AnswerNumbers.{out_of_range, not_sound, unknown_code, zero_asked, beyond_limit, table_full}
use Rattle.refusals.specs.AnswerNumbers.{beyond_end, in_free, inside_live, other_size, no_room_behind, too_little_left, slice_too_short}
use Rattle.requests.specs.Requests.{metadata_code, raw_code, large_code, class_for, class_of_manager}
use Rattle.room.specs.Conditions.{RoomBehind, Remains}
use Rattle.rules.specs.Editing.{insert, remove, resize}
use Rattle.sections.specs.Sections.{sections, pair_words}
use Rattle.space.specs.Giving.{name_of}
use Rattle.space.specs.Outcomes.{SoundSpace, entries_of, lives_of}
use Rattle.space.specs.declared.Space.{Space}
use Rattle.table.specs.Fill.{fill}
use Rattle.table.specs.Sound.{capacity, Ranges}

pub data Given (r k : ℕ) (when rest : Type 0) : Type 0 where
  given : when → r ≡ k → Given r k when rest
  passed_on : (when → ⊥) → rest → Given r k when rest

-- ---- when each is given

-- 3
abbrev pub UnknownType : ℕ → Type 0
UnknownType t = (t ≡ metadata_code → ⊥) × (t ≡ raw_code → ⊥)

abbrev pub UnknownManager : ℕ → Type 0
UnknownManager m = (m ≡ metadata_code → ⊥) × (m ≡ raw_code → ⊥) × (m ≡ large_code → ⊥)

-- 4
pub data ZeroAsked (z m : ℕ) : Type 0 where
  no_size : z ≡ 0 → ZeroAsked z m
  no_change : m ≡ 0 → ZeroAsked z m

-- 13 to 16: a live piece; or the address is at or beyond E, lies in free space, lies inside a live piece and isn't its start, or is a live
-- piece's start and the size differs
pub data NameCase : Type 0 where
  live_piece : NameCase
  beyond_end_lem : NameCase
  in_free_lem : NameCase
  inside_live_lem : NameCase
  other_size_lem : NameCase

abbrev pub IsSo : Space → List ℕ → ℕ → ℕ → NameCase → Type 0
IsSo sp w a z live_piece = IsLive (entries_of sp w) (name_of a z)
IsSo sp w a z beyond_end_lem = sp.end ≤ a
IsSo sp w a z in_free_lem = InFree a (entries_of sp w)
IsSo sp w a z inside_live_lem = InsideLive a (entries_of sp w)
IsSo sp w a z other_size_lem = OtherSize a z (entries_of sp w)

-- 8
pub record HasRoom (sp : Space) (w : List ℕ) (a z m : ℕ) : Type 0 where
  pub live : IsLive (entries_of sp w) (name_of a z)
  pub room : RoomBehind sp.page sp.end (entries_of sp w) a z m live.named.class

-- 9
pub record HasLeft (sp : Space) (w : List ℕ) (a z k : ℕ) : Type 0 where
  pub live : IsLive (entries_of sp w) (name_of a z)
  pub left : Remains sp.page live.named.class z k

-- 5: the rule's only remaining place is at E, and E, grown by the fewest whole pages that hold the bytes, would pass M
abbrev pub NoPlace : Space → List ℕ → Class → ℕ → Type 0
NoPlace sp w c s = NoSection sp.page c s (entries_of sp w) × (sp.limit < up sp.page (sp.end + s))

pub record LastLarge (sp : Space) (w : List ℕ) (a z : ℕ) : Type 0 where
  pub entry : Piece
  pub among : Memᴰ entry (entries_of sp w)
  pub live : entry.status ≡ Live Large
  pub address : entry.address ≡ a
  pub size : entry.size ≡ z
  pub last : a + z ≡ sp.end

-- 6
abbrev pub TooMany : Space → List ℕ → List Piece → Type 0
TooMany sp w ps = capacity (length w) < length (fill sp.page ps)

pub record FullThere (sp : Space) (w : List ℕ) (c : Class) (s : ℕ) : Type 0 where
  pub place : ℕ
  pub is : PlaceIs sp.page sp.end c s (entries_of sp w) place
  pub full : TooMany sp w (insert (piece place s (Live c)) (lives_of sp w))

-- ---- the rows

abbrev pub NameRow : Space → List ℕ → ℕ → ℕ → ℕ → Type 0 → Type 0
NameRow sp w a z r rest =
    Given r beyond_end (IsSo sp w a z beyond_end_lem)
    (Given r in_free (IsSo sp w a z in_free_lem)
    (Given r inside_live (IsSo sp w a z inside_live_lem)
    (Given r other_size (IsSo sp w a z other_size_lem) rest)))

-- of an opening: with E and n 0 the ranges are those of P, M and the table's length
abbrev pub Row : Call → Space → List ℕ → ℕ → Type 0
Row (opens P M) sp w r = Given r out_of_range (Ranges P M 0 0 (length w) → ⊥) (r ≡ 0)
Row (allocates t s) sp w r =
    Given r not_sound (SoundSpace sp w → ⊥)
    (Given r unknown_code (UnknownType t)
    (Given r zero_asked (s ≡ 0)
    (Given r beyond_limit (NoPlace sp w (class_for sp.page t s) s)
    (Given r table_full (FullThere sp w (class_for sp.page t s) s) (r ≡ 0)))))
Row (releases a z) sp w r =
    Given r not_sound (SoundSpace sp w → ⊥)
    (NameRow sp w a z r
    (Given r table_full (TooMany sp w (remove (name_of a z) (lives_of sp w))) (r ≡ 0)))
Row (extends a z m) sp w r =
    Given r not_sound (SoundSpace sp w → ⊥)
    (Given r zero_asked (ZeroAsked z m)
    (NameRow sp w a z r
    (Given r no_room_behind (HasRoom sp w a z m → ⊥)
    (Given r beyond_limit (LastLarge sp w a z × (sp.limit < up sp.page (a + z + m)))
    (Given r table_full (TooMany sp w (resize (name_of a z) (z + m) (lives_of sp w))) (r ≡ 0))))))
Row (shortens a z k) sp w r =
    Given r not_sound (SoundSpace sp w → ⊥)
    (Given r zero_asked (ZeroAsked z k)
    (NameRow sp w a z r
    (Given r too_little_left (HasLeft sp w a z k → ⊥)
    (Given r table_full (TooMany sp w (resize (name_of a z) (z - k) (lives_of sp w))) (r ≡ 0)))))

abbrev pub ListRow : Space → ℕ → List ℕ → List ℕ → ℕ → Type 0
ListRow sp m w v r =
    Given r not_sound (SoundSpace sp w → ⊥)
    (Given r unknown_code (UnknownManager m)
    (Given r slice_too_short (length v < length (sections (class_of_manager m) (entries_of sp w)) * pair_words) (r ≡ 0)))
