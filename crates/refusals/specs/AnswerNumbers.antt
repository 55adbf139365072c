-- The numbered refusals of document 01 and of the requests, and the number of what a call on a space answers.
--
--   out_of_range .. other_size      the numbered refusals; success is 0. 10 to 12 are a message's, and 10 a listing's too. No refusal has the number 7
--   no_address                      the address answer of a refused call
--   open_refusal .. list_refusal    the number of each refusal of each call; not_named_number, not_resized_number of each reason why a piece is not
--                                   named, or keeps its size
--   number_by f r                   the number of an answer r: 0, or f of its refusal
--   open_number .. list_number      the number of each case of each call's answer
--   address_of, count_of            the address answer, the count answer, of each case
--
-- Assumes nothing.
use Rattle.std.specs.Prelude.{ℕ, ◌-◌, ◌^◌, Result, Ok, Err}
use Rattle.refusals.specs.declared.OpenRefusal.{OpenRefusal}
use Rattle.refusals.specs.declared.AllocateRefusal.{AllocateRefusal}
use Rattle.refusals.specs.declared.NotNamed.{NotNamed}
use Rattle.refusals.specs.declared.ReleaseRefusal.{ReleaseRefusal}
use Rattle.refusals.specs.declared.NotResized.{NotResized}
use Rattle.refusals.specs.declared.ResizeRefusal.{ResizeRefusal}
use Rattle.refusals.specs.declared.ListRefusal.{ListRefusal}
use Rattle.refusals.specs.declared.OpenRefusal.TheVariants as opening
use Rattle.refusals.specs.declared.AllocateRefusal.TheVariants as allocating
use Rattle.refusals.specs.declared.NotNamed.TheVariants as unnamed
use Rattle.refusals.specs.declared.ReleaseRefusal.TheVariants as releasing
use Rattle.refusals.specs.declared.NotResized.TheVariants as unsized
use Rattle.refusals.specs.declared.ResizeRefusal.TheVariants as resizing
use Rattle.refusals.specs.declared.ListRefusal.TheVariants as listing

-- ---- the numbers

abbrev pub out_of_range : ℕ
out_of_range = 1

abbrev pub not_sound : ℕ
not_sound = 2

abbrev pub unknown_code : ℕ
unknown_code = 3

abbrev pub zero_asked : ℕ
zero_asked = 4

abbrev pub beyond_limit : ℕ
beyond_limit = 5

abbrev pub table_full : ℕ
table_full = 6

abbrev pub no_room_behind : ℕ
no_room_behind = 8

abbrev pub too_little_left : ℕ
too_little_left = 9

abbrev pub slice_too_short : ℕ
slice_too_short = 10

abbrev pub other_version : ℕ
other_version = 11

abbrev pub broken_field : ℕ
broken_field = 12

-- what is wrong with the address and the size that are to name a piece
abbrev pub beyond_end : ℕ
beyond_end = 13

abbrev pub in_free : ℕ
in_free = 14

abbrev pub inside_live : ℕ
inside_live = 15

abbrev pub other_size : ℕ
other_size = 16

abbrev pub no_address : ℕ
no_address = 2 ^ 64 - 1

-- ---- each refusal of each call

abbrev pub open_refusal : OpenRefusal → ℕ
open_refusal opening.OutOfRange = out_of_range

abbrev pub allocate_refusal : AllocateRefusal → ℕ
allocate_refusal allocating.NotSound = not_sound
allocate_refusal allocating.UnknownType = unknown_code
allocate_refusal allocating.NoBytes = zero_asked
allocate_refusal allocating.BeyondLimit = beyond_limit
allocate_refusal allocating.TableFull = table_full

abbrev pub not_named_number : NotNamed → ℕ
not_named_number unnamed.BeyondEnd = beyond_end
not_named_number unnamed.InFree = in_free
not_named_number unnamed.InsideLive = inside_live
not_named_number unnamed.OtherSize = other_size

abbrev pub release_refusal : ReleaseRefusal → ℕ
release_refusal releasing.NotSound = not_sound
release_refusal (releasing.NotNamed why) = not_named_number why
release_refusal releasing.TableFull = table_full

abbrev pub not_resized_number : NotResized → ℕ
not_resized_number unsized.NoRoomBehind = no_room_behind
not_resized_number unsized.BeyondLimit = beyond_limit
not_resized_number unsized.TooLittleLeft = too_little_left

abbrev pub resize_refusal : ResizeRefusal → ℕ
resize_refusal resizing.NotSound = not_sound
resize_refusal resizing.NoBytes = zero_asked
resize_refusal (resizing.NotNamed why) = not_named_number why
resize_refusal (resizing.NotResized why) = not_resized_number why
resize_refusal resizing.TableFull = table_full

abbrev pub list_refusal : ListRefusal → ℕ
list_refusal listing.NotSound = not_sound
list_refusal listing.UnknownManager = unknown_code
list_refusal listing.SliceTooShort = slice_too_short

-- ---- each case of each answer

-- 0, where the call is accepted, and else the number of its refusal
abbrev pub number_by : {T E : Type 0} → (E → ℕ) → Result T E → ℕ
number_by number (Ok x) = 0
number_by number (Err e) = number e

abbrev pub open_number : Result Unit OpenRefusal → ℕ
open_number r = number_by open_refusal r

abbrev pub allocate_number : Result ℕ AllocateRefusal → ℕ
allocate_number r = number_by allocate_refusal r

abbrev pub address_of : Result ℕ AllocateRefusal → ℕ
address_of (Ok a) = a
address_of (Err e) = no_address

abbrev pub release_number : Result Unit ReleaseRefusal → ℕ
release_number r = number_by release_refusal r

abbrev pub resize_number : Result Unit ResizeRefusal → ℕ
resize_number r = number_by resize_refusal r

abbrev pub list_number : Result ℕ ListRefusal → ℕ
list_number r = number_by list_refusal r

abbrev pub count_of : Result ℕ ListRefusal → ℕ
count_of (Ok k) = k
count_of (Err e) = 0
